-- The parts of a tree are told by its words and what is known.
use Rattle.std.proofs.Common.{◌≡◌, ℕ, Bool, true, false, List, [], ◌∷◌, map, Option, Some, None, unwrap_or, slice_get, refl, sym, ap, ◌∙◌}
use Rattle.bt_core.specs.declared.map.MapDecl.{MapDecl}
use Rattle.bt_core.specs.declared.map.MapKind.{MapKind}
use Rattle.bt_core.specs.declared.map.MapKind.TheVariants.{Ints, Strs, Aggs}
use Rattle.bt_core.specs.declared.map.Shape.{Shape}
use Rattle.bt_core.specs.declared.map.Shape.TheVariants.{Int, Str}
use Rattle.bt_core.specs.declared.place.Place.{Place}
use Rattle.event_layout.specs.declared.field.Field.{Field}
use Rattle.typed_tree.specs.declared.expr.NumBuiltin.{NumBuiltin}
use Rattle.typed_tree.specs.declared.expr.NumBuiltin.TheVariants.{Pid}
use Rattle.typed_tree.specs.Parts.{TreePart, Constant, Literal, Numeric, Command, FieldOf, VarOf, MapOf, AggOf, Stepped, Prefixed, Joined, Both, Either, Chosen}
use Rattle.typed_tree.specs.Parts.{Assigned, Gathered, Deleted, Printed, Shown, Cleared, Zeroed, Jumped, Looped, Unrolled, Arm, Otherwise, NoOtherwise, Ending}
use Rattle.typed_tree.specs.Scope.{shape_of_field, kind_of_shape, is_count, is_summed_kind, same_bool}
use Rattle.expr_types.specs.declared.known.Known.{Known}
use Rattle.expr_types.specs.declared.known.Printed.{Printed as Call}
use Rattle.expr_types.specs.declared.known.Var.{Var}
use Rattle.expr_types.specs.Join.{builtin_made}
use Rattle.expr_types.specs.Known.{decl_in, place_of, call_at, event_field}
use Rattle.expr_types.specs.Mentions.{Word, NumberWord, TextWord, BuiltinWord, FieldWord, VarWord, MapWord, StepWord, UnaryWord, BinaryWord, AndWord, OrWord, ChooseWord}
use Rattle.expr_types.specs.Mentions.{AssignWord, GatherWord, DeleteWord, PrintfWord, ShowWord, ClearWord, ZeroWord, JumpWord, WhileWord, UnrollWord, ArmWord, ElseWord, NoElseWord, EndWord}
use Rattle.expr_types.specs.Typing.{IsNamed, IsMapOf, Fits, AllFit, titles_of, title, word_of, words_by}
use Rattle.expr_types.proofs.Later.{get_mapped, title_is, format_is}
use Rattle.job_laws.proofs.Apart.{AreApart, var_named, place_first, call_first}
use Rattle.job_laws.proofs.Finding.{first_at}
use Rattle.job_laws.proofs.Reader.{Stack, step, run}

-- ---- the part that a word stands for, as far as a reader of parts asks

abbrev pub first_part : List TreePart → TreePart
first_part [] = Ending
first_part (p ∷ ps) = p

abbrev pub field_part : Option Field → TreePart
field_part None = Ending
field_part (Some field) = FieldOf field (unwrap_or (shape_of_field field.kind) Int)

-- the number of the first variable of a name
abbrev pub var_number : List ℕ → List Var → ℕ
var_number name vars = first_at (λ v. var_named (record { name = name; shape = Int }) v) vars

abbrev pub var_part : ℕ → Option Var → TreePart
var_part number None = Ending
var_part number (Some var) = VarOf number var.shape

abbrev pub kind_part : ℕ → List Shape → MapKind → TreePart
kind_part number keys Ints = MapOf number keys Int
kind_part number keys Strs = MapOf number keys Str
kind_part number keys (Aggs kind) = AggOf number keys

abbrev pub map_part : ℕ → Option MapDecl → TreePart
map_part number None = Ending
map_part number (Some decl) = kind_part number decl.key_shape decl.kind

abbrev pub keys_of : Option MapDecl → List Shape
keys_of None = []
keys_of (Some decl) = decl.key_shape

abbrev pub part_by : Known → Word → TreePart
part_by k (NumberWord number) = Constant number
part_by k (TextWord text) = Literal text
part_by k (BuiltinWord builtin) = first_part (builtin_made builtin).parts
part_by k (FieldWord name) = field_part (event_field k.event name)
part_by k (VarWord name) = var_part (var_number name k.vars) (slice_get k.vars (var_number name k.vars))
part_by k (MapWord name parts) = map_part (place_of name k.names) (decl_in name k.decided)
part_by k (StepWord plus prefix) = Stepped plus prefix
part_by k (UnaryWord op) = Prefixed op
part_by k (BinaryWord op) = Joined op
part_by k AndWord = Both
part_by k OrWord = Either
part_by k ChooseWord = Chosen
part_by k (AssignWord op) = Assigned op
part_by k (GatherWord name parts kind) = Gathered (place_of name k.names) (keys_of (decl_in name k.decided)) kind (is_count kind)
part_by k (DeleteWord name parts) = Deleted (place_of name k.names) (keys_of (decl_in name k.decided))
part_by k (PrintfWord format place) = Printed (call_at format place k.printed) []
part_by k (ShowWord name top div) = Shown (place_of name k.names) top div
part_by k (ClearWord name) = Cleared (place_of name k.names)
part_by k (ZeroWord name) = Zeroed (place_of name k.names)
part_by k (JumpWord jump) = Jumped jump true
part_by k (WhileWord line) = Looped line
part_by k (UnrollWord turns line) = Unrolled turns line
part_by k ArmWord = Arm
part_by k ElseWord = Otherwise
part_by k NoElseWord = NoOtherwise
part_by k EndWord = Ending

-- ---- a part that fits what is known is read as what its word stands for

same : (a b : Bool) → same_bool a b ≡ true → a ≡ b
same true b e = sym e
same false true e = cc
same false false e = refl

numeric : (b : NumBuiltin) (k : Known) → part_by k (word_of (titles_of k) (Numeric b)) ≡ Numeric b
numeric Pid k = refl
numeric b k = refl

shape_part : (number : ℕ) (keys : List Shape) (shape : Shape) → kind_part number keys (kind_of_shape shape) ≡ MapOf number keys shape
shape_part number keys Int = refl
shape_part number keys Str = refl

summed_part : (number : ℕ) (keys : List Shape) (kind : MapKind) → is_summed_kind kind ≡ true → kind_part number keys kind ≡ AggOf number keys
summed_part number keys (Aggs kind) e = refl
summed_part number keys Ints e = cc
summed_part number keys Strs e = cc

module _ (k : Known) (apart : AreApart k) where
  -- the number of a map, by its title
  map_number : (number : ℕ) (name : List ℕ) → IsNamed k number name → place_of (title k.names number) k.names ≡ number
  map_number number name h =
      ap (λ (n : List ℕ). place_of n k.names) (title_is k.names number name h.numbered) ∙ (place_first name k.names ∙ apart.names number name h.numbered)

  -- what was decided of a map, by its title
  map_decl : (number : ℕ) (kind : MapKind) (keys : List Shape) (h : IsMapOf k number kind keys) → decl_in (title k.names number) k.decided ≡ Some h.declared.decl
  map_decl number kind keys h = ap (λ (n : List ℕ). decl_in n k.decided) (title_is k.names number h.name h.named.numbered) ∙ h.declared.found

  map_keys : (number : ℕ) (kind : MapKind) (keys : List Shape) (h : IsMapOf k number kind keys) → keys_of (decl_in (title k.names number) k.decided) ≡ keys
  map_keys number kind keys h = ap keys_of (map_decl number kind keys h) ∙ h.declared.shapes

  map_is : (number : ℕ) (kind : MapKind) (keys : List Shape) → IsMapOf k number kind keys → map_part (place_of (title k.names number) k.names) (decl_in (title k.names number) k.decided) ≡ kind_part number keys kind
  map_is number kind keys h =
      ap (λ n. map_part n (decl_in (title k.names number) k.decided)) (map_number number h.name h.named)
      ∙ (ap (map_part number) (map_decl number kind keys h)
      ∙ (ap (λ (l : List Shape). kind_part number l h.declared.decl.kind) h.declared.shapes ∙ ap (kind_part number keys) h.declared.kinds))

  var_is : (number : ℕ) (var : Var) → slice_get k.vars number ≡ Some var → part_by k (VarWord (title (titles_of k).variables number)) ≡ VarOf number var.shape
  var_is number var h =
      let of : Var → List ℕ = λ v. v.name in
      let found : var_number var.name k.vars ≡ number = apart.vars number var h in
      ap (λ (name : List ℕ). part_by k (VarWord name)) (title_is (map of k.vars) number var.name (get_mapped of k.vars number var h))
      ∙ (ap (λ n. var_part n (slice_get k.vars n)) found ∙ ap (var_part number) h)

  call_is : (number : ℕ) (call : Call) (shapes : List Shape) → slice_get k.printed number ≡ Some call → part_by k (word_of (titles_of k) (Printed number shapes)) ≡ Printed number []
  call_is number call shapes h =
      ap (λ (f : List ℕ × Place). Printed (call_at f.0 f.1 k.printed) []) (format_is k.printed number call h)
      ∙ ap (λ n. Printed n []) (call_first call.text call.place k.printed ∙ apart.calls number call h)

  is_back : (p : TreePart) → Fits k p → (st : Stack) → step (part_by k (word_of (titles_of k) p)) st ≡ step p st
  is_back (FieldOf f shape) h st = ap (λ (p : TreePart). step p st) (ap field_part h.0 ∙ ap (λ (o : Option Shape). FieldOf f (unwrap_or o Int)) h.1)
  is_back (VarOf number shape) h st = ap (λ (p : TreePart). step p st) (var_is number h.var h.numbered ∙ ap (VarOf number) h.shapes)
  is_back (MapOf number keys shape) h st = ap (λ (p : TreePart). step p st) (map_is number (kind_of_shape shape) keys h ∙ shape_part number keys shape)
  is_back (AggOf number keys) h st = ap (λ (p : TreePart). step p st) (map_is number h.kind keys h.map ∙ summed_part number keys h.kind h.summed)
  is_back (Gathered number keys kind counts) h st =
      ap (λ n. step (Gathered n (keys_of (decl_in (title k.names number) k.decided)) kind (is_count kind)) st) (map_number number h.0.name h.0.named)
      ∙ (ap (λ (l : List Shape). step (Gathered number l kind (is_count kind)) st) (map_keys number (Aggs kind) keys h.0)
      ∙ ap (λ (b : Bool). step (Gathered number keys kind b) st) (sym (same counts (is_count kind) h.1)))
  is_back (Deleted number keys) h st =
      ap (λ n. step (Deleted n (keys_of (decl_in (title k.names number) k.decided))) st) (map_number number h.map.name h.map.named)
      ∙ ap (λ (l : List Shape). step (Deleted number l) st) (map_keys number h.kind keys h.map)
  is_back (Printed number shapes) h st = ap (λ (p : TreePart). step p st) (call_is number h.call shapes h.numbered)
  is_back (Shown number top div) h st = ap (λ n. step (Shown n top div) st) (map_number number h.0.name h.0.named)
  is_back (Cleared number) h st = ap (λ n. step (Cleared n) st) (map_number number h.name h.named)
  is_back (Zeroed number) h st = ap (λ n. step (Zeroed n) st) (map_number number h.name h.named)
  is_back (Numeric b) h st = ap (λ (p : TreePart). step p st) (numeric b k)
  is_back (Jumped jump inside) h st = refl
  is_back (Unrolled turns line) h st = refl
  is_back (Constant number) h st = refl
  is_back (Literal text) h st = refl
  is_back Command h st = refl
  is_back (Stepped plus prefix) h st = refl
  is_back (Prefixed op) h st = refl
  is_back (Joined op) h st = refl
  is_back Both h st = refl
  is_back Either h st = refl
  is_back Chosen h st = refl
  is_back (Assigned op) h st = refl
  is_back (Looped line) h st = refl
  is_back Arm h st = refl
  is_back Otherwise h st = refl
  is_back NoOtherwise h st = refl
  is_back Ending h st = refl

  abbrev pub parts_by : List Word → List TreePart
  parts_by words = map (part_by k) words

  pub words_read : (ps : List TreePart) → AllFit k ps → (st : Stack) → run (parts_by (words_by (titles_of k) ps)) st ≡ run ps st
  words_read [] h st = refl
  words_read (p ∷ ps) h st =
      ap (step (part_by k (word_of (titles_of k) p))) (words_read ps h.1 st) ∙ is_back p h.0 (run ps st)
