-- An expression's parts are read to the expression.
use Rattle.std.proofs.Common.{◌≡◌, ◌++◌, ℕ, suc, Bool, true, false, List, [], ◌∷◌, length, map, refl, sym, ap, ◌∙◌, subst}
use Rattle.bt_core.specs.declared.map.Shape.{Shape}
use Rattle.bt_core.specs.declared.map.Shape.TheVariants.{Int, Str}
use Rattle.typed_tree.specs.declared.expr.AnyExpr.{AnyExpr, roll-AnyExpr, map-AnyExpr, fold-roll-AnyExpr, ind-AnyExpr}
use Rattle.typed_tree.specs.declared.expr.AnyExpr.TheOpen.{NumExpr-F, StrExpr-F, AnyExpr-F}
use Rattle.typed_tree.specs.declared.expr.NumExpr.{NumExpr, roll-NumExpr, map-NumExpr, fold-roll-NumExpr, ind-NumExpr}
use Rattle.typed_tree.specs.declared.expr.StrExpr.{StrExpr, roll-StrExpr, map-StrExpr, fold-roll-StrExpr}
use Rattle.typed_tree.specs.Parts as tree
use Rattle.typed_tree.specs.Parts.{Made, TreePart, made_of, num_parts, str_parts, parts_in, key_shapes, keyed_parts, compared, AggOf, Stepped, Prefixed, Joined, Both, Either, Chosen}
use Rattle.job_laws.proofs.Reader.{Value, Num, Text, Item, Held, Slot, Cell, Stack, num, push, value, num_in, any_in, num_of, any_of, map_of, past_keys, joined_by, is_equal, chosen, step, run, run-append, run_two, Pushes, PushesAny, PushesAll, all_pushed, keys_found, behind_keys}

abbrev pub AnyReads : AnyExpr → Type 0
AnyReads a = (st : Stack) → PushesAny (made_of a).parts st a

abbrev pub NumReads : NumExpr → Type 0
NumReads n = (st : Stack) → Pushes (num_parts n) st (Num n)

abbrev pub StrReads : StrExpr → Type 0
StrReads s = (st : Stack) → Pushes (str_parts s) st (Text s)

abbrev ManyAny : Type 0
ManyAny = (a : AnyExpr) × AnyReads a

abbrev ManyNum : Type 0
ManyNum = (n : NumExpr) × NumReads n

abbrev ManyStr : Type 0
ManyStr = (s : StrExpr) × StrReads s

abbrev firsts : List ManyAny → List AnyExpr
firsts ks = map (λ (k : ManyAny). k.0) ks

-- several values
pub values_pushed : (ks : List ManyAny) (st : Stack) → PushesAll (parts_in (map made_of (firsts ks))) (length (key_shapes (map made_of (firsts ks)))) st (firsts ks)
values_pushed [] st = record { items = []; reads = refl; many = refl; worth = refl }
values_pushed (k ∷ ks) st =
    let later = values_pushed ks st in
    let one = k.1 (all_pushed later.items st) in
    record {
      items = one.item ∷ later.items;
      reads = run-append (made_of k.0).parts (parts_in (map made_of (firsts ks))) st ∙ (ap (run (made_of k.0).parts) later.reads ∙ one.reads);
      many = ap (λ (n : ℕ). suc n) later.many;
      worth = ap (λ (a : AnyExpr). a ∷ map any_of later.items) one.worth ∙ ap (λ (es : List AnyExpr). k.0 ∷ es) later.worth;
    }

-- a map with its key
module _ (m : ℕ) (keys : List Made) (es : List AnyExpr) (st : Stack) where
  abbrev count : ℕ
  count = length (key_shapes keys)

  abbrev here : Stack
  here = run (parts_in keys) st

  pub cell_pushed : (shape : Shape) → PushesAll (parts_in keys) count st es → run (keyed_parts m keys shape) st ≡ push (Cell m es shape) st
  cell_pushed shape p =
      ap (λ (ks : List AnyExpr). push (Cell m ks shape) (past_keys count here)) (keys_found (parts_in keys) count st es p)
      ∙ ap (push (Cell m es shape)) (behind_keys (parts_in keys) count st es p)

  agg_pushed : PushesAll (parts_in keys) count st es → run (AggOf m (key_shapes keys) ∷ parts_in keys) st ≡ push (Held (Num (num (NumExpr-F.Agg (map_of m) es)))) st
  agg_pushed p =
      ap (λ (ks : List AnyExpr). push (Held (Num (num (NumExpr-F.Agg (map_of m) ks)))) (past_keys count here)) (keys_found (parts_in keys) count st es p)
      ∙ ap (push (Held (Num (num (NumExpr-F.Agg (map_of m) es))))) (behind_keys (parts_in keys) count st es p)

-- ---- expressions

abbrev num_from : NumExpr-F ManyAny ManyNum ManyStr → NumExpr-F AnyExpr NumExpr StrExpr
num_from h = map-NumExpr ManyAny ManyNum ManyStr AnyExpr NumExpr StrExpr (λ k. k.0) (λ k. k.0) (λ k. k.0) h

abbrev num_made : NumExpr-F ManyAny ManyNum ManyStr → List TreePart
num_made h = tree.num_layer (map-NumExpr AnyExpr NumExpr StrExpr Made (List TreePart) (List TreePart) made_of num_parts str_parts (num_from h))

-- two operands
record Two (ps qs : List TreePart) (st : Stack) (v w : Value) : Type 0 where
  left : Item
  right : Item
  reads : run (ps ++ qs) st ≡ push left (push right st)
  left_worth : value left ≡ v
  right_worth : value right ≡ w

two : (ps qs : List TreePart) (st : Stack) (v w : Value) → ((s : Stack) → Pushes ps s v) → ((s : Stack) → Pushes qs s w) → Two ps qs st v w
two ps qs st v w p q =
    let right = q st in
    let left = p (push right.item st) in
    record { left = left.item; right = right.item; reads = run_two ps qs st left.item right.item right.reads left.reads; left_worth = left.worth; right_worth = right.worth }

record Three (ps qs rs : List TreePart) (st : Stack) (u v w : Value) : Type 0 where
  one : Item
  left : Item
  right : Item
  reads : run (ps ++ (qs ++ rs)) st ≡ push one (push left (push right st))
  one_worth : value one ≡ u
  left_worth : value left ≡ v
  right_worth : value right ≡ w

three : (ps qs rs : List TreePart) (st : Stack) (u v w : Value) → ((s : Stack) → Pushes ps s u) → ((s : Stack) → Pushes qs s v) → ((s : Stack) → Pushes rs s w) → Three ps qs rs st u v w
three ps qs rs st u v w p q r =
    let pair = two qs rs st v w q r in
    let one = p (push pair.left (push pair.right st)) in
    record {
      one = one.item;
      left = pair.left;
      right = pair.right;
      reads = run-append ps (qs ++ rs) st ∙ (ap (run ps) pair.reads ∙ one.reads);
      one_worth = one.worth;
      left_worth = pair.left_worth;
      right_worth = pair.right_worth;
    }

-- a construct of two operands, or of three, that is made of their values
pairs : (word : TreePart) (made : Value → Value → Value) (ps qs : List TreePart) (st : Stack) (v w : Value) → ((i j : Item) → step word (push i (push j st)) ≡ push (Held (made (value i) (value j))) st)
    → Two ps qs st v w → Pushes (word ∷ (ps ++ qs)) st (made v w)
pairs word made ps qs st v w steps p = record {
  item = Held (made (value p.left) (value p.right));
  reads = ap (step word) p.reads ∙ steps p.left p.right;
  worth = ap (λ (x : Value). made x (value p.right)) p.left_worth ∙ ap (made v) p.right_worth;
}

choice : (ps qs rs : List TreePart) (st : Stack) (u v w : Value) → Three ps qs rs st u v w → Pushes (Chosen ∷ (ps ++ (qs ++ rs))) st (chosen (num_in u) v w)
choice ps qs rs st u v w p = record {
  item = Held (chosen (num_of p.one) (value p.left) (value p.right));
  reads = ap (step Chosen) p.reads;
  worth = ap (λ (x : Value). chosen (num_in x) (value p.left) (value p.right)) p.one_worth
      ∙ (ap (λ (x : Value). chosen (num_in u) x (value p.right)) p.left_worth ∙ ap (λ (x : Value). chosen (num_in u) v x) p.right_worth);
}

equal_is : (equal : Bool) → is_equal (compared equal) ≡ equal
equal_is true = refl
equal_is false = refl

num_case : (h : NumExpr-F ManyAny ManyNum ManyStr) (st : Stack) → Pushes (num_made h) st (Num (num (num_from h)))
num_case (NumExpr-F.Number n) st = record { item = Held (Num (num (NumExpr-F.Number n))); reads = refl; worth = refl }
num_case (NumExpr-F.Builtin b) st = record { item = Held (Num (num (NumExpr-F.Builtin b))); reads = refl; worth = refl }
num_case (NumExpr-F.NumExpr::Field f) st = record { item = Held (Num (num (NumExpr-F.NumExpr::Field f))); reads = refl; worth = refl }
num_case (NumExpr-F.NumExpr::Var n) st = record { item = Slot n Int; reads = refl; worth = refl }
num_case (NumExpr-F.NumExpr::Map m ks) st =
    record { item = Cell m.0 (firsts ks) Int; reads = cell_pushed m.0 (map made_of (firsts ks)) (firsts ks) st Int (values_pushed ks st); worth = refl }
num_case (NumExpr-F.Agg m ks) st =
    record { item = Held (Num (num (NumExpr-F.Agg m (firsts ks)))); reads = agg_pushed m.0 (map made_of (firsts ks)) (firsts ks) st (values_pushed ks st); worth = refl }
num_case (NumExpr-F.StepVar n plus prefix) st = record { item = Held (Num (num (NumExpr-F.StepVar n plus prefix))); reads = refl; worth = refl }
num_case (NumExpr-F.StepMap m ks plus prefix) st =
    record {
      item = Held (Num (num (NumExpr-F.StepMap m (firsts ks) plus prefix)));
      reads = ap (step (Stepped plus prefix)) (cell_pushed m.0 (map made_of (firsts ks)) (firsts ks) st Int (values_pushed ks st));
      worth = refl;
    }
num_case (NumExpr-F.Unary op d) st =
    let p = d.1 st in
    record {
      item = Held (Num (num (NumExpr-F.Unary op (num_of p.item))));
      reads = ap (step (Prefixed op)) p.reads;
      worth = ap (λ (x : Value). Num (num (NumExpr-F.Unary op (num_in x)))) p.worth;
    }
num_case (NumExpr-F.Binary op l r) st =
    pairs (Joined op) (λ v w. Num (joined_by op v w)) (num_parts l.0) (num_parts r.0) st (Num l.0) (Num r.0) (λ i j. refl) (two (num_parts l.0) (num_parts r.0) st (Num l.0) (Num r.0) l.1 r.1)
num_case (NumExpr-F.Compare equal l r) st =
    let p = pairs (Joined (compared equal)) (λ v w. Num (joined_by (compared equal) v w)) (str_parts l.0) (str_parts r.0) st (Text l.0) (Text r.0) (λ i j. refl) (two (str_parts l.0) (str_parts r.0) st (Text l.0) (Text r.0) l.1 r.1) in
    record { item = p.item; reads = p.reads; worth = p.worth ∙ ap (λ (b : Bool). Num (num (NumExpr-F.Compare b l.0 r.0))) (equal_is equal) }
num_case (NumExpr-F.AndThen l r) st =
    pairs Both (λ v w. Num (num (NumExpr-F.AndThen (num_in v) (num_in w)))) (num_parts l.0) (num_parts r.0) st (Num l.0) (Num r.0) (λ i j. refl)
    (two (num_parts l.0) (num_parts r.0) st (Num l.0) (Num r.0) l.1 r.1)
num_case (NumExpr-F.OrElse l r) st =
    pairs Either (λ v w. Num (num (NumExpr-F.OrElse (num_in v) (num_in w)))) (num_parts l.0) (num_parts r.0) st (Num l.0) (Num r.0) (λ i j. refl)
    (two (num_parts l.0) (num_parts r.0) st (Num l.0) (Num r.0) l.1 r.1)
num_case (NumExpr-F.NumExpr::Choose c y o) st =
    choice (num_parts c.0) (num_parts y.0) (num_parts o.0) st (Num c.0) (Num y.0) (Num o.0)
    (three (num_parts c.0) (num_parts y.0) (num_parts o.0) st (Num c.0) (Num y.0) (Num o.0) c.1 y.1 o.1)

abbrev str_from : StrExpr-F ManyAny ManyNum ManyStr → StrExpr-F AnyExpr NumExpr StrExpr
str_from h = map-StrExpr ManyAny ManyNum ManyStr AnyExpr NumExpr StrExpr (λ k. k.0) (λ k. k.0) (λ k. k.0) h

abbrev str_made : StrExpr-F ManyAny ManyNum ManyStr → List TreePart
str_made h = tree.str_layer (map-StrExpr AnyExpr NumExpr StrExpr Made (List TreePart) (List TreePart) made_of num_parts str_parts (str_from h))

str_case : (h : StrExpr-F ManyAny ManyNum ManyStr) (st : Stack) → Pushes (str_made h) st (Text (roll-StrExpr (str_from h)))
str_case (StrExpr-F.Text s) st = record { item = Held (Text (roll-StrExpr (StrExpr-F.Text s))); reads = refl; worth = refl }
str_case StrExpr-F.Comm st = record { item = Held (Text (roll-StrExpr StrExpr-F.Comm)); reads = refl; worth = refl }
str_case (StrExpr-F.StrExpr::Field f) st = record { item = Held (Text (roll-StrExpr (StrExpr-F.StrExpr::Field f))); reads = refl; worth = refl }
str_case (StrExpr-F.StrExpr::Var n) st = record { item = Slot n Str; reads = refl; worth = refl }
str_case (StrExpr-F.StrExpr::Map m ks) st =
    record { item = Cell m.0 (firsts ks) Str; reads = cell_pushed m.0 (map made_of (firsts ks)) (firsts ks) st Str (values_pushed ks st); worth = refl }
str_case (StrExpr-F.StrExpr::Choose c y o) st =
    choice (num_parts c.0) (str_parts y.0) (str_parts o.0) st (Num c.0) (Text y.0) (Text o.0)
    (three (num_parts c.0) (str_parts y.0) (str_parts o.0) st (Num c.0) (Text y.0) (Text o.0) c.1 y.1 o.1)

abbrev any_from : AnyExpr-F ManyAny ManyNum ManyStr → AnyExpr-F AnyExpr NumExpr StrExpr
any_from h = map-AnyExpr ManyAny ManyNum ManyStr AnyExpr NumExpr StrExpr (λ k. k.0) (λ k. k.0) (λ k. k.0) h

abbrev any_made : AnyExpr-F ManyAny ManyNum ManyStr → Made
any_made h = tree.any_layer (map-AnyExpr AnyExpr NumExpr StrExpr Made (List TreePart) (List TreePart) made_of num_parts str_parts (any_from h))

of_value : (ps : List TreePart) (st : Stack) (v : Value) → Pushes ps st v → PushesAny ps st (any_in v)
of_value ps st v p = record { item = p.item; reads = p.reads; worth = ap any_in p.worth }

any_case : (h : AnyExpr-F ManyAny ManyNum ManyStr) (st : Stack) → PushesAny (any_made h).parts st (roll-AnyExpr (any_from h))
any_case (AnyExpr-F.Num d) st = of_value (num_parts d.0) st (Num d.0) (d.1 st)
any_case (AnyExpr-F.Str d) st = of_value (str_parts d.0) st (Text d.0) (d.1 st)

num_step : (x : NumExpr-F AnyExpr NumExpr StrExpr) (h : NumExpr-F ManyAny ManyNum ManyStr) → num_from h ≡ x → NumReads (roll-NumExpr x)
num_step x h e = subst (λ (y : NumExpr-F AnyExpr NumExpr StrExpr). NumReads (roll-NumExpr y)) e
    (subst (λ (ps : List TreePart). (st : Stack) → Pushes ps st (Num (roll-NumExpr (num_from h))))
    (sym (fold-roll-NumExpr Made (List TreePart) (List TreePart) tree.any_layer tree.num_layer tree.str_layer (num_from h)))
    (num_case h))

str_step : (x : StrExpr-F AnyExpr NumExpr StrExpr) (h : StrExpr-F ManyAny ManyNum ManyStr) → str_from h ≡ x → StrReads (roll-StrExpr x)
str_step x h e = subst (λ (y : StrExpr-F AnyExpr NumExpr StrExpr). StrReads (roll-StrExpr y)) e
    (subst (λ (ps : List TreePart). (st : Stack) → Pushes ps st (Text (roll-StrExpr (str_from h))))
    (sym (fold-roll-StrExpr Made (List TreePart) (List TreePart) tree.any_layer tree.num_layer tree.str_layer (str_from h)))
    (str_case h))

any_step : (x : AnyExpr-F AnyExpr NumExpr StrExpr) (h : AnyExpr-F ManyAny ManyNum ManyStr) → any_from h ≡ x → AnyReads (roll-AnyExpr x)
any_step x h e = subst (λ (y : AnyExpr-F AnyExpr NumExpr StrExpr). AnyReads (roll-AnyExpr y)) e
    (subst (λ (m : Made). (st : Stack) → PushesAny m.parts st (roll-AnyExpr (any_from h)))
    (sym (fold-roll-AnyExpr Made (List TreePart) (List TreePart) tree.any_layer tree.num_layer tree.str_layer (any_from h)))
    (any_case h))

pub num_reads : (e : NumExpr) → NumReads e
num_reads e = ind-NumExpr AnyReads NumReads StrReads any_step num_step str_step e

pub any_reads : (e : AnyExpr) → AnyReads e
any_reads e = ind-AnyExpr AnyReads NumReads StrReads any_step num_step str_step e
