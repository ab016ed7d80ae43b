-- Items that a walk emits are of the script's formats and maps.
use Rattle.std.proofs.Common.{◌≡◌, ℕ, suc, ℤ, pos, List, [], ◌∷◌, Option, Some, None, All, refl, sym, subst, arith, rules}
use Rattle.std.specs.Prelude.{IsTrue, IsSomeAnd, slice_get, int_le, ◌≤ℤ◌, ◌==◌}
use Rattle.std.specs.List.{AllByRecursion}
use Rattle.std.proofs.lemmas.List.Elements.{All-from_recursion}
use Rattle.bt_core.specs.declared.context.Context.{Context}
use Rattle.bt_core.specs.declared.item.Item.TheVariants as items
use Rattle.bt_core.specs.declared.map.MapDecl.{MapDecl}
use Rattle.bt_core.specs.declared.map.MapId.{MapId}
use Rattle.bt_core.specs.declared.map.MapKind.{MapKind}
use Rattle.bt_core.specs.declared.map.MapKind.TheVariants.{Ints, Strs, Aggs}
use Rattle.bt_core.specs.declared.map.Shape.{Shape}
use Rattle.bt_core.specs.declared.step.Reply.{Reply}
use Rattle.bt_core.specs.declared.step.Reply.TheVariants as replies
use Rattle.bt_core.specs.declared.value.Value.{Value}
use Rattle.bt_core.specs.Kinds.{HasShape}
use Rattle.bt_core.specs.Ports.{Setting}
use Rattle.fmt_text.specs.declared.piece.Piece.{Piece}
use Rattle.fmt_text.specs.Arguments.{argument_shapes, AreArgumentsOf}
use Rattle.map_rows.specs.Fits.{IsReadReply, IsRowOf}
use Rattle.map_rows.specs.Items.{IsItemOf, CanPrint}
use Rattle.map_rows.specs.Merged.{merged}
use Rattle.typed_tree.specs.declared.body.TypedBody.{TypedBody}
use Rattle.typed_tree.specs.Scope.{decl_of, format_of, is_there, takes}
use Rattle.map_ops.specs.declared.sweep.Sweep.TheVariants.{Read}
use Rattle.walk_meaning.specs.Admits.{AdmitsOf, EmitsOnly}
use Rattle.map_ops.specs.Holders.{holder, kind_in, sweep_op}
use Rattle.walk_meaning.specs.Walk.{walk}
use Rattle.walk_meaning.specs.Served.{CanWalk}
use Rattle.walk_meaning.proofs.Asking.{IsFineCall}
use Rattle.walk_meaning.proofs.Asking.{IsReplyIn}
use Rattle.walk_meaning.proofs.AskingStmts.{walk-fine, weaker-calls}
use Rattle.walk_meaning.proofs.Declared.{same_shapes-equal, served, served_pick}

-- what is found of a list by its number stands in the script's list there
format_served : (formats : List (List Piece)) (n : ℕ) (fs : List (ℕ × List Piece)) (pieces : List Piece)
    → All (λ (f : ℕ × List Piece). slice_get formats f.0 ≡ Some f.1) fs → format_of n fs ≡ Some pieces → slice_get formats n ≡ Some pieces
format_served formats n [] pieces are e = cc
format_served formats n (f ∷ fs) pieces are e =
    served_pick formats n f.0 f.1 pieces (format_of n fs) (are 0 f (omega arith)) (format_served formats n fs pieces (λ k d l. are (suc k) d (omega (arith, l)))) (f.0 == n) refl e

some_and_is : {X : Type 0} (o : Option X) (x : X) (P : X → Type 0) → o ≡ Some x → P x → IsSomeAnd o P
some_and_is {X = X} o x P e p = subst (λ (a : Option X). IsSomeAnd a P) (sym e) p

from_some : {X : Type 0} (o : Option X) (x : X) (P : X → Type 0) → o ≡ Some x → IsSomeAnd o P → P x
from_some {X = X} o x P e p = subst (λ (a : Option X). IsSomeAnd a P) e p

-- a reply to who reads a map, of the kind that the operation has, has rows of the map
read_reply : (setting : Setting) (m : MapId) (decl : MapDecl) (kind : MapKind) (reply : Reply) → slice_get setting.maps m.0 ≡ Some decl
    → IsReplyIn setting (holder kind m) (sweep_op Read kind m) reply → IsReadReply decl reply
read_reply setting m decl Ints (replies.Pairs rows) e p = from_some (slice_get setting.maps m.0) decl _ e p.1
read_reply setting m decl Ints reply e p = absurd (from_some (slice_get setting.maps m.0) decl _ e p.1)
read_reply setting m decl Strs (replies.Pairs rows) e p = from_some (slice_get setting.maps m.0) decl _ e p.1
read_reply setting m decl Strs reply e p = absurd (from_some (slice_get setting.maps m.0) decl _ e p.1)
read_reply setting m decl (Aggs a) (replies.Aggs rows) e p = from_some (slice_get setting.maps m.0) decl _ e p.1
read_reply setting m decl (Aggs a) reply e p = absurd p.1

read_replies : (setting : Setting) (m : MapId) (decl : MapDecl) (kind : MapKind) (rs : List Reply) → slice_get setting.maps m.0 ≡ Some decl
    → AllByRecursion (IsReplyIn setting (holder kind m) (sweep_op Read kind m)) rs → AllByRecursion (IsReadReply decl) rs
read_replies setting m decl kind [] e h = tt
read_replies setting m decl kind (r ∷ rs) e h = (read_reply setting m decl kind r e h.0, read_replies setting m decl kind rs e h.1)

module _ (setting : Setting) (formats : List (List Piece)) (body : TypedBody) (context : Context) (payload : List ℕ) (actor actors : ℕ)
    (can : CanWalk setting body context payload actor actors) (placed : All (λ (f : ℕ × List Piece). slice_get formats f.0 ≡ Some f.1) body.formats)
    (fit : (decl : MapDecl) (rs : List Reply) → All (IsReadReply decl) rs → All (IsRowOf decl) (merged decl.kind rs)) where
  call_fine : (format : ℕ) (hs : List Shape) (values : List Value) (found : Option (List Piece)) → format_of format body.formats ≡ found → IsTrue (takes found hs) → HasShape hs values
      → IsItemOf formats setting.maps (items.Printf format values)
  call_fine format hs values None e named shaped = cc
  call_fine format hs values (Some pieces) e named shaped =
      some_and_is (slice_get formats format) pieces (λ p. AreArgumentsOf p values) (format_served formats format body.formats pieces placed e)
      (subst (λ (l : List Shape). HasShape l values) (sym (same_shapes-equal (argument_shapes pieces) hs named)) shaped)

  rows_fine : (m : MapId) (top : ℕ) (div : ℤ) (rs : List Reply) (found : Option MapDecl) → decl_of m.0 body.maps ≡ found → IsTrue (is_there found) → IsTrue (int_le (pos 1) div)
      → AllByRecursion (IsReplyIn setting (holder (kind_in found) m) (sweep_op Read (kind_in found) m)) rs
      → IsItemOf formats setting.maps (items.Map m (merged (kind_in found) rs) top div)
  rows_fine m top div rs None e named divides are = cc
  rows_fine m top div rs (Some decl) e named divides are =
      let there = served setting.maps m.0 body.maps decl can.maps_are_served e in
      some_and_is (slice_get setting.maps m.0) decl (CanPrint (merged decl.kind rs) div) there
      (record { divides = divides_is div divides; fit = fit decl rs (All-from_recursion (IsReadReply decl) rs (read_replies setting m decl decl.kind rs there are)) })
    where
      divides_is : (n : ℤ) → IsTrue (int_le (pos 1) n) → pos 1 ≤ℤ n
      divides_is n h = search rules

  -- a walk makes only calls that its port takes, and emits items of these formats, which hold the body's at their numbers, and of the
  -- setting's maps
  pub own-calls : AdmitsOf (IsFineCall setting (IsItemOf formats setting.maps)) setting.maps (λ ending. Unit {0}) (walk body context payload actor actors)
  own-calls =
      walk-fine setting body context payload actor actors (IsItemOf formats setting.maps) can (record {
        printf = λ format hs values named shaped. call_fine format hs values (format_of format body.formats) refl named shaped;
        rows = λ m top div rs named divides are. rows_fine m top div rs (decl_of m.0 body.maps) refl named divides are;
        cut = λ line. tt;
      })

  pub own-items : AdmitsOf (λ object op. EmitsOnly (IsItemOf formats setting.maps) op) setting.maps (λ ending. Unit {0}) (walk body context payload actor actors)
  own-items =
      weaker-calls (IsFineCall setting (IsItemOf formats setting.maps)) (λ object op. EmitsOnly (IsItemOf formats setting.maps) op) setting.maps (λ ending. Unit {0}) (λ object op p. p.1)
      (walk body context payload actor actors) own-calls
