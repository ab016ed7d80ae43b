-- Each part of a probe is read by its steps.
use Rattle.std.proofs.Common.{◌≡◌, ◌<◌, Bool, true, false, List, [], ◌∷◌, ◌++◌, length, Result, Ok, Err, refl, sym, ◌∙◌, inr, ◌⊎◌, arith, length-append}
use Rattle.std.specs.Prelude.{IsOkAnd}
use Rattle.bt_ast.specs.declared.probe.Point.{Point}
use Rattle.bt_grammar.specs.declared.class.Class.{Class}
use Rattle.bt_core.specs.declared.operator.BinOp.TheVariants.{Div}
use Rattle.bt_grammar.specs.declared.class.Class.TheVariants.{Comma, Operator}
use Rattle.bt_grammar.specs.Classes.{is}
use Rattle.bt_grammar.specs.Form.{Item, Points, OneProbe}
use Rattle.bt_grammar.specs.Fine.{Led}
use Rattle.bt_grammar.specs.Reading.{Done, and_then, read, reads, goes_on, starts, rest_of, first, sens, differs}
use Rattle.bt_grammar.specs.Rules.{ends, after_comma}
use Rattle.bt_grammar.specs.Trees.{snoc}
use Rattle.bt_parser.specs.Probes.{point_form, points_on, points_by, points_turn, predicate_form, predicate_by, probe_by}
use Rattle.bt_grammar.proofs.Enough.{reads_is}
use Rattle.bt_grammar.proofs.Steps.{goes_on_stop, goes_on_more}
use Rattle.bt_grammar.proofs.Checked.{fine_rule}
use Rattle.bt_parser.proofs.Mirrored.{and_then_assoc, no_case, same_twice}

pub points_start : (ts : List Item) → reads Points ts ≡ points_by ts
unfolding goes_on
points_start ts = rw (reads_is Points ts) (simp and_then_assoc)

calm_point : Led (after_comma point_form) ⊎ ((c : Class) → (sens (after_comma point_form) c ≡ false) × (differs (first (after_comma point_form)) c ≡ false))
calm_point = inr (λ c. (refl, same_twice (is Comma c)))

point_stop : (points : List Point) (ts : List Item) → starts (ends Comma) ts ≡ false → points_on points ts ≡ Done points ts
point_stop points ts h = goes_on_stop snoc (after_comma point_form) (fine_rule Points).1 calm_point refl points ts h

point_more : (points : List Point) (ts : List Item) → starts (ends Comma) ts ≡ true → points_on points ts ≡ and_then (read reads point_form (rest_of ts)) (λ p r. points_on (points ++ p ∷ []) r)
point_more points [] h = no_case h
point_more points (t ∷ r) h = goes_on_more snoc (after_comma point_form) (fine_rule Points).1 calm_point refl points (t ∷ r) h ∙ rw h (simp and_then_assoc)

pub points_turns : (points : List Point) (ts : List Item) → points_on points ts ≡ points_turn points ts
points_turns points ts = by_comma (starts (ends Comma) ts) refl
  where
    by_comma : (b : Bool) → starts (ends Comma) ts ≡ b → points_on points ts ≡ points_turn points ts
    by_comma true h = point_more points ts h ∙ sym (rw h refl)
    by_comma false h = point_stop points ts h ∙ sym (rw h refl)

predicate_at : (t : Item) (r : List Item) (b : Bool) → is (Operator Div) t.class ≡ b → read reads predicate_form (t ∷ r) ≡ predicate_by (t ∷ r)
predicate_at t r true h = rw h (simp and_then_assoc)
predicate_at t r false h = rw h refl

pub predicate_is : (ts : List Item) → read reads predicate_form ts ≡ predicate_by ts
predicate_is [] = refl
predicate_is (t ∷ r) = predicate_at t r (is (Operator Div) t.class) refl

pub probe_is : (ts : List Item) → reads OneProbe ts ≡ probe_by ts
probe_is ts = rw (reads_is OneProbe ts) (simp and_then_assoc)

-- a list has some item behind what was read
pub some_added : {E : Type 0} (answer : Result Point E) (list longer : List Point) → IsOkAnd answer (λ point. longer ≡ list ++ point ∷ []) → 0 < length longer
some_added (Ok point) list longer e = rw e (omega (arith, length-append list (point ∷ [])))
some_added (Err e) list longer k = absurd k
