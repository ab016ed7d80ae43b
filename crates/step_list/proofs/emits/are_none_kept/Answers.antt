use Rattle.std.proofs.Common.{◌≡◌, ℕ, List, [], true, nat_eq, length, sym, ◌∙◌, arith}
use Rattle.std.specs.List.{filter_map}
use Rattle.std.proofs.lemmas.Bool.Decides.{nat_tests}
use Rattle.std.proofs.lemmas.List.{nil_from_length}
use Rattle.bt_core.specs.declared.item.Item.{Item}
use Rattle.bt_core.specs.declared.value.Value.{Value}
use Rattle.step_list.specs.declared.deed.Deed.{Deed}
use Rattle.step_list.specs.Places.{expanded, is_all_within}
use Rattle.step_list.specs.Emits.{emit_of}
use Rattle.step_list.proofs.EmitLemmas.{none_emitted}
use Rattle.step_list.proofs.emits.are_none_kept.Goals as goal

is_zero : (n : ℕ) → nat_eq n 0 ≡ true → n ≡ 0
is_zero n e = grind (arith, nat_tests)

none_kept : (ws : List Deed) (ts : List Item) (ks : List (List Value)) (ps : _) → ws ≡ [] → ts ≡ [] → is_all_within (length ks) (length ws) (length ts) ps ≡ true
    → filter_map emit_of (expanded ks ws ts ps) ≡ []
none_kept ws ts ks ps e f h = (λ i. filter_map emit_of (expanded ks (e i) (f i) ps))
    ∙ none_emitted ks (length ks) ps (sym (λ i. is_all_within (length ks) (length (e i)) (length (f i)) ps) ∙ h)

pub returns-then-is_empty-clause-none : goal.returns-then-is_empty-clause-none
returns-then-is_empty-clause-none c e ks h = none_kept c.args.whole.now c.args.prints.now ks c.args.places.now
    (nil_from_length c.args.whole.now (is_zero (length c.args.whole.now) (sym c.is_empty.ensures ∙ c.if-is_empty.true)))
    (nil_from_length c.args.prints.now (sym c.len.ensures ∙ is_zero c.len.result e)) h
