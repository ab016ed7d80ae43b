use Rattle.std.proofs.lemmas.Grind.{common_steps}
use Rattle.std.proofs.Common.{◌≡◌, ℕ, false, List, Some, slice_get, refl, subst, ◌∙◌, arith}
use Rattle.expr_types.specs.Known.{has_name, place_of}
use Rattle.expr_types.proofs.Finding.{name_added}
use Rattle.expr_types.proofs.Learning.{name_learned}
use Rattle.expr_types.proofs.known.Known.add_name.Goals as goal

is_new : (c : goal.In_ok-push_name-in-None) → has_name c.args.name.now c.args.self.now.names ≡ false
is_new c = subst (λ (n : List ℕ). has_name n c.args.self.now.names ≡ false) c.as_slice-2.ensures (subst (λ (ns : List (List ℕ)). has_name c.as_slice-2.result.now ns ≡ false) c.as_slice.ensures c.in-None.ensures)

-- the new name's number
added : (c : goal.In_ok-push_name-in-None) → (c.in_ok-number-in-None.number ≡ place_of c.args.name.now c.push_name.new.names) × (slice_get c.push_name.new.names c.in_ok-number-in-None.number ≡ Some c.args.name.now)
added c =
    name_added c.args.self.now.names c.push_name.new.names c.args.name.now c.args.name.now c.in_ok-number-in-None.number (is_new c) refl (c.in_ok-number-in-None.ensures.number ∙ c.len.ensures) c.in_ok-push_name-in-None.ensures

pub returns-in_ok-push_name-in-None-clause-placed : goal.returns-in_ok-push_name-in-None-clause-placed
returns-in_ok-push_name-in-None-clause-placed c = (added c).0

pub returns-in_ok-push_name-in-None-clause-numbered : goal.returns-in_ok-push_name-in-None-clause-numbered
returns-in_ok-push_name-in-None-clause-numbered c = (added c).1

pub returns-in_ok-push_name-in-None-clause-learned : goal.returns-in_ok-push_name-in-None-clause-learned
returns-in_ok-push_name-in-None-clause-learned c =
    name_learned c.args.self.now c.args.name.now c.args.name.now c.push_name.new.names (is_new c) refl c.in_ok-push_name-in-None.ensures

pub returns-in-Some-clause-placed : goal.returns-in-Some-clause-placed
returns-in-Some-clause-placed c = grind (arith, common_steps)

pub returns-in-Some-clause-numbered : goal.returns-in-Some-clause-numbered
returns-in-Some-clause-numbered c = grind (arith, common_steps)

pub returns-in-Some-clause-learned : goal.returns-in-Some-clause-learned
returns-in-Some-clause-learned c = grind (arith, common_steps)
