use Rattle.std.proofs.Common.{ℕ, Some, sym, ap, ◌∙◌, arith}
use Rattle.script_programs.proofs.Sizing.{first_found, first_passed, untold}
use Rattle.script_programs.proofs.sizes.check_sizes.Goals as goal

pub loop-place-preserved : goal.loop-place-preserved
loop-place-preserved c =
    first_passed c.args.bodies.now c.loop-place.place c.index-bodies-place.result (omega arith) c.index-bodies-place.is c.in-Ok.ensures.fit ∙ c.loop-place.invariant

pub returns-in-Err-clause-refused : goal.returns-in-Err-clause-refused
returns-in-Err-clause-refused c = λ place fault e.
    (let wrong = c.in-Err.ensures.refused place fault e in
    sym c.loop-place.invariant ∙ first_found c.args.bodies.now c.loop-place.place c.index-bodies-place.result fault (omega arith) c.index-bodies-place.is wrong.1
    ∙ ap (λ (n : ℕ). Some (n, fault)) (sym wrong.0))

pub returns-in-Err-clause-untold : goal.returns-in-Err-clause-untold
returns-in-Err-clause-untold c = λ place fault e first.
    untold c.args.bodies.now c.loop-place.place c.index-bodies-place.result place fault (omega arith) c.index-bodies-place.is c.loop-place.invariant
    (c.in-Err.ensures.untold e) first
