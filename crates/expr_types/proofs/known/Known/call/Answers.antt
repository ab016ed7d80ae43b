use Rattle.std.proofs.Common.{ℕ, List, ap, ◌∙◌}
use Rattle.expr_types.specs.declared.known.Known.{Known}
use Rattle.expr_types.specs.Known.{call_at, called}
use Rattle.expr_types.proofs.known.Known.call.Goals as goal

pub returns-clause-learned : goal.returns-clause-learned
returns-clause-learned c =
    let s = c.add_call.new.self in
    ap (λ (l : List ℕ). (let x : Known = record s { calls = l } in x)) c.in_ok-push.ensures.ok
    ∙ (ap (called s) c.in_ok-number.ensures.numbered ∙ ap (λ (x : Known). called x (call_at c.args.format.now c.args.place x.printed)) c.in_ok-number.ensures.learned)
