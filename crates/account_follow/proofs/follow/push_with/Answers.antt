use Rattle.std.proofs.Common.{ℕ, List, [], ◌∷◌, ◌++◌, length, ap, ◌∙◌, get_or}
use Rattle.std.specs.Prelude.{slice_set}
use Rattle.std.proofs.Math.Seq.{get_or-append_seam, set-append_seam}
use Rattle.bt_core.specs.declared.step.Step.{Step}
use Rattle.account_follow.specs.Following.{with_op}
use Rattle.account_follow.proofs.follow.push_with.Goals as goal

pub returns-clause-ok : goal.returns-clause-ok
returns-clause-ok c =
    let old = c.args.list.now in
    let op = c.args.op.now in
    c.set_op.ensures c.args.step
    ∙ ap (λ (z : List Step × ℕ). slice_set z.0 z.1 (with_op op (get_or z.0 z.1 c.args.step))) (λ i. (c.in_ok-push.ensures.ok i, c.len-at.ensures i))
    ∙ ap (λ (s : Step). slice_set (old ++ c.args.step ∷ []) (length old) (with_op op s)) (get_or-append_seam old c.args.step [] c.args.step)
    ∙ set-append_seam old c.args.step [] (with_op op c.args.step)
