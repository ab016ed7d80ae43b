use Rattle.std.proofs.Common.{◌+◌, ap, sym, ◌∙◌}
use Rattle.bt_meaning.specs.Walks.{walking}
use Rattle.worker_tests.proofs.Plans.{walks_fit}
use Rattle.worker_tests.proofs.runs.failing_at.Goals as goal

pub returns : goal.returns
returns c = let w = c.args.world.now in
    walks_fit w.typed.now w.attached.now w.recording.now c.requires.job c.args.cpu _
    (c.new.ensures ∙ ap (λ n. walking w.typed.now (n + 1) c.args.cpu) (sym c.requires.two)) (c.walks_take_few.ensures w.typed.now _ c.args.cpu)
