use Rattle.std.specs.Prelude.{All}
use Rattle.std.proofs.Common.{List, [], sym, subst, false, ◌∙◌}
use Rattle.bt_core.specs.declared.map.MapDecl.{MapDecl}
use Rattle.bt_core.specs.declared.step.Step.{Step}
use Rattle.bt_core.specs.Kinds.{IsFineDecl}
use Rattle.run_objects.specs.Objects.{Stand}
use Rattle.bt_run.specs.Runs.{IsRunOf}
use Rattle.bt_run.proofs.TurnLemmas.{new_run}
use Rattle.bt_run.proofs.port.SerialPort.new.Goals as goal

pub invariant_of-result : goal.invariant_of-result
invariant_of-result c =
    subst (λ (l : List Step). IsRunOf (record { cpus = c.args.cpus; ticks = c.args.ticks; maps = c.of.result.value }) c.args.objects c.in_ok-lasts.lasts.items 0 l
    (record { among = false; begun = 0; floor = 0; actor = c.args.cpus; start = 0 })) (sym (c.expect.ensures.steps ∙ c.new-steps.ensures.empty))
    (new_run (record { cpus = c.args.cpus; ticks = c.args.ticks; maps = c.of.result.value }) c.args.objects c.in_ok-lasts.lasts.items
    (subst (All IsFineDecl) (sym c.of.ensures) c.requires.fine)
    (subst (λ (maps : List MapDecl). Stand (record { cpus = c.args.cpus; ticks = c.args.ticks; maps = maps }) [] c.args.objects) (sym c.of.ensures) c.requires.stand)
    (c.in_ok-lasts.ensures.items_if_clones_equal (λ y h. h)))
