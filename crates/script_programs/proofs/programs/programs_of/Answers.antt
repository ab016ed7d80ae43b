use Rattle.std.proofs.Common.{List, [], sym, ap, ◌∙◌, subst}
use Rattle.bpf_encode.specs.declared.program.Program.{Program}
use Rattle.bt_lower.specs.Bodies.{LowersScript}
use Rattle.script_programs.specs.Sizes.{first_size_fault}
use Rattle.script_programs.specs.Making.{AreMade}
use Rattle.script_programs.proofs.StillLowered.{script_still_lowered}
use Rattle.script_programs.proofs.Made.{all_made, keep_script, next_made, probe_fits}
use Rattle.script_programs.proofs.programs.programs_of.Goals as goal

pub loop-probe-init : goal.loop-probe-init
loop-probe-init c = subst (λ (l : List Program). AreMade [] l) (sym c.new-programs.ensures) tt

pub program_of-requires : goal.program_of-requires
program_of-requires c =
    let probes = c.as_slice-probe-items.result.now in
    let lowers : LowersScript c.args.script.now probes = subst (LowersScript c.args.script.now) (sym c.as_slice-probe-items.ensures)
    (script_still_lowered c.args.script.now _ _ c.in_ok-lowered.ensures c.in_ok-probes.ensures) in
    record {
      fits = probe_fits c.args.script.now probes c.loop-probe.probe-index c.probe-item.result lowers c.loop-probe-test.true c.probe-item.is
          (ap (first_size_fault 0) (sym c.as_slice.ensures) ∙ c.in_ok-check_sizes.ensures.fit);
    }

pub loop-probe-preserved : goal.loop-probe-preserved
loop-probe-preserved c =
    next_made c.as_slice-probe-items.result.now c.loop-probe.probe-index c.loop-probe.programs _ c.probe-item.result c.in_ok-program.program c.loop-probe-test.true
    c.probe-item.is c.loop-probe.invariant c.in_ok-program.ensures.made c.in_ok-push.ensures.ok

pub returns-clause-keep : goal.returns-clause-keep
returns-clause-keep c =
    let probes = c.as_slice-probe-items.result.now in
    let lowers : LowersScript c.args.script.now probes = subst (LowersScript c.args.script.now) (sym c.as_slice-probe-items.ensures)
    (script_still_lowered c.args.script.now _ _ c.in_ok-lowered.ensures c.in_ok-probes.ensures) in
    keep_script c.args.script.now probes c.loop-probe.programs c.lowered_code_keeps_bodies.ensures lowers
    (all_made probes c.loop-probe.probe-index c.loop-probe.programs c.loop-probe-test.false c.loop-probe.invariant)
