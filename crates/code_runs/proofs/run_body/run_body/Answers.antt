use Rattle.std.proofs.Common.{◌*◌, sym, subst}
use Rattle.bt_core.specs.declared.limits.TheConstants.{FUEL_OF_A_SLOT}
use Rattle.bt_core.specs.Interaction.{Ended, Performed, and_then}
use Rattle.bpf_interp.specs.Running.{RunPerformed}
use Rattle.event_record.specs.Contexts.{context_bytes}
use Rattle.helper_abi.specs.Running.{script_run}
use Rattle.helper_abi.specs.Served.{desk_of}
use Rattle.code_runs.specs.Coding.{count_of, fuel_of}
use Rattle.code_runs.proofs.Counting.{counted}
use Rattle.code_runs.proofs.run_body.run_body.Goals as goal

pub returns-clause-performed : goal.returns-clause-performed
returns-clause-performed g c =
    let run = script_run (desk_of c.args.script.now c.args.actor c.args.actors) c.args.code.now (context_bytes c.args.context.now) c.args.payload.now (fuel_of c.args.code.now) in
    let old = g.P.Port.steps c.args.port.now in
    let new = g.P.Port.steps c.run_through-run.new.port in
    subst (λ r. Performed (and_then run (λ end. Ended (count_of end))) old new r) (sym c.count_in.ensures)
    (counted run old new c.run_through-run.result
    (subst (λ b. RunPerformed (script_run (desk_of c.args.script.now c.args.actor c.args.actors) c.args.code.now b c.args.payload.now (fuel_of c.args.code.now)) old new c.run_through-run.result)
    c.bytes-bytes.ensures
    (subst (λ n. RunPerformed (script_run (desk_of c.args.script.now c.args.actor c.args.actors) c.args.code.now c.bytes-bytes.result.now c.args.payload.now (FUEL_OF_A_SLOT * n)) old new c.run_through-run.result)
    c.len.ensures c.run_through-run.ensures.performed)))
