use Rattle.std.proofs.Common.{◌≡◌, ◌≢◌, refl, Option, Some, Result, Err, IfErr}
use Rattle.std.proofs.lemmas.Result.{err_from_is_err_and}
use Rattle.bt_ast.specs.declared.attached.Attached.{Attached}
use Rattle.bt_attach.specs.declared.error.AttachError.{AttachError}
use Rattle.bt_attach.specs.declared.error.AttachError.TheVariants.{Memory}
use Rattle.bt_attach.proofs.FoundLemmas.{attached_is, fault_is, runs_of}
use Rattle.bt_attach.proofs.attach.attach.Goals as goal

handed_on : (r : Result Attached AttachError) (e f : AttachError) (fault : Option AttachError) → r ≡ Err e → e ≡ f → (f ≢ Memory → fault ≡ Some f) → IfErr r (λ x. x ≢ Memory → fault ≡ Some x)
handed_on r e f fault is same known = rw is (rw same known)

pub returns-in_err-bodies-clause-fault : goal.returns-in_err-bodies-clause-fault
returns-in_err-bodies-clause-fault c =
    let p = err_from_is_err_and c.from_residual.result c.from_residual.ensures.1 in
    handed_on c.from_residual.result p.0 c.in_err-bodies.field-0.0 _ p.1 p.2
    (λ n. fault_is c.args.script.now c.args.formats.now c.args.start c.args.end c.saturating_sub.result c.as_slice-probes.result.now _
    c.as_slice-probes.ensures c.saturating_sub.ensures (c.in_err-bodies.ensures n))

pub returns : goal.returns
returns c = record {
  found = attached_is c.args.script.now c.args.formats.now c.args.start c.args.end c.saturating_sub.result c.as_slice-probes.result.now c.in_ok-bodies.field-0 _
      c.as_slice-probes.ensures c.saturating_sub.ensures c.in_ok-bodies.ensures.1 refl
      (runs_of _ _ _ _ c.as_slice.ensures c.in_ok-by_format.ensures) c.in_ok-ticks.ensures;
  allowed = fault_is c.args.script.now c.args.formats.now c.args.start c.args.end c.saturating_sub.result c.as_slice-probes.result.now _
      c.as_slice-probes.ensures c.saturating_sub.ensures c.in_ok-bodies.ensures.0;
  fault = tt;
}
