use Rattle.std.specs.Prelude.{Some}
use Rattle.top_refusals.proofs.LineLaws.{kept}
use Rattle.bt_top.proofs.Answering.{done_answer, done_exact, files_exact, refused_answer}
use Rattle.bt_top.proofs.Performing.{written_failed}
use Rattle.bt_top.proofs.Headlines.{AreRunLaws, done_headline, refused_headline}
use Rattle.bt_top.proofs.Offered.{done_offered, refused_offered}
use Rattle.bt_top.proofs.Verified.{done_verified, refused_verified}
use Rattle.bt_top.proofs.Vetted.{done_vetted, refused_vetted}
use Rattle.bt_top.proofs.serve.perform.Goals as goal

pub returns-in-Err-clause-headline : goal.returns-in-Err-clause-headline
returns-in-Err-clause-headline g c = rw c.refused.ensures (refused_headline (Some c.args.order.now) _ _ c.in-Err.refusal)

pub returns-in-Err-clause-answered : goal.returns-in-Err-clause-answered
returns-in-Err-clause-answered g c =
    rw c.refused.ensures (refused_answer c.args.order.now _ _ (kept (g.K.Sink.taken c.args.out.now)) c.in-Err.refusal c.in-Err.ensures.performs)

pub returns-in-Err-clause-exact : goal.returns-in-Err-clause-exact
returns-in-Err-clause-exact g c =
    rw c.refused.ensures (files_exact (g.S.Shelf.held c.args.shelf.now) c.args.order.now (Some c.in-Err.refusal) c.in-Err.ensures.performs.exact)

pub returns-in-Err-clause-vetted : goal.returns-in-Err-clause-vetted
returns-in-Err-clause-vetted g c =
    let reads = c.in-Err.ensures.performs.reads in
    rw c.refused.ensures (refused_vetted c.args.order.now _ _ reads.contents c.in-Err.refusal reads.came)

pub returns-clause-answered : goal.returns-clause-answered
returns-clause-answered g c =
    rw c.reported.ensures
    (done_answer c.args.order.now _ _ c.in-Ok.outcome c.in-Ok.ensures.performs c.write_refusal-refusal.result c.write_refusal-refusal.ensures.wrote)

pub returns-clause-exact : goal.returns-clause-exact
returns-clause-exact g c =
    rw c.reported.ensures
    (done_exact c.args.order.now _ _ c.in-Ok.outcome c.in-Ok.ensures.performs c.write_refusal-refusal.result c.write_refusal-refusal.ensures.wrote)

pub returns-clause-headline : goal.returns-clause-headline
returns-clause-headline g c =
    let laws : AreRunLaws = record {
      jobs = c.accepted_scripts_are_jobs.ensures;
      ticks = c.ticks_come_after.ensures.script;
      reads = c.reads_see_beginnings.ensures;
      own_adds = c.adds_are_own.ensures;
      only = c.script_only_adds.ensures.only;
      few = c.script_only_adds.ensures.few;
      totals = c.totals_are_exact.ensures;
    } in
    let reads = c.in-Ok.ensures.performs.reads in
    rw c.reported.ensures
    (done_headline laws _ _ c.in-Ok.outcome c.write_refusal-refusal.result c.write_refusal-refusal.ensures.wrote c.args.order.now reads.contents
    reads.held reads.value)

pub returns-clause-vetted : goal.returns-clause-vetted
returns-clause-vetted g c =
    let reads = c.in-Ok.ensures.performs.reads in
    rw c.reported.ensures
    (done_vetted _ _ c.in-Ok.outcome c.write_refusal-refusal.result c.write_refusal-refusal.ensures.wrote c.args.order.now reads.contents reads.held reads.value)

pub returns-in-Err-clause-offered : goal.returns-in-Err-clause-offered
returns-in-Err-clause-offered g c =
    let reads = c.in-Err.ensures.performs.reads in
    rw c.refused.ensures
    (refused_offered _ reads.contents _ _ (kept (g.K.Sink.taken c.args.out.now)) (Some c.args.order.now) (g.K.Sink.offers c.args.out.now) c.in-Err.refusal reads.came)

pub returns-clause-offered : goal.returns-clause-offered
returns-clause-offered g c =
    let reads = c.in-Ok.ensures.performs.reads in
    rw c.reported.ensures
    (done_offered c.args.order.now reads.contents _ _ _ c.in-Ok.outcome c.write_refusal-refusal.result reads.value c.write_refusal-refusal.ensures.wrote
    c.write_refusal-refusal.ensures.offered)

pub returns-in-Err-clause-fault_named : goal.returns-in-Err-clause-fault_named
returns-in-Err-clause-fault_named g c = rw c.refused.ensures c.in-Err.ensures.fault_named

pub returns-clause-fault_named : goal.returns-clause-fault_named
returns-clause-fault_named g c =
    rw c.reported.ensures
    (written_failed _ _ _ _ c.in-Ok.outcome.refused c.write_refusal-refusal.result _ c.write_refusal-refusal.ensures.wrote c.in-Ok.ensures.fault_named)

pub returns-in-Err-clause-verified : goal.returns-in-Err-clause-verified
returns-in-Err-clause-verified g c =
    let reads = c.in-Err.ensures.performs.reads in
    rw c.refused.ensures (refused_verified c.args.order.now _ _ reads.contents c.in-Err.refusal reads.came)

pub returns-clause-verified : goal.returns-clause-verified
returns-clause-verified g c =
    let reads = c.in-Ok.ensures.performs.reads in
    rw c.reported.ensures
    (done_verified _ _ c.in-Ok.outcome c.write_refusal-refusal.result c.write_refusal-refusal.ensures.wrote c.args.order.now reads.contents reads.held reads.value)
