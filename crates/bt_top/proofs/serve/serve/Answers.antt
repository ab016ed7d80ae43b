use Rattle.std.proofs.Common.{refl}
use Rattle.bt_words.specs.declared.order.Order.{Order}
use Rattle.bt_words.specs.Words.{order_of}
use Rattle.std.specs.Prelude.{Some}
use Rattle.top_refusals.specs.declared.refusal.Refusal.TheVariants.{Memory}
use Rattle.top_refusals.specs.Orders.{files_in, files_of}
use Rattle.top_jobs.specs.Reads.{OnTold}
use Rattle.top_refusals.proofs.LineLaws.{kept}
use Rattle.bt_top.specs.Serve.{EndsAsDue}
use Rattle.bt_top.proofs.Answering.{is_complete, on_order, words_answer}
use Rattle.bt_top.proofs.Headlines.{refused_headline}
use Rattle.bt_top.proofs.Offered.{usage_offered, words_offered}
use Rattle.bt_top.proofs.Performing.{memory_complete, memory_exact, nothing_asked, nothing_asked_exactly}
use Rattle.bt_top.proofs.Verified.{memory_verified}
use Rattle.bt_top.proofs.Vetted.{memory_vetted}
use Rattle.bt_top.proofs.serve.serve.Goals as goal

pub returns-in-Err-Memory-clause-asked : goal.returns-in-Err-Memory-clause-asked
returns-in-Err-Memory-clause-asked g c = nothing_asked (files_in (order_of c.args.words.now)) _

pub returns-in-Err-Memory-clause-answered : goal.returns-in-Err-Memory-clause-answered
returns-in-Err-Memory-clause-answered g c =
    rw c.refused-in-Err-Memory.ensures (words_answer (order_of c.args.words.now) _ _ (kept (g.K.Sink.taken c.args.out.now)))

pub returns-in-Err-Memory-clause-exact : goal.returns-in-Err-Memory-clause-exact
returns-in-Err-Memory-clause-exact g c =
    rw c.refused-in-Err-Memory.ensures
    (on_order (order_of c.args.words.now) (λ (order : Order). OnTold (g.S.Shelf.held c.args.shelf.now) (files_of order) (EndsAsDue order (Some Memory)))
    (λ order. memory_exact (g.S.Shelf.held c.args.shelf.now) order))

pub returns-in-Err-Memory-clause-complete : goal.returns-in-Err-Memory-clause-complete
returns-in-Err-Memory-clause-complete g c =
    rw c.refused-in-Err-Memory.ensures
    (on_order (order_of c.args.words.now) _ (λ order. memory_complete (g.S.Shelf.held c.args.shelf.now) order _ _))

pub returns-clause-complete : goal.returns-clause-complete
returns-clause-complete g c =
    rw c.in-Ok.ensures.found
    (is_complete c.in-Ok.order _ _ c.perform-report.result c.perform-report.ensures.status c.perform-report.ensures.answered c.perform-report.ensures.exact)

pub returns-in-Err-Memory-clause-headline : goal.returns-in-Err-Memory-clause-headline
returns-in-Err-Memory-clause-headline g c =
    rw c.refused-in-Err-Memory.ensures (refused_headline (order_of c.args.words.now) _ _ Memory)

pub returns-in-Err-Memory-clause-vetted : goal.returns-in-Err-Memory-clause-vetted
returns-in-Err-Memory-clause-vetted g c =
    rw c.refused-in-Err-Memory.ensures (memory_vetted (order_of c.args.words.now) _ _)

pub returns-in-Err-Memory-clause-asked_exactly : goal.returns-in-Err-Memory-clause-asked_exactly
returns-in-Err-Memory-clause-asked_exactly g c =
    rw c.refused-in-Err-Memory.ensures (nothing_asked_exactly (files_in (order_of c.args.words.now)) _ refl)

pub returns-in-Err-Memory-clause-offered : goal.returns-in-Err-Memory-clause-offered
returns-in-Err-Memory-clause-offered g c =
    rw c.refused-in-Err-Memory.ensures (words_offered (order_of c.args.words.now) _ (kept (g.K.Sink.taken c.args.out.now)) (g.K.Sink.offers c.args.out.now))

pub returns-in-Err-Usage-clause-offered : goal.returns-in-Err-Usage-clause-offered
returns-in-Err-Usage-clause-offered g c =
    rw c.refused.ensures (usage_offered (order_of c.args.words.now) _ (kept (g.K.Sink.taken c.args.out.now)) (g.K.Sink.offers c.args.out.now))

pub returns-in-Err-Memory-clause-verified : goal.returns-in-Err-Memory-clause-verified
returns-in-Err-Memory-clause-verified g c =
    rw c.refused-in-Err-Memory.ensures (memory_verified (order_of c.args.words.now) _ _)
