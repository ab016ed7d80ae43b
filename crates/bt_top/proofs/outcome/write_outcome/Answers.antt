use Rattle.std.proofs.Common.{length}
use Rattle.bt_io.proofs.Appending.{AppendsPart-after}
use Rattle.bt_top.proofs.Offered.{no_offers}
use Rattle.bt_top.proofs.outcome.write_outcome.Goals as goal

pub returns-clause-part : goal.returns-clause-part
returns-clause-part g c =
    rw (← c.shown_text.ensures, ← c.as_slice.ensures)
    (AppendsPart-after (g.K.Sink.taken c.args.out.now) (g.K.Sink.taken c.write_all.new.sink) (g.K.Sink.taken c.write_all-2.new.sink) c.shown_text.result.now _
    c.write_all-2.result c.in_ok-write_all.ensures.whole c.write_all-2.ensures.part)

pub returns-in_err-write_all-clause-offered : goal.returns-in_err-write_all-clause-offered
returns-in_err-write_all-clause-offered g c = record {
  between = g.K.Sink.offers c.write_all.new.sink;
  first = rw (← c.shown_text.ensures) c.write_all.ensures.offered;
  behind = no_offers (g.K.Sink.offers c.write_all.new.sink) (length c.args.outcome.now.rest);
}
