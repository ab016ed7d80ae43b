use Rattle.bt_parser.proofs.Mirrored.{no_longer_on}
use Rattle.bt_parser.proofs.agg.int_until.Goals as goal

pub returns-clause-reads : goal.returns-clause-reads
returns-clause-reads c = c.until.ensures.reads _ c.int-number.ensures.reads

pub returns-clause-shorter : goal.returns-clause-shorter
returns-clause-shorter c = c.until.ensures.shorter _ (no_longer_on _ _ _ c.int-number.ensures.shorter)
