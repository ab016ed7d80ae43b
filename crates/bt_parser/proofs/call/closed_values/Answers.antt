use Rattle.bt_parser.proofs.call.closed_values.Goals as goal

pub returns-clause-reads : goal.returns-clause-reads
returns-clause-reads c = c.until.ensures.reads _ c.format_values-values.ensures.reads

pub returns-clause-shorter : goal.returns-clause-shorter
returns-clause-shorter c = c.until.ensures.shorter _ c.format_values-values.ensures.no_longer
