use Rattle.std.proofs.Common.{sym, subst}
use Rattle.map_rows.specs.Fits.{AllRowsFit}
use Rattle.run_objects.proofs.MapReads.{rows_fit}
use Rattle.account_steps.proofs.ends.end_of.Goals as goal

pub returns-clause-fit : goal.returns-clause-fit
returns-clause-fit g c =
    subst (AllRowsFit c.args.maps.now) (sym c.in_ok-end.ensures.rows) (rows_fit g.at c.requires.0.fine c.requires.0.possible c.args.maps.now c.requires.1)
