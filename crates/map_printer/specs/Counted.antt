-- Only for proofs: histograms that have no more counts than their kind has buckets.
use Rattle.std.specs.Prelude.{length}
use Rattle.bt_core.specs.declared.agg.Buckets.{Buckets}
use Rattle.bt_core.specs.declared.agg.Buckets.TheVariants as held
use Rattle.bt_core.specs.declared.item.Cell.{Cell}
use Rattle.bt_core.specs.declared.item.Cell.TheVariants as cells
use Rattle.bt_core.specs.declared.map.AggKind.{AggKind}
use Rattle.map_printer.specs.Buckets.{FitsCounts}

abbrev pub FitsBuckets : AggKind → Buckets → Type 0
FitsBuckets kind held.Plain = Unit {0}
FitsBuckets kind (held.Hist counts) = FitsCounts kind (length counts)
FitsBuckets kind (held.Lhist counts) = FitsCounts kind (length counts)

-- a histogram has no more counts than its kind has buckets
abbrev pub FitsCell : Cell → Type 0
FitsCell (cells.Value v) = Unit {0}
FitsCell (cells.Agg a) = FitsBuckets a.kind a.buckets
