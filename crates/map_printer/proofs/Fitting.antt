-- A row that a map can hold has no more counts than its kind has buckets.
use Rattle.std.proofs.Common.{ℕ, ◌+◌, ◌<◌, ◌≤◌, List, ◌∷◌, drop, get_or, length, slice_index_or, subst, arith}
use Rattle.std.proofs.lemmas.List.{drop_more}
use Rattle.std.specs.List.{All}
use Rattle.bt_core.specs.declared.agg.Buckets.{Buckets}
use Rattle.bt_core.specs.declared.agg.Buckets.TheVariants as held
use Rattle.bt_core.specs.declared.item.Cell.{Cell}
use Rattle.bt_core.specs.declared.item.Cell.TheVariants as cells
use Rattle.bt_core.specs.declared.map.AggKind.{AggKind}
use Rattle.bt_core.specs.declared.map.AggKind.TheVariants.{Hist, Lhist}
use Rattle.bt_core.specs.declared.map.MapDecl.{MapDecl}
use Rattle.bt_core.specs.declared.map.MapKind.{MapKind}
use Rattle.bt_core.specs.declared.map.MapKind.TheVariants.{Ints, Strs, Aggs}
use Rattle.bt_core.specs.declared.value.Value.{Value}
use Rattle.bt_core.specs.Kinds.{IsFineKind, AreBucketsOf, steps_between}
use Rattle.map_printer.specs.Counted.{FitsBuckets, FitsCell}
use Rattle.map_rows.specs.Fits.{IsRowOf, IsCellOf, AllRowsFit}

fits_buckets : (kind : AggKind) (bs : Buckets) → IsFineKind kind → AreBucketsOf kind bs → FitsBuckets kind bs
fits_buckets kind held.Plain f e = tt
fits_buckets Hist (held.Hist counts) f e = omega arith
fits_buckets Hist (held.Lhist counts) f e = absurd e
fits_buckets (Lhist min max step) (held.Hist counts) f e = absurd e
fits_buckets (Lhist min max step) (held.Lhist counts) f e = let few : steps_between min max step ≤ 1000 = f.few in omega arith
fits_buckets kind bs f e = absurd e

fits_cell : (kind : MapKind) (cell : Cell) → IsCellOf kind cell → FitsCell cell
fits_cell kind (cells.Value v) e = tt
fits_cell Ints (cells.Agg a) e = absurd e
fits_cell Strs (cells.Agg a) e = absurd e
fits_cell (Aggs kind) (cells.Agg a) e = fits_buckets a.kind a.buckets e.1.kind e.1.counts

pub rows_counted : (decl : MapDecl) (rows : List (List Value × Cell)) → All (IsRowOf decl) rows → All (λ row. FitsCell row.1) rows
rows_counted decl rows e = λ k d less. fits_cell decl.kind (slice_index_or rows k d).1 (e k d less).1

-- rows of the maps from one on fit, so those of the maps behind it do
pub fit_behind : (maps : List MapDecl) (rows : List (List (List Value × Cell))) (i : ℕ) (m : MapDecl) (r : List (List Value × Cell)) → i < length maps → i < length rows
    → AllRowsFit (drop i maps) (drop i rows) → AllRowsFit (drop (i + 1) maps) (drop (i + 1) rows)
fit_behind maps rows i m r less same fit =
    (subst (λ (l : List (List (List Value × Cell))). AllRowsFit (get_or maps i m ∷ drop (i + 1) maps) l) (drop_more rows i r same)
    (subst (λ (l : List MapDecl). AllRowsFit l (drop i rows)) (drop_more maps i m less) fit)).1
