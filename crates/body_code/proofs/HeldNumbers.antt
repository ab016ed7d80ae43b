-- The number under a key has 64 bits where those of all aggregates have.
use Rattle.std.proofs.Common.{◌≡◌, ℤ, pos, List, [], ◌∷◌, ◌++◌, Option, Some, None, Bool, true, false, cond, map, refl, sym, ◌∙◌, subst, FitsSigned, w64, arith}
use Rattle.std.specs.Prelude.{fold}
use Rattle.std.specs.List.{AllByRecursion, filter}
use Rattle.std.specs.Map.{lookup}
use Rattle.std.specs.Int.{int_min, int_max}
use Rattle.std.specs.Int.RustNames.{int_div}
use Rattle.std.specs.Prelude.{if◌then◌else◌}
use Rattle.std.proofs.lemmas.Int.{ints, SFits-int_wrap}
use Rattle.bt_core.specs.declared.agg.Agg.{Agg}
use Rattle.bt_core.specs.declared.item.Cell.{Cell}
use Rattle.bt_core.specs.declared.item.Cell.TheVariants as cells
use Rattle.bt_core.specs.declared.map.AggKind.{AggKind}
use Rattle.bt_core.specs.declared.map.AggKind.TheVariants.{Count, Sum, Min, Max, Avg, Hist, Lhist}
use Rattle.bt_core.specs.declared.value.Value.{Value}
use Rattle.bt_core.specs.Arithmetic.{wrapped, is_zero}
use Rattle.agg_core.specs.Aggregates.{signed, either, agg_merged}
use Rattle.agg_core.specs.Changes.{is_key}
use Rattle.map_rows.specs.Merged.{both_cells, joined_cells, cells_at, merged_rows, ordered_keys}
use Rattle.step_list.specs.HeldReplies.{OptionFits, IsHeldAgg}
use Rattle.map_rows.specs.UnderKey.{cell_number, number_under}
use Rattle.map_rows.specs.Numbers.{number_by, number_or_zero, whole_quotient}

abbrev pub IsHeldCell : Cell → Type 0
IsHeldCell (cells.Value v) = Unit {0}
IsHeldCell (cells.Agg a) = IsHeldAgg a

signed_fits : (n : ℤ) → FitsSigned w64 (signed n)
signed_fits n = SFits-int_wrap w64 n

zero_fits : FitsSigned w64 (pos 0)
zero_fits = grind (arith, ints)

min_fits : (a b : ℤ) → FitsSigned w64 a → FitsSigned w64 b → FitsSigned w64 (int_min a b)
min_fits a b p q = grind (arith, ints)

max_fits : (a b : ℤ) → FitsSigned w64 a → FitsSigned w64 b → FitsSigned w64 (int_max a b)
max_fits a b p q = grind (arith, ints)

either_fits : (f : ℤ → ℤ → ℤ) → ((a b : ℤ) → FitsSigned w64 a → FitsSigned w64 b → FitsSigned w64 (f a b)) → (a b : Option ℤ) → OptionFits a → OptionFits b → OptionFits (either f a b)
either_fits f p None b x y = y
either_fits f p (Some a) None x y = x
either_fits f p (Some a) (Some b) x y = p a b x y

merged_held : (a b : Agg) → IsHeldAgg a → IsHeldAgg b → IsHeldAgg (agg_merged a b)
merged_held a b p q = record {
  count = signed_fits _;
  sum = signed_fits _;
  least = either_fits int_min min_fits a.least b.least p.least q.least;
  greatest = either_fits int_max max_fits a.greatest b.greatest p.greatest q.greatest;
}

both_held : (a b : Cell) → IsHeldCell a → IsHeldCell b → IsHeldCell (both_cells a b)
both_held (cells.Agg a) (cells.Agg b) p q = merged_held a b p q
both_held (cells.Agg a) (cells.Value v) p q = p
both_held (cells.Value v) b p q = tt

fold_held : (c : Cell) (cs : List Cell) → IsHeldCell c → AllByRecursion IsHeldCell cs → IsHeldCell (fold both_cells c cs)
fold_held c [] p q = p
fold_held c (d ∷ ds) p q = fold_held (both_cells c d) ds (both_held c d p q.0) q.1

joined_held : (cs : List Cell) → AllByRecursion IsHeldCell cs → IsHeldCell (joined_cells cs)
joined_held [] h = tt
joined_held (c ∷ cs) h = fold_held c cs h.0 h.1

abbrev pub RowsHeld : List (List Value × Cell) → Type 0
RowsHeld rows = AllByRecursion (λ (row : List Value × Cell). IsHeldCell row.1) rows

abbrev cells_if : Bool → Cell → List Cell → List Cell
cells_if true c cs = c ∷ cs
cells_if false c cs = cs

if_held : (b : Bool) (c : Cell) (cs : List Cell) → IsHeldCell c → AllByRecursion IsHeldCell cs → AllByRecursion IsHeldCell (cells_if b c cs)
if_held true c cs p q = (p, q)
if_held false c cs p q = q

cells_more : (b : Bool) (row : List Value × Cell) (rest : List (List Value × Cell)) → map (λ (r : List Value × Cell). r.1) (cond b (row ∷ rest) rest) ≡ cells_if b row.1 (map (λ (r : List Value × Cell). r.1) rest)
cells_more true row rest = refl
cells_more false row rest = refl

cells_held : (key : List Value) (rows : List (List Value × Cell)) → RowsHeld rows → AllByRecursion IsHeldCell (cells_at key rows)
cells_held key [] h = tt
cells_held key (row ∷ rows) h =
    subst (AllByRecursion IsHeldCell) (sym (cells_more (is_key key row.0) row (filter (λ (r : List Value × Cell). is_key key r.0) rows))) (if_held (is_key key row.0) row.1 (cells_at key rows) h.0 (cells_held key rows h.1))

keyed_held : (rows : List (List Value × Cell)) (keys : List (List Value)) → RowsHeld rows → RowsHeld (map (λ key. (key, joined_cells (cells_at key rows))) keys)
keyed_held rows [] h = tt
keyed_held rows (k ∷ ks) h = (joined_held (cells_at k rows) (cells_held k rows h), keyed_held rows ks h)

divided_fits : (t : Bool) (a b : ℤ) → FitsSigned w64 (if t then pos 0 else wrapped (int_div a b))
divided_fits true a b = zero_fits
divided_fits false a b = SFits-int_wrap w64 (int_div a b)

quotient_fits : (a b : ℤ) → FitsSigned w64 a → FitsSigned w64 b → FitsSigned w64 (whole_quotient a b)
quotient_fits a b p q = divided_fits (is_zero b) a b

or_zero_fits : (o : Option ℤ) → OptionFits o → FitsSigned w64 (number_or_zero o)
or_zero_fits None h = zero_fits
or_zero_fits (Some n) h = h

number_fits : (kind : AggKind) (a : Agg) → IsHeldAgg a → FitsSigned w64 (number_by kind a)
number_fits Count a h = h.count
number_fits Sum a h = h.sum
number_fits Min a h = or_zero_fits a.least h.least
number_fits Max a h = or_zero_fits a.greatest h.greatest
number_fits Avg a h = quotient_fits a.sum a.count h.sum h.count
number_fits Hist a h = zero_fits
number_fits (Lhist min max step) a h = zero_fits

cell_fits : (c : Cell) → IsHeldCell c → FitsSigned w64 (cell_number (Some c))
cell_fits (cells.Value v) h = zero_fits
cell_fits (cells.Agg a) h = number_fits a.kind a h

cond_fits : (b : Bool) (one other : Option Cell) → FitsSigned w64 (cell_number one) → FitsSigned w64 (cell_number other) → FitsSigned w64 (cell_number (cond b one other))
cond_fits true one other p q = p
cond_fits false one other p q = q

under_fits : (key : List Value) (rows : List (List Value × Cell)) → RowsHeld rows → FitsSigned w64 (number_under key rows)
under_fits key [] h = zero_fits
under_fits key (row ∷ rows) h = cond_fits (is_key key row.0) (Some row.1) (lookup (is_key key) rows) (cell_fits row.1 h.0) (under_fits key rows h.1)

pub merged_number_fits : (key : List Value) (rows : List (List Value × Cell)) → RowsHeld rows → FitsSigned w64 (number_under key (merged_rows rows))
merged_number_fits key rows h = under_fits key (merged_rows rows) (keyed_held rows (ordered_keys rows) h)
