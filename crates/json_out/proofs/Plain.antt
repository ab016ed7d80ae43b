-- No value that is printed has a float.
use Rattle.std.proofs.Common.{◌≡◌, ℕ, ℤ, pos, negsuc, Bool, true, false, ◌||◌, cond, List, [], ◌∷◌, ◌++◌, ◌-◌, map, length, slice_index, refl, ap, ◌∙◌}
use Rattle.std.specs.Int.RustNames.{unsigned_abs}
use Rattle.std.specs.List.{flat_map, range_with_len}
use Rattle.bt_core.specs.declared.agg.Agg.{Agg}
use Rattle.bt_core.specs.declared.agg.Buckets.{Buckets}
use Rattle.bt_core.specs.declared.agg.Buckets.TheVariants as held
use Rattle.bt_core.specs.declared.item.Cell.{Cell}
use Rattle.bt_core.specs.declared.item.Cell.TheVariants as cells
use Rattle.bt_core.specs.declared.value.Value.{Value}
use Rattle.bt_core.specs.declared.value.Value.TheVariants.{Int, Str}
use Rattle.bt_core.specs.declared.map.AggKind.{AggKind}
use Rattle.map_printer.specs.Buckets.{is_shown, label_of}
use Rattle.map_printer.specs.Rows.{divided}
use Rattle.map_rows.specs.Numbers.{number_of, whole_quotient}
use Rattle.serde_json.specs.Data.{Data, number}
use Rattle.serde_json.specs.Find.{of_integer}
use Rattle.serde_json.specs.View.{items_of}
use Rattle.serde_json.specs.Written.{has_float, items_have_float}
use Rattle.json_out.specs.Rows.{value_data, bucket_data, shown_bucket, buckets, agg_data, cell_data, row_data}
use Rattle.json_out.specs.Lines.{map_data}
use Rattle.json_out.specs.Texts.{list_data}

-- of two values neither of which has one, none has
both : (a b : Bool) → a ≡ false → b ≡ false → (a || b) ≡ false
both a b p q = (λ i. p i || b) ∙ q

plain_integer : (n : ℤ) → has_float (number (of_integer n)) ≡ false
plain_integer (pos n) = refl
plain_integer (negsuc n) = refl

plain_all : {X : Type 0} (f : X → Data) → ((x : X) → has_float (f x) ≡ false) → (xs : List X)
    → items_have_float (items_of (map f xs)) ≡ false
plain_all f h [] = refl
plain_all f h (x ∷ xs) =
    both (has_float (f x)) (items_have_float (items_of (map f xs))) (h x) (plain_all f h xs)

plain_value : (v : Value) → has_float (value_data v) ≡ false
plain_value (Int n) = plain_integer n
plain_value (Str s) = refl

plain_after : (shown : Bool) (label : List ℕ) (count : ℕ) (rest : List Data) → items_have_float (items_of rest) ≡ false
    → items_have_float (items_of (cond shown (bucket_data label count ∷ []) [] ++ rest)) ≡ false
plain_after true label count rest h = h
plain_after false label count rest h = h

plain_buckets : (label : ℕ → List ℕ) (counts places : List ℕ)
    → items_have_float (items_of (flat_map (shown_bucket label counts) places)) ≡ false
plain_buckets label counts [] = refl
plain_buckets label counts (b ∷ bs) =
    plain_after (is_shown counts b) (label b) (slice_index counts b) (flat_map (shown_bucket label counts) bs) (plain_buckets label counts bs)

plain_histogram : (kind : AggKind) (counts : List ℕ) → has_float (list_data (buckets kind counts)) ≡ false
plain_histogram kind counts = plain_buckets (label_of kind (length counts - 1)) counts (range_with_len 0 (length counts))

plain_agg : (div : ℤ) (a : Agg) (bs : Buckets) → has_float (agg_data div a bs) ≡ false
plain_agg div a held.Plain = plain_integer (whole_quotient (number_of a) div)
plain_agg div a (held.Hist counts) = plain_histogram a.kind (divided (unsigned_abs div) counts)
plain_agg div a (held.Lhist counts) = plain_histogram a.kind (divided (unsigned_abs div) counts)

plain_cell : (div : ℤ) (cell : Cell) → has_float (cell_data div cell) ≡ false
plain_cell div (cells.Value (Int n)) = plain_integer (whole_quotient n div)
plain_cell div (cells.Value (Str s)) = refl
plain_cell div (cells.Agg a) = plain_agg div a a.buckets

plain_row : (div : ℤ) (row : List Value × Cell) → has_float (row_data div row) ≡ false
plain_row div row =
    both (items_have_float (items_of (map value_data row.0))) (has_float (cell_data div row.1) || false)
    (plain_all value_data plain_value row.0)
    (both (has_float (cell_data div row.1)) false (plain_cell div row.1) refl)

plain_map : (name : List ℕ) (div : ℤ) (rows : List (List Value × Cell)) → has_float (map_data name (map (row_data div) rows)) ≡ false
plain_map name div rows =
    both (items_have_float (items_of (map (row_data div) rows))) false (plain_all (row_data div) (plain_row div) rows) refl

-- the line of a map has none
pub plain_line : (d : Data) (name : List ℕ) (div : ℤ) (rows : List (List Value × Cell))
    → d ≡ map_data name (map (row_data div) rows) → has_float d ≡ false
plain_line d name div rows is = ap has_float is ∙ plain_map name div rows
