-- The rows of a map as JSON.
use Rattle.std.specs.Prelude.{ℕ, ℤ, ◌-◌, List, [], ◌∷◌, map, length, slice_index, cond, codes}
use Rattle.std.specs.Int.RustNames.{unsigned_abs}
use Rattle.std.specs.List.{flat_map, range_with_len}
use Rattle.bt_core.specs.declared.agg.Agg.{Agg}
use Rattle.bt_core.specs.declared.agg.Buckets.{Buckets}
use Rattle.bt_core.specs.declared.agg.Buckets.TheVariants as held
use Rattle.bt_core.specs.declared.item.Cell.{Cell}
use Rattle.bt_core.specs.declared.item.Cell.TheVariants as cells
use Rattle.bt_core.specs.declared.map.AggKind.{AggKind}
use Rattle.bt_core.specs.declared.value.Value.{Value}
use Rattle.bt_core.specs.declared.value.Value.TheVariants.{Int, Str}
use Rattle.map_printer.specs.Buckets.{is_shown, label_of}
use Rattle.map_printer.specs.Rows.{divided}
use Rattle.map_rows.specs.Numbers.{number_of, whole_quotient}
use Rattle.serde_json.specs.Data.{Data, unsigned, number, object, no_members, member}
use Rattle.serde_json.specs.Find.{of_integer}
use Rattle.json_out.specs.Texts.{text_data, list_data}

-- a number, or a string
abbrev pub value_data : Value → Data
value_data (Int n) = number (of_integer n)
value_data (Str s) = text_data s

-- a bucket's count and label
abbrev pub bucket_data : List ℕ → ℕ → Data
bucket_data label count = object (member (codes "count") (number (unsigned count)) (member (codes "label") (text_data label) no_members))

-- the bucket, or none where no row of it is printed
abbrev pub shown_bucket : (ℕ → List ℕ) → List ℕ → ℕ → List Data
shown_bucket label counts b = cond (is_shown counts b) (bucket_data (label b) (slice_index counts b) ∷ []) []

-- the buckets of a histogram of this kind from the first to the last count that is not 0
abbrev pub buckets : AggKind → List ℕ → List Data
buckets kind counts = flat_map (shown_bucket (label_of kind (length counts - 1)) counts) (range_with_len 0 (length counts))

-- a number is divided, a string stays
abbrev pub divided_value : ℤ → Value → Data
divided_value div (Int n) = number (of_integer (whole_quotient n div))
divided_value div (Str s) = text_data s

-- the value or each count is divided first
abbrev pub agg_data : ℤ → Agg → Buckets → Data
agg_data div a held.Plain = number (of_integer (whole_quotient (number_of a) div))
agg_data div a (held.Hist counts) = list_data (buckets a.kind (divided (unsigned_abs div) counts))
agg_data div a (held.Lhist counts) = list_data (buckets a.kind (divided (unsigned_abs div) counts))

-- what stands under a key
abbrev pub cell_data : ℤ → Cell → Data
cell_data div (cells.Value v) = divided_value div v
cell_data div (cells.Agg a) = agg_data div a a.buckets

-- the parts of the key, and what stands under it
abbrev pub row_data : ℤ → (List Value × Cell) → Data
row_data div row = object (member (codes "key") (list_data (map value_data row.0)) (member (codes "value") (cell_data div row.1) no_members))
