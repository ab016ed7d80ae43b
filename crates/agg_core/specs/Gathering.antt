-- Only for proofs: what the code does to an aggregate at one number more, and at no numbers.
use Rattle.std.specs.Prelude.{ℕ, ◌+◌, ◌%◌, ◌^◌, ℤ, pos, List, length, slice_set, slice_index, replicate, Some}
use Rattle.std.specs.Int.{w64, int_min, int_max, int_wrapping_add}
use Rattle.bt_core.specs.declared.agg.Agg.{Agg}
use Rattle.bt_core.specs.declared.agg.Buckets.{Buckets}
use Rattle.bt_core.specs.declared.agg.Buckets.TheVariants as held
use Rattle.agg_core.specs.Aggregates.{bucket, either}

abbrev pub one_more : ℕ → List ℕ → List ℕ
one_more b cs = slice_set cs b ((slice_index cs b + 1) % 2 ^ 64)

abbrev pub with_bucket : ℕ → Buckets → Buckets
with_bucket b held.Plain = held.Plain
with_bucket b (held.Hist cs) = held.Hist (one_more b cs)
with_bucket b (held.Lhist cs) = held.Lhist (one_more b cs)

-- an aggregate with one number more
abbrev pub with_number : Agg → ℤ → Agg
with_number a n = record {
  kind = a.kind;
  count = int_wrapping_add w64 a.count (pos 1);
  sum = int_wrapping_add w64 a.sum n;
  least = either int_min a.least (Some n);
  greatest = either int_max a.greatest (Some n);
  buckets = with_bucket (bucket a.kind n) a.buckets;
}

-- as many buckets, with no number in any
abbrev pub emptied : Buckets → Buckets
emptied held.Plain = held.Plain
emptied (held.Hist cs) = held.Hist (replicate 65 0)
emptied (held.Lhist cs) = held.Lhist (replicate (length cs) 0)
