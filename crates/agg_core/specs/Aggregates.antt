-- The aggregate of a list of numbers, and of two aggregates.
use Rattle.std.specs.Prelude.{ℕ, suc, ◌+◌, ◌*◌, ◌%◌, ◌^◌, ℤ, pos, ◌+ℤ◌, ◌==◌, List, [], ◌∷◌, ◌++◌, map, length, fold, count_by, Option, None, Some}
use Rattle.std.specs.Int.{w64, int_wrap, int_min, int_max}
use Rattle.std.specs.Int.RustNames.{int_le, unsigned_abs}
use Rattle.std.specs.List.{range_with_len, reduce}
use Rattle.bt_core.specs.declared.agg.Agg.{Agg}
use Rattle.bt_core.specs.declared.agg.Buckets.{Buckets}
use Rattle.bt_core.specs.declared.agg.Buckets.TheVariants as held
use Rattle.bt_core.specs.declared.map.AggKind.{AggKind}
use Rattle.bt_core.specs.declared.map.AggKind.TheVariants.{Hist, Lhist}
use Rattle.bt_core.specs.Kinds.{steps_between}

-- 0, 1, 2, .. up to n - 1
abbrev pub upto : ℕ → List ℕ
upto n = range_with_len 0 n

-- 1, 2, 4, .., n powers of two
abbrev pub powers : ℕ → List ℤ
powers n = map (λ i. pos (2 ^ i)) (upto n)

-- min, min + step, min + 2 * step, .., n numbers
abbrev pub steps_from : ℤ → ℤ → ℕ → List ℤ
steps_from min step n = map (λ j. min +ℤ pos (j * unsigned_abs step)) (upto n)

-- the least number of each bucket but the first, in order
unfoldable pub bounds : AggKind → List ℤ
bounds Hist = pos 0 ∷ powers 63
bounds (Lhist min max step) = steps_from min step (steps_between min max step) ++ max ∷ []
bounds kind = []

abbrev pub HasBuckets : AggKind → Type 0
HasBuckets Hist = Unit {0}
HasBuckets (Lhist min max step) = Unit {0}
HasBuckets kind = ⊥

-- the bucket that a number falls into: how many bounds it reaches
abbrev pub bucket : AggKind → ℤ → ℕ
bucket kind n = count_by (λ bound. int_le bound n) (bounds kind)

-- how many of the numbers fall into each bucket, modulo 2^64
abbrev pub counts : AggKind → List ℤ → List ℕ
counts kind ns = map (λ b. count_by (λ n. bucket kind n == b) ns % 2 ^ 64) (upto (suc (length (bounds kind))))

abbrev pub buckets_of : AggKind → List ℤ → Buckets
buckets_of Hist ns = held.Hist (counts Hist ns)
buckets_of (Lhist min max step) ns = held.Lhist (counts (Lhist min max step) ns)
buckets_of kind ns = held.Plain

-- the number modulo 2^64, as a signed one
abbrev pub signed : ℤ → ℤ
signed n = int_wrap w64 n

-- of these numbers: how many, their sum, the least and the greatest, and the counts of the kind's buckets
abbrev pub aggregate : AggKind → List ℤ → Agg
aggregate kind ns = record {
  kind = kind;
  count = signed (pos (length ns));
  sum = signed (fold ◌+ℤ◌ (pos 0) ns);
  least = reduce int_min ns;
  greatest = reduce int_max ns;
  buckets = buckets_of kind ns;
}

-- both numbers by f, where none gives way to the other
abbrev pub either : (ℤ → ℤ → ℤ) → Option ℤ → Option ℤ → Option ℤ
either f None n = n
either f (Some m) None = Some m
either f (Some m) (Some n) = Some (f m n)

-- the counts added up bucket by bucket, modulo 2^64
abbrev pub both_counts : List ℕ → List ℕ → List ℕ
both_counts [] ds = []
both_counts (c ∷ cs) [] = c ∷ cs
both_counts (c ∷ cs) (d ∷ ds) = (c + d) % 2 ^ 64 ∷ both_counts cs ds

abbrev pub both_buckets : Buckets → Buckets → Buckets
both_buckets (held.Hist cs) (held.Hist ds) = held.Hist (both_counts cs ds)
both_buckets (held.Lhist cs) (held.Lhist ds) = held.Lhist (both_counts cs ds)
both_buckets bs other = bs

-- two aggregates of one kind, merged
abbrev pub agg_merged : Agg → Agg → Agg
agg_merged a b = record {
  kind = a.kind;
  count = signed (a.count +ℤ b.count);
  sum = signed (a.sum +ℤ b.sum);
  least = either int_min a.least b.least;
  greatest = either int_max a.greatest b.greatest;
  buckets = both_buckets a.buckets b.buckets;
}
