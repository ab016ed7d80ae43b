-- Entries that have the same rows.
use Rattle.std.proofs.Common.{◌≡◌, ℕ, suc, ◌+◌, ◌%◌, ◌^◌, ℤ, pos, ◌+ℤ◌, Bool, true, false, ◌||◌, cond, ◌==◌, List, [], ◌∷◌, ◌++◌, map, length, Option, Some, None, refl, sym, ap, ◌∙◌, arith, fold, append_assoc}
use Rattle.std.specs.Int.{int_min, int_max}
use Rattle.std.specs.List.{count_by}
use Rattle.std.proofs.lemmas.Int.{ints}
use Rattle.std.proofs.lemmas.List.{length-append}
use Rattle.std.proofs.lemmas.List.Sums.{sum_by-append, fold-append}
use Rattle.bt_core.specs.declared.agg.Agg.{Agg}
use Rattle.bt_core.specs.declared.agg.Buckets.TheVariants as held
use Rattle.bt_core.specs.declared.item.Cell.TheVariants as cells
use Rattle.bt_core.specs.declared.map.AggKind.{AggKind}
use Rattle.bt_core.specs.declared.map.AggKind.TheVariants.{Hist, Lhist}
use Rattle.bt_core.specs.declared.value.Value.{Value}
use Rattle.agg_core.specs.Aggregates.{aggregate, agg_merged, signed, either, bucket, bounds, counts, buckets_of, upto}
use Rattle.agg_core.proofs.MergeLaws.{merged-both}
use Rattle.agg_core.proofs.SortedRows.{row_at}
use Rattle.map_rows.proofs.KeySets.{same_keys}
use Rattle.bt_meaning.specs.Totals.{Addition, addition_keys, numbers_at, total_rows}
use Rattle.total_laws.proofs.Given.{named, ascends-entry_keys, has-entry_keys, named-append, numbers_at-append, map_same}

or_flip : (a b : Bool) → (a || b) ≡ (b || a)
or_flip true true = refl
or_flip true false = refl
or_flip false true = refl
or_flip false false = refl

min_flip : (a b : ℤ) → int_min a b ≡ int_min b a
min_flip a b = grind (arith, ints)

max_flip : (a b : ℤ) → int_max a b ≡ int_max b a
max_flip a b = grind (arith, ints)

either_flip : (f : ℤ → ℤ → ℤ) → ((a b : ℤ) → f a b ≡ f b a) → (x y : Option ℤ) → either f x y ≡ either f y x
either_flip f flip None None = refl
either_flip f flip None (Some b) = refl
either_flip f flip (Some a) None = refl
either_flip f flip (Some a) (Some b) = ap (λ (z : ℤ). Some z) (flip a b)

sum_from : (a : ℤ) (ns : List ℤ) → fold ◌+ℤ◌ a ns ≡ a +ℤ fold ◌+ℤ◌ (pos 0) ns
sum_from a [] = omega (arith, ints)
sum_from a (n ∷ ns) = let p = sum_from (a +ℤ n) ns in let q = sum_from (pos 0 +ℤ n) ns in omega (arith, ints, p, q)

sum_flip : (ms ns : List ℤ) → fold ◌+ℤ◌ (pos 0) (ms ++ ns) ≡ fold ◌+ℤ◌ (pos 0) (ns ++ ms)
sum_flip ms ns = let a = fold-append ◌+ℤ◌ (pos 0) ms ns in let b = fold-append ◌+ℤ◌ (pos 0) ns ms in
    let c = sum_from (fold ◌+ℤ◌ (pos 0) ms) ns in let d = sum_from (fold ◌+ℤ◌ (pos 0) ns) ms in omega (arith, ints, a, b, c, d)

length_flip : (ms ns : List ℤ) → length (ms ++ ns) ≡ length (ns ++ ms)
length_flip ms ns = let a = length-append ms ns in let b = length-append ns ms in omega arith

counts_flip : (kind : AggKind) (ms ns : List ℤ) → counts kind (ms ++ ns) ≡ counts kind (ns ++ ms)
counts_flip kind ms ns = map_same (λ b. count_by (λ n. bucket kind n == b) (ms ++ ns) % 2 ^ 64) (λ b. count_by (λ n. bucket kind n == b) (ns ++ ms) % 2 ^ 64) (upto (suc (length (bounds kind))))
    (λ b. let p : ℤ → ℕ = λ n. cond (bucket kind n == b) 1 0 in
    let e : count_by (λ n. bucket kind n == b) (ms ++ ns) ≡ count_by (λ n. bucket kind n == b) ms + count_by (λ n. bucket kind n == b) ns = sum_by-append p ms ns in
    let f : count_by (λ n. bucket kind n == b) (ns ++ ms) ≡ count_by (λ n. bucket kind n == b) ns + count_by (λ n. bucket kind n == b) ms = sum_by-append p ns ms in
    let g : count_by (λ n. bucket kind n == b) (ms ++ ns) ≡ count_by (λ n. bucket kind n == b) (ns ++ ms) = omega arith in
    ap (λ (c : ℕ). c % 2 ^ 64) g)

buckets_flip : (kind : AggKind) (ms ns : List ℤ) → buckets_of kind (ms ++ ns) ≡ buckets_of kind (ns ++ ms)
buckets_flip Hist ms ns = ap (λ (c : List ℕ). held.Hist c) (counts_flip Hist ms ns)
buckets_flip (Lhist low high step) ms ns = ap (λ (c : List ℕ). held.Lhist c) (counts_flip (Lhist low high step) ms ns)
buckets_flip kind ms ns = refl

aggregate_flip : (kind : AggKind) (ms ns : List ℤ) → aggregate kind (ms ++ ns) ≡ aggregate kind (ns ++ ms)
aggregate_flip kind ms ns =
    let p = merged-both kind ms ns in let q = merged-both kind ns ms in
    let a = aggregate kind ms in let b = aggregate kind ns in
    λ i. record {
      kind = kind;
      count = ap (λ (n : ℕ). signed (pos n)) (length_flip ms ns) i;
      sum = ap signed (sum_flip ms ns) i;
      least = (sym (ap (λ (g : Agg). g.least) p) ∙ either_flip int_min min_flip a.least b.least ∙ ap (λ (g : Agg). g.least) q) i;
      greatest = (sym (ap (λ (g : Agg). g.greatest) p) ∙ either_flip int_max max_flip a.greatest b.greatest ∙ ap (λ (g : Agg). g.greatest) q) i;
      buckets = buckets_flip kind ms ns i;
    }

-- the same keys, and at each key the same aggregate
pub record Alike (xs ys : List Addition) : Type 0 where
  pub keys : (k : List Value) → named k xs ≡ named k ys
  pub cells : (kind : AggKind) (k : List Value) → aggregate kind (numbers_at k xs) ≡ aggregate kind (numbers_at k ys)

pub alike_same : (xs ys : List Addition) → xs ≡ ys → Alike xs ys
alike_same xs ys e = record { keys = λ k. ap (named k) e; cells = λ kind k. ap (λ (l : List Addition). aggregate kind (numbers_at k l)) e }

pub alike_trans : (xs ys zs : List Addition) → Alike xs ys → Alike ys zs → Alike xs zs
alike_trans xs ys zs p q = record { keys = λ k. p.keys k ∙ q.keys k; cells = λ kind k. p.cells kind k ∙ q.cells kind k }

pub alike_sym : (xs ys : List Addition) → Alike xs ys → Alike ys xs
alike_sym xs ys p = record { keys = λ k. sym (p.keys k); cells = λ kind k. sym (p.cells kind k) }

pub alike_append : (xs ys us vs : List Addition) → Alike xs us → Alike ys vs → Alike (xs ++ ys) (us ++ vs)
alike_append xs ys us vs p q = record {
  keys = λ k. named-append k xs ys ∙ (λ i. p.keys k i || q.keys k i) ∙ sym (named-append k us vs);
  cells = λ kind k. ap (aggregate kind) (numbers_at-append k xs ys) ∙ sym (merged-both kind (numbers_at k xs) (numbers_at k ys))
      ∙ (λ i. agg_merged (p.cells kind k i) (q.cells kind k i))
      ∙ merged-both kind (numbers_at k us) (numbers_at k vs) ∙ ap (aggregate kind) (sym (numbers_at-append k us vs));
}

pub alike_flip : (xs ys : List Addition) → Alike (xs ++ ys) (ys ++ xs)
alike_flip xs ys = record {
  keys = λ k. named-append k xs ys ∙ or_flip (named k xs) (named k ys) ∙ sym (named-append k ys xs);
  cells = λ kind k. ap (aggregate kind) (numbers_at-append k xs ys) ∙ aggregate_flip kind (numbers_at k xs) (numbers_at k ys) ∙ ap (aggregate kind) (sym (numbers_at-append k ys xs));
}

pub alike_keys : (xs ys : List Addition) → Alike xs ys → addition_keys xs ≡ addition_keys ys
alike_keys xs ys p = same_keys (addition_keys xs) (addition_keys ys) (ascends-entry_keys xs) (ascends-entry_keys ys) (λ k. has-entry_keys k xs ∙ p.keys k ∙ sym (has-entry_keys k ys))

pub alike_rows : (kind : AggKind) (xs ys : List Addition) → Alike xs ys → total_rows kind xs ≡ total_rows kind ys
alike_rows kind xs ys p =
    map_same (row_at (λ k. cells.Agg (aggregate kind (numbers_at k xs)))) (row_at (λ k. cells.Agg (aggregate kind (numbers_at k ys)))) (addition_keys xs)
    (λ k i. (k, cells.Agg (p.cells kind k i)))
    ∙ ap (map (row_at (λ k. cells.Agg (aggregate kind (numbers_at k ys))))) (alike_keys xs ys p)

-- the middle two of four change places
pub alike_middle : (xs ys us vs : List Addition) → Alike ((xs ++ ys) ++ (us ++ vs)) ((xs ++ us) ++ (ys ++ vs))
alike_middle xs ys us vs =
    alike_trans ((xs ++ ys) ++ (us ++ vs)) (xs ++ ((ys ++ us) ++ vs)) ((xs ++ us) ++ (ys ++ vs))
    (alike_same ((xs ++ ys) ++ (us ++ vs)) (xs ++ ((ys ++ us) ++ vs)) (append_assoc xs ys (us ++ vs) ∙ ap (λ (l : List Addition). xs ++ l) (sym (append_assoc ys us vs))))
    (alike_trans (xs ++ ((ys ++ us) ++ vs)) (xs ++ ((us ++ ys) ++ vs)) ((xs ++ us) ++ (ys ++ vs))
    (alike_append xs ((ys ++ us) ++ vs) xs ((us ++ ys) ++ vs) (alike_same xs xs refl) (alike_append (ys ++ us) vs (us ++ ys) vs (alike_flip ys us) (alike_same vs vs refl)))
    (alike_same (xs ++ ((us ++ ys) ++ vs)) ((xs ++ us) ++ (ys ++ vs)) (ap (λ (l : List Addition). xs ++ l) (append_assoc us ys vs) ∙ sym (append_assoc xs us (ys ++ vs)))))
