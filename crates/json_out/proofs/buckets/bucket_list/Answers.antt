use Rattle.std.proofs.Common.{◌≡◌, ℕ, ◌+◌, ◌-◌, ◌++◌, [], ◌∷◌, cond, List, length, slice_index, ◌∙◌, refl, ap, map, arith}
use Rattle.std.specs.List.{flat_map, range_with_len}
use Rattle.map_printer.specs.Buckets.{label_of}
use Rattle.map_printer.proofs.Shown.{shown_is, rows_more, seen_more, seen_few}
use Rattle.serde_json.specs.View.{view}
use Rattle.json_out.specs.Rows.{bucket_data, shown_bucket}
use Rattle.json_out.proofs.buckets.bucket_list.Goals as goal

pub loop-bucket-preserved : goal.loop-bucket-preserved
loop-bucket-preserved c =
    let counts = c.args.counts.now in let b = c.loop-bucket.bucket in
    let label : ℕ → List ℕ = label_of c.args.kind (length counts - 1) in
    let seen = seen_more counts b c.loop-bucket.seen c.one_if_some-seen.result c.loop-bucket-test.true c.loop-bucket.invariant.seen c.one_if_some-seen.ensures in
    record {
      listed = c.in_ok-push_shown.ensures
          ∙ (λ i. c.loop-bucket.invariant.listed i ++ cond (shown_is counts b c.loop-bucket.seen (c.loop-bucket.seen + c.one_if_some-seen.result) c.some_counts-some.result c.loop-bucket.invariant.seen seen c.some_counts-some.ensures i)
          (bucket_data (label b) (slice_index counts b) ∷ []) [])
          ∙ rows_more (shown_bucket label counts) [] b;
      seen = seen;
    }

pub push_shown-requires-clause-fits : goal.push_shown-requires-clause-fits
push_shown-requires-clause-fits c = c.requires

pub loop-bucket-init : goal.loop-bucket-init
loop-bucket-init c = record { listed = ap (map view) c.new-list.ensures.items; seen = refl }

pub returns : goal.returns
returns c =
    let counts = c.args.counts.now in
    let end : c.loop-bucket.bucket ≡ length counts = omega arith in
    c.loop-bucket.invariant.listed ∙ ap (λ (n : ℕ). flat_map (shown_bucket (label_of c.args.kind (length counts - 1)) counts) (range_with_len 0 n)) end

pub overflow_add-seen : goal.overflow_add-seen
overflow_add-seen c =
    let counts = c.args.counts.now in let b = c.loop-bucket.bucket in
    let seen = seen_more counts b c.loop-bucket.seen c.one_if_some-seen.result c.loop-bucket-test.true c.loop-bucket.invariant.seen c.one_if_some-seen.ensures in
    let few = seen_few counts b (c.loop-bucket.seen + c.one_if_some-seen.result) c.loop-bucket-test.true seen in
    omega (arith, few)
