use Rattle.std.proofs.Common.{◌≡◌, ℕ, sym, ◌∙◌, ap, replicate, [], List, rules}
use Rattle.agg_core.specs.Aggregates.{counts}
use Rattle.bt_core.specs.declared.agg.Buckets.TheVariants as held
use Rattle.agg_core.proofs.CountLaws.{counts-none, hist-none}
use Rattle.agg_core.proofs.gather.empty_buckets.Goals as goal

pub returns-in-Hist : goal.returns-in-Hist
returns-in-Hist c = rw c.in-Hist.is (c.no_counts.ensures ∙ ap (λ (n : List ℕ). held.Hist n) (sym hist-none))

pub returns-in_ok-counts-in-Lhist : goal.returns-in_ok-counts-in-Lhist
returns-in_ok-counts-in-Lhist c =
    let long = c.bucket_count.ensures c.requires in
    let zeros : c.in_ok-counts-in-Lhist.counts.items ≡ replicate c.bucket_count.result 0 = c.in_ok-counts-in-Lhist.ensures.items_if_clones_equal (λ y e. search rules) in
    let all : c.of.result ≡ counts c.args.kind [] = c.of.ensures ∙ zeros ∙ ap (λ n. replicate n 0) long ∙ sym (counts-none c.args.kind) in
    rw c.in-Lhist.is (ap (λ (n : List ℕ). held.Lhist n) (rw c.in-Lhist.is at all))
