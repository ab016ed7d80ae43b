use Rattle.std.proofs.Common.{◌≡◌, ◌-◌, length, take, map}
use Rattle.std.specs.List.{flat_map, range_with_len}
use Rattle.map_printer.specs.Buckets.{label_of, some_counts}
use Rattle.serde_json.specs.View.{view}
use Rattle.json_out.specs.Rows.{shown_bucket}
use Rattle.json_out.proofs.buckets.bucket_list.Given as goal

-- the buckets so far; and how many of the counts so far are not 0
abbrev pub invariant-loop-bucket : goal.invariant-loop-bucket
invariant-loop-bucket l = record {
  listed : map view l.list.items ≡ flat_map (shown_bucket (label_of l.kind (length l.counts - 1)) l.counts) (range_with_len 0 l.bucket);
  seen : l.seen ≡ some_counts (take l.bucket l.counts);
}
