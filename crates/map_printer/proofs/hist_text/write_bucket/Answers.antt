use Rattle.fmt_text.specs.Columns.{left_in}
use Rattle.map_printer.specs.Buckets.{count_and_bar, label_of}
use Rattle.map_printer.proofs.Chains.{then_called}
use Rattle.map_printer.proofs.hist_text.write_bucket.Goals as goal

pub returns : goal.returns
returns c =
    then_called c.write_count.result c.args.out.now.items (left_in 16 (label_of c.args.kind c.args.last c.args.bucket)) (count_and_bar c.args.count c.args.greatest)
    c.write_left_label.new.out.items c.write_count.new.out.items c.in_ok-write_left_label.ensures c.write_count.ensures
