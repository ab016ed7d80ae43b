use Rattle.std.proofs.Common.{◌≡◌, ◌++◌, ◌-◌, ◌/◌, ℕ, List, OnOk, length, sym, ap, subst, ◌∙◌, codes}
use Rattle.std.proofs.lemmas.List.{length-map}
use Rattle.map_printer.specs.Buckets.{FitsCounts, bucket_rows, label_of}
use Rattle.map_printer.specs.Rows.{divided}
use Rattle.map_printer.proofs.Chains.{then_called}
use Rattle.map_printer.proofs.row_text.write_rows_below.Goals as goal

pub returns : goal.returns
returns c =
    let counts = divided c.args.div c.args.counts.now in let y = c.extend_from_slice.new.self.items in let z = c.write_buckets.new.out.items in
    let rows : List ℕ → List ℕ = λ l. bucket_rows (label_of c.args.kind (length l - 1)) l in
    then_called c.write_buckets.result c.args.out.now.items (codes ":\n") (rows counts) y z c.in_ok-extend_from_slice.ensures.items
    (subst (λ (l : List ℕ). OnOk c.write_buckets.result (z ≡ y ++ rows l)) (c.deref.ensures.value ∙ c.in_ok-counts.ensures) c.write_buckets.ensures)

pub write_buckets-requires : goal.write_buckets-requires
write_buckets-requires c =
    subst (FitsCounts c.args.kind) (sym (ap (λ (l : List ℕ). length l) (c.deref.ensures.value ∙ c.in_ok-counts.ensures) ∙ length-map c.args.counts.now (λ (n : ℕ). n / c.args.div))) c.requires.fits
