use Rattle.std.proofs.Common.{◌<◌, ◌≤◌, ◌++◌, ℕ, List, get_or, length, refl, ap, sym, subst, ◌∙◌}
use Rattle.map_printer.proofs.Chains.{next_pair, last_pair}
use Rattle.json_out.specs.Lines.{lost_lines, all_lost_lines}
use Rattle.json_out.proofs.ends.write_all_lost.Goals as goal

pub loop-at-preserved : goal.loop-at-preserved
loop-at-preserved c =
    let maps = c.args.maps.now in let lost = c.args.lost.now in let i = c.loop-at.at in let m = get_or maps i c.index-maps-at.result in let n = get_or lost i 0 in
    let same : i < length lost = subst (λ (k : ℕ). i < k) (sym c.requires.lost) c.loop-at-test.true in
    next_pair all_lost_lines (λ d l. lost_lines l d.name) (λ d ds l ls. refl) maps lost i m c.index-maps-at.result n 0 c.loop-at.out.items c.write_lost.new.out.items
    (c.args.out.now.items ++ all_lost_lines maps lost) c.loop-at-test.true same refl refl c.loop-at.invariant
    (c.in_ok-write_lost.ensures ∙ ap (λ (name : List ℕ). c.loop-at.out.items ++ lost_lines n name) c.as_slice.ensures)

pub returns : goal.returns
returns c =
    let maps = c.args.maps.now in let lost = c.args.lost.now in
    last_pair all_lost_lines refl maps lost c.loop-at.at c.loop-at.out.items (c.args.out.now.items ++ all_lost_lines maps lost) c.loop-at-test.false
    (subst (λ (k : ℕ). k ≤ c.loop-at.at) (sym c.requires.lost) c.loop-at-test.false) c.loop-at.invariant
