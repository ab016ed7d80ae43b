use Rattle.std.proofs.Common.{◌<◌, ◌≤◌, ◌++◌, ℕ, pos, length, refl, sym, subst, ◌∙◌}
use Rattle.map_printer.proofs.Chains.{next_pair, last_pair}
use Rattle.map_printer.proofs.Fitting.{fit_behind}
use Rattle.json_out.specs.Lines.{map_lines, all_map_lines}
use Rattle.json_out.proofs.ends.write_maps.Goals as goal

pub loop-at-preserved : goal.loop-at-preserved
loop-at-preserved c =
    let maps = c.args.maps.now in let rows = c.args.rows.now in let i = c.loop-at.at in let m = c.index-maps-at.result in let r = c.index-rows-at.result in
    let same : i < length rows = subst (λ (n : ℕ). i < n) (sym c.requires.rows) c.loop-at-test.true in
    record {
      written = next_pair all_map_lines (λ d l. map_lines d l 0 (pos 1)) (λ d ds l ls. refl) maps rows i m m c.as_slice.result.now r c.loop-at.out.items c.write_map.new.out.items
          (c.args.out.now.items ++ all_map_lines maps rows) c.loop-at-test.true same c.index-maps-at.is (c.as_slice.ensures ∙ c.index-rows-at.is)
          c.loop-at.invariant.written c.in_ok-write_map.ensures;
      fit = fit_behind maps rows i m r c.loop-at-test.true same c.loop-at.invariant.fit;
    }

pub returns : goal.returns
returns c =
    let maps = c.args.maps.now in let rows = c.args.rows.now in
    last_pair all_map_lines refl maps rows c.loop-at.at c.loop-at.out.items (c.args.out.now.items ++ all_map_lines maps rows) c.loop-at-test.false
    (subst (λ (n : ℕ). n ≤ c.loop-at.at) (sym c.requires.rows) c.loop-at-test.false) c.loop-at.invariant.written
