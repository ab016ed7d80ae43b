use Rattle.std.proofs.Common.{◌≡◌, ⊎_elim, arith, refl, sym, ◌∙◌}
use Rattle.std.specs.Iterator.Adapters.{zip_first, zip_second}
use Rattle.std.specs.Vec.Iter.{into_iter_items, into_iter_len}
use Rattle.thread_actors.specs.Turns.{at_maps, at_tables, at_sides}
use Rattle.thread_actors.proofs.Rowing.{all_made, one_made}
use Rattle.thread_actors.proofs.turns.joined.Goals as goal

pub loop-maps-preserved : goal.loop-maps-preserved
loop-maps-preserved c =
    let before = c.loop-maps.maps-iterator in let after = c.next.new.self in let made = c.loop-maps.all.items in
    let step = c.in-Some.ensures.steps in let pushed = c.in_ok-push.ensures.items in let all = c.loop-maps.invariant in record {
      tables_count = (let same = all.tables_count in omega (arith, same, step.0.0.1, step.0.1.1));
      sides_count = (let same = all.sides_count in omega (arith, same, step.0.0.1, step.1.1));
      maps = one_made at_maps made c.push.new.self.items _ c.in-Some.maps (into_iter_items (zip_first (zip_first before))) (into_iter_items (zip_first (zip_first after))) c.args.maps.items
          pushed step.0.0.0 refl all.maps;
      tables = one_made at_tables made c.push.new.self.items _ c.in-Some.tables (into_iter_items (zip_second (zip_first before))) (into_iter_items (zip_second (zip_first after)))
          c.args.tables.items pushed step.0.1.0 refl all.tables;
      sides = one_made at_sides made c.push.new.self.items _ c.in-Some.sides (into_iter_items (zip_second before)) (into_iter_items (zip_second after)) c.args.sides.items
          pushed step.1.0 refl all.sides;
    }

-- the pairs give nothing more where one of the three lists has nothing left, and they are of one length
none_left : (c : goal.After-drop-maps-iterator-4) → into_iter_len (zip_first (zip_first c.loop-maps.maps-iterator)) ≡ 0
none_left c =
    let tables = c.loop-maps.invariant.tables_count in let sides = c.loop-maps.invariant.sides_count in
    ⊎_elim (λ both. ⊎_elim (λ maps. maps.1.0) (λ gone. sym tables ∙ gone.1.0) both.1) (λ gone. sym sides ∙ gone.1.0) c.in-None.ensures.steps

pub returns-clause-maps : goal.returns-clause-maps
returns-clause-maps c = let left = zip_first (zip_first c.loop-maps.maps-iterator) in
    all_made at_maps c.loop-maps.all.items (into_iter_items left) c.args.maps.items (sym (none_left c) ∙ left.rest.ok.0) c.loop-maps.invariant.maps

pub returns-clause-tables : goal.returns-clause-tables
returns-clause-tables c = let left = zip_second (zip_first c.loop-maps.maps-iterator) in
    all_made at_tables c.loop-maps.all.items (into_iter_items left) c.args.tables.items
    (sym (c.loop-maps.invariant.tables_count ∙ none_left c) ∙ left.rest.ok.0) c.loop-maps.invariant.tables

pub returns-clause-sides : goal.returns-clause-sides
returns-clause-sides c = let left = zip_second c.loop-maps.maps-iterator in
    all_made at_sides c.loop-maps.all.items (into_iter_items left) c.args.sides.items
    (sym (c.loop-maps.invariant.sides_count ∙ none_left c) ∙ left.rest.ok.0) c.loop-maps.invariant.sides
