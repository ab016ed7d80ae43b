use Rattle.std.proofs.Common.{◌≡◌, ap, sym, ◌∙◌, subst, arith}
use Rattle.std.specs.Prelude.{slice_get, Some}
use Rattle.std.proofs.lemmas.Option.{slice_get-get_or, slice_get_within}
use Rattle.run_objects.specs.News.{AreNewParts}
use Rattle.run_objects.proofs.NewLemmas.{maps_more}
use Rattle.run_objects.proofs.MoreLemmas.{count_more}
use Rattle.run_objects.proofs.new_objects.parts_of_all.Goals as goal

pub loop-map-preserved : goal.loop-map-preserved
loop-map-preserved c =
    let i = c.loop-map.invariant.count in
    let l = count_more c.loop-map.all.items _ c.in_ok-parts_of.field-0 c.in_ok-push.ensures.items in
    let there : slice_get c.args.maps.now c.loop-map.map ≡ Some c.index-maps-map.result =
    slice_get-get_or c.args.maps.now c.loop-map.map c.index-maps-map.result c.loop-map-test.true ∙ ap Some (sym c.index-maps-map.is) in record {
      count = omega arith;
      each = maps_more c.args.maps.now c.loop-map.all.items _ c.in_ok-parts_of.field-0 c.index-maps-map.result c.loop-map.map i there
          (subst (λ n. AreNewParts n c.index-maps-map.result c.in_ok-parts_of.field-0) c.in_ok-map.ensures.same c.in_ok-parts_of.ensures) c.in_ok-push.ensures.items c.loop-map.invariant.each;
    }

pub returns : goal.returns
returns c =
    let i = c.loop-map.invariant.count in let a = c.loop-map.auto.map-end in let t = c.loop-map-test.false in record {
      count = omega arith;
      each = λ m decl d there. c.loop-map.invariant.each m decl d (let w = slice_get_within c.args.maps.now m decl there in omega arith) there;
    }
