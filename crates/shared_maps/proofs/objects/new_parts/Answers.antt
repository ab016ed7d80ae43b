use Rattle.std.proofs.Common.{rules, ◌≡◌, suc, ◌+◌, [], ◌∷◌, ◌++◌, length, drop, sym, ap, ◌∙◌, arith}
use Rattle.std.proofs.Math.Seq.{drop-cons}
use Rattle.stamped.specs.Numbered.{numbered}
use Rattle.map_ops.specs.Parts.{part_count}
use Rattle.shared_maps.specs.Parts.{part_at, parts_from, firsts_from, made_for}
use Rattle.shared_maps.proofs.PlaceLemmas.{parts_step, firsts_step, count_more}
use Rattle.shared_maps.proofs.objects.new_parts.Goals as goal

pub loop-place-preserved : goal.loop-place-preserved
loop-place-preserved c = let maps = c.args.maps.now in let n = c.loop-place.place in let decl = c.index-maps-place.result in let i = c.loop-place.invariant in
    let old = c.loop-place.objects.items in let new = c.push_map.new.objects.items in let k = length old in
    let e : drop n maps ≡ decl ∷ drop (n + 1) maps = drop-cons maps n decl c.loop-place-test.true ∙ (λ k. sym c.index-maps-place.is k ∷ drop ((let q : suc n ≡ n + 1 = omega arith in q) k) maps) in
    let long : c.len.result ≡ k = search rules in
    let first : c.in_ok-first.first ≡ k = c.in_ok-first.ensures.same ∙ long in
    let grew = c.in_ok-push_map.ensures.parts ∙ ap (λ m. made_for old ++ numbered (part_at m decl) 0 (part_count decl.kind)) c.in_ok-map.ensures.same in record {
      parts = parts_step (made_for old) (made_for new) (parts_from 0 maps) maps n decl e grew i.parts;
      firsts = firsts_step c.loop-place.firsts.items _ (firsts_from 0 maps) maps n k (length new) decl e (count_more old new n decl grew)
          (c.in_ok-push.ensures.items ∙ ap (λ f. c.loop-place.firsts.items ++ f ∷ []) first) i.firsts;
      stand = c.in_ok-push_map.ensures.stand;
    }
