use Rattle.std.proofs.Common.{map, sym, ap, ◌∙◌}
use Rattle.shared_maps.specs.Parts.{Part, parts_from, firsts_from}
use Rattle.shared_maps.proofs.PlaceLemmas.{told_of}
use Rattle.shared_maps.proofs.maps.SharedMaps.new.Goals as goal

pub invariant_of-shared : goal.invariant_of-shared
invariant_of-shared c = let objects = c.in_ok-objects.objects.items in let same = c.as_slice.ensures ∙ sym c.in_ok-try_copy.ensures in record {
  ids = c.in_ok-set.ensures.ids ∙ told_of (λ (part : Part). part.0) objects ∙ ap (map (λ (part : Part). part.0)) (c.in_ok-objects.ensures.parts ∙ ap (parts_from 0) same);
  kinds = c.in_ok-set.ensures.kinds ∙ told_of (λ (part : Part). part.1) objects ∙ ap (map (λ (part : Part). part.1)) (c.in_ok-objects.ensures.parts ∙ ap (parts_from 0) same);
  places = c.in_ok-objects.ensures.firsts ∙ ap (firsts_from 0) same;
}
