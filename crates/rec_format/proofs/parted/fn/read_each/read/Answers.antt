use Rattle.std.proofs.Common.{◌≡◌, ℕ, List, [], map, get_or, Vec, Global, ap, sym, subst, ◌∙◌}
use Rattle.std.specs.Prelude.{IfSome}
use Rattle.std.specs.Arc.{arc_value}
use Rattle.std.specs.declared.sync.Arc.{Arc}
use Rattle.std.proofs.lemmas.List.{get_or-map}
use Rattle.rec_format.specs.Parted.{IsTrackPart}
use Rattle.rec_format.proofs.parted.fn.read_each.read.Goals as goal

pub returns : goal.returns
returns c =
    let bytes_of : Arc (Vec ℕ Global) Global → List ℕ = λ part. (arc_value part).items in
    let part = c.index-parts-place.result in
    let same = get_or-map bytes_of c.captures.parts.now c.args.place part [] c.requires ∙ ap bytes_of (sym c.index-parts-place.is) in
    subst (λ (bytes : List ℕ). IfSome c.read_track.result (IsTrackPart c.captures.front.now bytes)) (sym same) c.read_track.ensures
