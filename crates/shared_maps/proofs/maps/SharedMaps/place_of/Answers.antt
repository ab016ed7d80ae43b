use Rattle.std.proofs.Common.{rules, ◌≡◌, ℕ, ◌+◌, List, length, get_or, sym, ap, ◌∙◌, subst, arith, vec_len}
use Rattle.std.specs.Prelude.{slice_get, IsSomeAnd}
use Rattle.std.proofs.lemmas.Option.{slice_get_within}
use Rattle.bt_core.specs.declared.map.MapDecl.{MapDecl}
use Rattle.bt_core.specs.Kinds.{IsShared}
use Rattle.shared_maps.specs.Parts.{IsMapPart, IsPartFor, parts_from}
use Rattle.shared_maps.proofs.PartLemmas.{there_is, part_there}
use Rattle.shared_maps.proofs.PlaceLemmas.{firsts_length}
use Rattle.shared_maps.proofs.maps.SharedMaps.place_of.Goals as goal

pub index-requires : goal.index-requires
index-requires c = let maps = c.args.self.now.maps in let firsts = c.args.self.now.firsts in let n : vec_len firsts ≡ length firsts.items = search rules in
    let h = subst (IsMapPart maps) c.in-Shared.is c.requires in
    let d = there_is (λ (d : MapDecl). IsShared d.kind) (slice_get maps c.in-Shared.map.0) h.1 in
    let lt = slice_get_within maps c.in-Shared.map.0 d.0 d.1 in
    let long = ap length c.args.self.now.places ∙ firsts_length 0 maps in omega (arith, n, lt, long)

pub returns-in-Shared : goal.returns-in-Shared
returns-in-Shared c = let maps = c.args.self.now.maps in let firsts = c.args.self.now.firsts.items in let first = c.index.result.now in
    let h = subst (IsMapPart maps) c.in-Shared.is c.requires in
    subst (λ o. IsSomeAnd (slice_get (parts_from 0 maps) (first + c.in-Shared.part)) (IsPartFor maps o)) (sym c.in-Shared.is)
    (part_there maps c.in-Shared.map c.in-Shared.part first h (c.index.ensures ∙ ap (λ (l : List ℕ). get_or l c.in-Shared.map.0 first) c.args.self.now.places))
