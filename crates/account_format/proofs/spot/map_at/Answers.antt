use Rattle.std.proofs.Common.{◌≡◌, ◌∙◌, ℕ, List, Option, Some, None, ap, length, refl, sym}
use Rattle.std.specs.Prelude.{slice_get}
use Rattle.std.specs.Int.{w32}
use Rattle.std.proofs.lemmas.Option.{slice_get_past, slice_get_read}
use Rattle.bt_core.specs.declared.map.MapDecl.{MapDecl}
use Rattle.recordings.specs.Fronts.{◌>>=◌, number_at}
use Rattle.account_format.specs.Reading.{map_at, map_id}
use Rattle.account_format.proofs.spot.map_at.Goals as goal

-- by what is at the number's place
by_place : (maps : List MapDecl) (bytes rest : List ℕ) (number : ℕ) (decl : Option MapDecl) → Some (number, rest) ≡ number_at w32 bytes → slice_get maps number ≡ decl
    → (decl >>= λ d. Some ((map_id number, d), rest)) ≡ map_at maps bytes
unfolding map_at
by_place maps bytes rest number decl read there =
    ap (λ (o : Option MapDecl). o >>= λ d. Some ((map_id number, d), rest)) (sym there)
    ∙ ap (λ (r : Option (ℕ × List ℕ)). r >>= λ n. slice_get maps n.0 >>= λ d. Some ((map_id n.0, d), n.1)) read

pub returns : goal.returns
returns c =
    let maps = c.args.maps.now in
    by_place maps c.args.bytes.now c.in-Some.rest.now c.in-Some.number (Some c.in-Some-get.decl.now) c.in-Some.ensures
    (slice_get_read maps (length maps) c.in-Some.number c.in-Some-get.decl.now refl c.in-Some-get.ensures.lookup.3.0 c.in-Some-get.ensures.lookup.1)

pub returns-in_default-get : goal.returns-in_default-get
returns-in_default-get c =
    by_place c.args.maps.now c.args.bytes.now c.in-Some.rest.now c.in-Some.number None c.in-Some.ensures
    (slice_get_past c.args.maps.now c.in-Some.number c.in_default-get.ensures.lookup.3)
