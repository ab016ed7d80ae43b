-- The version of a recording and its magic.
use Rattle.std.proofs.Common.{◌≡◌, ℕ, Bool, true, false, cond, not, ◌||◌, List, length, refl, ap, sym, ◌∙◌, inl, inr}
use Rattle.std.specs.Prelude.{codes, ◌==◌}
use Rattle.std.specs.Str.{bytes_eq}
use Rattle.std.proofs.lemmas.Slice.Eq.{bytes_eq-Decides}
use Rattle.recordings.specs.Checks.{magic_of, version_of}
use Rattle.recordings.proofs.PlaceLaws.{IsVersion}

abbrev is_unknown : List ℕ → Bool
is_unknown magic = not (bytes_eq magic (codes "BTRACE01") || bytes_eq magic (codes "BTRACE02"))

pub magic_passes : (version : ℕ) → IsVersion version → is_unknown (magic_of version) ≡ false
magic_passes version (inl e) = ap (λ (n : ℕ). is_unknown (magic_of n)) e
magic_passes version (inr e) = ap (λ (n : ℕ). is_unknown (magic_of n)) e

pub version_back : (version : ℕ) → IsVersion version → version_of (magic_of version) ≡ version
version_back version (inl e) = ap (λ (n : ℕ). version_of (magic_of n)) e ∙ sym e
version_back version (inr e) = ap (λ (n : ℕ). version_of (magic_of n)) e ∙ sym e

pub magic_long : (version : ℕ) → length (magic_of version) ≡ 8
magic_long version = (elim (version == 1) as (λ b. length (cond b (codes "BTRACE01") (codes "BTRACE02")) ≡ 8) [
  | true ↦ refl
  | false ↦ refl
])

not_false : (b : Bool) → not b ≡ false → b ≡ true
not_false true h = refl
not_false false h = absurd cc

-- the magic of a header that passes is that of its version
pub known_magic : (magic : List ℕ) → is_unknown magic ≡ false → (magic ≡ magic_of (version_of magic)) × IsVersion (version_of magic)
known_magic magic h =
    let second : Bool = bytes_eq magic (codes "BTRACE02") in
    (elim (bytes_eq magic (codes "BTRACE01")) as (λ b. bytes_eq magic (codes "BTRACE01") ≡ b → not (b || second) ≡ false → (magic ≡ magic_of (cond b 1 2)) × IsVersion (cond b 1 2)) [
      | true ↦ λ e g. ((bytes_eq-Decides magic (codes "BTRACE01")).0 e, inl refl)
      | false ↦ λ e g. ((bytes_eq-Decides magic (codes "BTRACE02")).0 (not_false second g), inr refl)
    ]) refl h
