-- Fields and tracepoints by their names.
use Rattle.std.proofs.Common.{◌≡◌, ◌≢◌, ℕ, zero, suc, Bool, true, false, cond, Some, None, List, [], ◌∷◌, length, refl, ap, sym, ◌∙◌, arith}
use Rattle.std.specs.Prelude.{IsTrue}
use Rattle.std.specs.List.{find, slice_get}
use Rattle.std.specs.Str.{bytes_eq}
use Rattle.std.proofs.lemmas.Bool.{lt-ltb, and_parts}
use Rattle.std.proofs.lemmas.Option.{same_Some}
use Rattle.std.proofs.lemmas.Slice.Eq.{bytes_eq-Decides}
use Rattle.event_layout.specs.declared.field.Field.{Field}
use Rattle.event_layout.specs.declared.format.Format.{Format}
use Rattle.event_layout.specs.Bytes.{cut_at}
use Rattle.event_layout.specs.ByName.{field_named, full_name, IsFieldNamed, IsNamed, is_same_tracepoint}
use Rattle.event_layout.specs.Layouts.{HaveNamesApart}
use Rattle.event_layout.specs.Names.{has_no_colon}
use Rattle.event_layout.proofs.Lists.{all_at}
use Rattle.tracefs_format.proofs.SpellingLaws.{parts-cut_at}

-- ---- fields

abbrev has_this : List ℕ → Field → Bool
has_this name f = bytes_eq f.name name

-- a field that is found stands there and has the name
found-placed : (name : List ℕ) (fs : List Field) (f : Field) → find (has_this name) fs ≡ Some f → (place : ℕ) × (slice_get fs place ≡ Some f) × (f.name ≡ name)
found-placed name [] f h = absurd cc
found-placed name (g ∷ gs) f h =
    (elim (has_this name g) as (λ v. has_this name g ≡ v → cond v (Some g) (find (has_this name) gs) ≡ Some f → (place : ℕ) × (slice_get (g ∷ gs) place ≡ Some f) × (f.name ≡ name)) [
      | true ↦ λ same e. (0, e, ap (λ (x : Field). x.name) (sym (same_Some g f e)) ∙ (bytes_eq-Decides g.name name).0 same)
      | false ↦ λ other e. let rest = found-placed name gs f e in (suc rest.0, rest.1, rest.2)
    ]) refl h

-- a field that stands there and has the name is found, where no other has it
placed-found : (name : List ℕ) (fs : List Field) (place : ℕ) (f : Field) → name ≢ [] → HaveNamesApart fs → slice_get fs place ≡ Some f → f.name ≡ name → find (has_this name) fs ≡ Some f
placed-found name [] place f some apart at named = absurd cc
placed-found name (g ∷ gs) zero f some apart at named =
    let same : has_this name g ≡ true = (bytes_eq-Decides g.name name).1 (ap (λ (x : Field). x.name) (same_Some g f at) ∙ named) in
    ap (λ v. cond v (Some g) (find (has_this name) gs)) same ∙ at
placed-found name (g ∷ gs) (suc k) f some apart at named =
    (elim (has_this name g) as (λ v. has_this name g ≡ v → cond v (Some g) (find (has_this name) gs) ≡ Some f) [
      | true ↦ λ same.
          let empty : f.name ≡ [] = all_at (λ (h : Field). g.name ≡ h.name → h.name ≡ []) gs k f apart.0 at ((bytes_eq-Decides g.name name).0 same ∙ sym named) in
          absurd (some (sym named ∙ empty))
      | false ↦ λ other. placed-found name gs k f some apart.1 at named
    ]) refl

pub field_named-IsFieldNamed : (name : List ℕ) (fs : List Field) (f : Field) → field_named name fs ≡ Some f → IsFieldNamed name fs f
field_named-IsFieldNamed [] fs f h = absurd cc
field_named-IsFieldNamed (b ∷ bs) fs f h =
    let found : find (has_this (b ∷ bs)) fs ≡ Some f = ap (λ v. cond v (find (has_this (b ∷ bs)) fs) None) (sym (lt-ltb 0 (length (b ∷ bs)) (omega arith))) ∙ h in
    let there = found-placed (b ∷ bs) fs f found in
    record { some = λ e. cc; place = there.0; placed = there.1; named = there.2 }

pub IsFieldNamed-field_named : (name : List ℕ) (fs : List Field) (f : Field) → HaveNamesApart fs → IsFieldNamed name fs f → field_named name fs ≡ Some f
IsFieldNamed-field_named [] fs f apart is = absurd (is.some refl)
IsFieldNamed-field_named (b ∷ bs) fs f apart is =
    ap (λ v. cond v (find (has_this (b ∷ bs)) fs) None) (lt-ltb 0 (length (b ∷ bs)) (omega arith)) ∙ placed-found (b ∷ bs) fs is.place f is.some apart is.placed is.named

-- ---- tracepoints

pub full_name-IsNamed : (f g : Format) → IsTrue (has_no_colon f.system) → IsTrue (has_no_colon g.system) → full_name f ≡ full_name g → IsNamed f g.system g.layout.name
full_name-IsNamed f g h k e =
    let same : (f.system, f.layout.name) ≡ (g.system, g.layout.name) =
    same_Some (f.system, f.layout.name) (g.system, g.layout.name) (sym (parts-cut_at 58 f.system f.layout.name h) ∙ ap (cut_at 58) e ∙ parts-cut_at 58 g.system g.layout.name k) in
    record { of_system = ap (λ (p : List ℕ × List ℕ). p.0) same; called = ap (λ (p : List ℕ × List ℕ). p.1) same }

pub IsNamed-full_name : (f g : Format) → IsNamed f g.system g.layout.name → full_name f ≡ full_name g
IsNamed-full_name f g is = cc

same_truth : (a b : Bool) → (a ≡ true → b ≡ true) → (b ≡ true → a ≡ true) → a ≡ b
same_truth true b f g = sym (f refl)
same_truth false true f g = g refl
same_truth false false f g = refl

-- tracepoints are called by one name where they are the same
pub full_name-is_same : (f g : Format) → IsTrue (has_no_colon f.system) → IsTrue (has_no_colon g.system) → bytes_eq (full_name f) (full_name g) ≡ is_same_tracepoint f g
full_name-is_same f g h k =
    same_truth (bytes_eq (full_name f) (full_name g)) (is_same_tracepoint f g)
    (λ e.
    let is = full_name-IsNamed f g h k ((bytes_eq-Decides (full_name f) (full_name g)).0 e) in
    rw ((bytes_eq-Decides f.system g.system).1 is.of_system, (bytes_eq-Decides f.layout.name g.layout.name).1 is.called) refl)
    (λ e.
    let parts = and_parts (bytes_eq f.system g.system) (bytes_eq f.layout.name g.layout.name) e in
    (bytes_eq-Decides (full_name f) (full_name g)).1 (IsNamed-full_name f g (record { of_system = (bytes_eq-Decides f.system g.system).0 parts.0; called = (bytes_eq-Decides f.layout.name g.layout.name).0 parts.1 })))
