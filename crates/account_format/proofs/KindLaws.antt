-- The byte of a kind tells the kind.
use Rattle.std.proofs.Common.{◌≡◌, ℕ, suc, Bool, true, false, cond, List, [], ◌∷◌, Option, Some, ◌⊎◌, inl, inr, refl, sym, ap, ◌∙◌, subst}
use Rattle.std.specs.Prelude.{nat_eq}
use Rattle.std.proofs.lemmas.Bool.{eqb-true}
use Rattle.std.proofs.lemmas.Option.{same_Some}
use Rattle.recordings.proofs.Fields.{IsBytes, bind_some}
use Rattle.account_format.specs.declared.kind.Kind.{Kind}
use Rattle.account_format.specs.declared.kind.Kind.TheVariants as kinds
use Rattle.account_format.specs.Reading.{kind_of, kind_at}

abbrev pub kind_byte : Kind → ℕ
kind_byte kinds.Get = 1
kind_byte kinds.Set = 2
kind_byte kinds.Delete = 3
kind_byte kinds.ReadAll = 4
kind_byte kinds.Clear = 5
kind_byte kinds.Zero = 6
kind_byte kinds.Add = 7
kind_byte kinds.Read = 8
kind_byte kinds.ClearOf = 9
kind_byte kinds.ZeroOf = 10
kind_byte kinds.Cross = 11
kind_byte kinds.Check = 12
kind_byte kinds.Stop = 13
kind_byte kinds.Emit = 14

if_told : {A : Type 0} (t : Bool) (x r : Option A) (y : A) → cond t x r ≡ Some y → ((t ≡ true) × (x ≡ Some y)) ⊎ (r ≡ Some y)
if_told true x r y e = inl (refl, e)
if_told false x r y e = inr e

told : (byte n : ℕ) (k kind : Kind) → kind_byte k ≡ n → nat_eq byte n ≡ true → ◌≡◌ {A = Option Kind} (Some k) (Some kind) → byte ≡ kind_byte kind
told byte n k kind is same e = eqb-true byte n same ∙ sym is ∙ ap kind_byte (same_Some k kind e)

kind_back : (byte : ℕ) (kind : Kind) → kind_of byte ≡ Some kind → byte ≡ kind_byte kind
kind_back byte kind e =
    elim (if_told (nat_eq byte 1) (Some kinds.Get) _ kind e) [ inl h ↦ told byte 1 kinds.Get kind refl h.0 h.1 | inr e1 ↦ elim (if_told (nat_eq byte 2) (Some kinds.Set) _ kind e1) [ inl h ↦ told byte 2 kinds.Set kind refl h.0 h.1 | inr e2 ↦ elim (if_told (nat_eq byte 3) (Some kinds.Delete) _ kind e2) [ inl h ↦ told byte 3 kinds.Delete kind refl h.0 h.1 | inr e3 ↦ elim (if_told (nat_eq byte 4) (Some kinds.ReadAll) _ kind e3) [ inl h ↦ told byte 4 kinds.ReadAll kind refl h.0 h.1 | inr e4 ↦ elim (if_told (nat_eq byte 5) (Some kinds.Clear) _ kind e4) [ inl h ↦ told byte 5 kinds.Clear kind refl h.0 h.1 | inr e5 ↦ elim (if_told (nat_eq byte 6) (Some kinds.Zero) _ kind e5) [ inl h ↦ told byte 6 kinds.Zero kind refl h.0 h.1 | inr e6 ↦ elim (if_told (nat_eq byte 7) (Some kinds.Add) _ kind e6) [ inl h ↦ told byte 7 kinds.Add kind refl h.0 h.1 | inr e7 ↦ elim (if_told (nat_eq byte 8) (Some kinds.Read) _ kind e7) [ inl h ↦ told byte 8 kinds.Read kind refl h.0 h.1 | inr e8 ↦ elim (if_told (nat_eq byte 9) (Some kinds.ClearOf) _ kind e8) [ inl h ↦ told byte 9 kinds.ClearOf kind refl h.0 h.1 | inr e9 ↦ elim (if_told (nat_eq byte 10) (Some kinds.ZeroOf) _ kind e9) [ inl h ↦ told byte 10 kinds.ZeroOf kind refl h.0 h.1 | inr e10 ↦ elim (if_told (nat_eq byte 11) (Some kinds.Cross) _ kind e10) [ inl h ↦ told byte 11 kinds.Cross kind refl h.0 h.1 | inr e11 ↦ elim (if_told (nat_eq byte 12) (Some kinds.Check) _ kind e11) [ inl h ↦ told byte 12 kinds.Check kind refl h.0 h.1 | inr e12 ↦ elim (if_told (nat_eq byte 13) (Some kinds.Stop) _ kind e12) [ inl h ↦ told byte 13 kinds.Stop kind refl h.0 h.1 | inr e13 ↦ elim (if_told (nat_eq byte 14) (Some kinds.Emit) _ kind e13) [ inl h ↦ told byte 14 kinds.Emit kind refl h.0 h.1 | inr e14 ↦ absurd cc ] ] ] ] ] ] ] ] ] ] ] ] ] ]

tail_fits : (byte : ℕ) (bytes : List ℕ) → IsBytes (byte ∷ bytes) → IsBytes bytes
tail_fits byte bytes fits i = fits (suc i)

pub kind_takes : (bytes : List ℕ) (kind : Kind) (rest : List ℕ) → IsBytes bytes → kind_at bytes ≡ Some (kind, rest) → (bytes ≡ kind_byte kind ∷ rest) × IsBytes rest
kind_takes [] kind rest fits e = absurd cc
kind_takes (byte ∷ bytes) kind rest fits e =
    let a = bind_some (kind_of byte) _ (kind, rest) e in
    subst (λ (p : Kind × List ℕ). (byte ∷ bytes ≡ kind_byte p.0 ∷ p.1) × IsBytes p.1) (same_Some (a.0, bytes) (kind, rest) a.2)
    (ap (λ (b : ℕ). b ∷ bytes) (kind_back byte a.0 a.1), tail_fits byte bytes fits)
