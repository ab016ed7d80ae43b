-- What was answered where instructions lead.
use Rattle.std.proofs.Common.{◌≡◌, ℕ, List, refl, Option, Some, None, Bool, true, false}
use Rattle.std.specs.Prelude.{slice_get, cond}
use Rattle.std.specs.Option.{option_and_then}
use Rattle.std.proofs.lemmas.Bool.{and_parts}
use Rattle.bpf_insn.specs.declared.insn.Insn.{Insn}
use Rattle.bpf_insn.specs.Machine.{is_entry}
use Rattle.bpf_check.specs.declared.known.Seen.{Seen}
use Rattle.bpf_check.specs.declared.ways.Way.{Way}
use Rattle.bpf_check.specs.declared.ways.Ways.{Ways}
use Rattle.bpf_check.specs.declared.ways.Ways.TheVariants.{To, Either}
use Rattle.bpf_check.specs.Ways.{may_go, goes, one_way, two_ways}

pub bind_some : {A B : Type 0} (o : Option A) (f : A → Option B) (b : B) → option_and_then f o ≡ Some b → (a : A) × (o ≡ Some a) × (f a ≡ Some b)
bind_some None f b e = absurd (cc)
bind_some (Some a) f b e = (a, refl, e)

pub some_is : {A : Type 0} (a b : A) → Some a ≡ Some b → a ≡ b
some_is a b e = cc

-- where a way may be gone
pub record Arrives (code : List Insn) (q : ℕ) (s : Seen) (w : Way) : Type 0 where
  pub is : record { place = q; seen = s } ≡ w
  pub entry : is_entry (slice_get code q) ≡ true

pub arrives : (code : List Insn) (p q : ℕ) (s : Seen) (w : Way) → goes code p q s ≡ Some w → Arrives code q s w
arrives code p q s w e = by (may_go code p q) refl e
  where
    by : (b : Bool) → may_go code p q ≡ b → cond b (Some (record { place = q; seen = s })) None ≡ Some w → Arrives code q s w
    by true m f = record { is = some_is _ _ f; entry = (and_parts _ _ m).0 }
    by false m f = absurd (cc)

pub one_is : (o : Option Way) (ways : Ways) → one_way o ≡ Some ways → (w : Way) × (o ≡ Some w) × (To w ≡ ways)
one_is None ways e = absurd (cc)
one_is (Some w) ways e = (w, refl, some_is _ _ e)

pub two_is : (o p : Option Way) (ways : Ways) → two_ways o p ≡ Some ways → (v : Way) × (w : Way) × (o ≡ Some v) × (p ≡ Some w) × (Either v w ≡ ways)
two_is None p ways e = absurd (cc)
two_is (Some v) None ways e = absurd (cc)
two_is (Some v) (Some w) ways e = (v, w, refl, refl, some_is _ _ e)
