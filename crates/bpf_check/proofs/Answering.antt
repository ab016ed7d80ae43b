-- The answers of the check.
use Rattle.std.proofs.Common.{◌≡◌, ◌≢◌, ℕ, zero, suc, ◌*◌, ◌<◌, List, [], ◌∷◌, length, refl, sym, ap, ◌∙◌, subst, arith, Option, Some, None, inl, inr, length-set, Result, Ok, Err}
use Rattle.std.specs.Prelude.{◌⊎◌, slice_set, replicate}
use Rattle.std.proofs.lemmas.Bool.{cases_eq}
use Rattle.std.proofs.lemmas.List.{get_or-set_same, get_or-set_other, length-replicate}
use Rattle.bt_core.specs.Want.{out_of_memory}
use Rattle.bpf_insn.specs.declared.insn.Insn.{Insn}
use Rattle.bpf_encode.specs.declared.decode.DecodeError.{DecodeError}
use Rattle.bpf_encode.specs.declared.decode.DecodeError.TheVariants as decoding
use Rattle.bpf_encode.specs.Decoding.{IsCodeOf}
use Rattle.bpf_encode.specs.Faults.{AreBytes, IsFirstFault}
use Rattle.bpf_encode.proofs.Decoding.{complete_at}
use Rattle.bpf_encode.proofs.Reaching.{one_fault_lem, none_beside_lem}
use Rattle.bpf_check.specs.declared.check.CodeFault.{CodeFault}
use Rattle.bpf_check.specs.declared.check.CodeFault.TheVariants.{S1, S2, Memory}
use Rattle.bpf_check.specs.declared.known.Seen.{Seen}
use Rattle.bpf_check.specs.Sheet.{Sheet}
use Rattle.bpf_check.specs.States.{entry_seen}
use Rattle.bpf_check.specs.Closed.{HasCover, IsClosedCode}
use Rattle.bpf_check.specs.Tables.{at, IsSettled}
use Rattle.bpf_check.specs.Answers.{IsAnswer, Judges, refused}
use Rattle.bpf_check.proofs.Registers.{covers_refl}
use Rattle.bpf_check.proofs.Tables.{some_seen}

-- ---- the table at the start

none_at : (n p : ℕ) → at (replicate n None) p ≡ None
none_at zero p = refl
none_at (suc n) zero = refl
none_at (suc n) (suc p) = none_at n p

abbrev first : ℕ → List (Option Seen)
first n = slice_set (replicate n None) 0 (Some entry_seen)

entry_at : (n : ℕ) → 0 < n → at (first n) 0 ≡ Some entry_seen
entry_at n lt = get_or-set_same (replicate n None) 0 (Some entry_seen) None (let e = length-replicate {A = Option Seen} n None in omega (arith, lt, e))

-- the entry alone is reached
entry_only : (n p : ℕ) (a : Seen) → 0 < n → at (first n) p ≡ Some a → (p ≡ 0) × (entry_seen ≡ a)
entry_only n p a lt e = by (cases_eq p 0)
  where
    by : (p ≡ 0) ⊎ (p ≡ 0 → ⊥) → (p ≡ 0) × (entry_seen ≡ a)
    by (inl same) = (same, some_seen entry_seen a (sym (entry_at n lt) ∙ sym (ap (at (first n)) same) ∙ e))
    by (inr ne) = let f : None ≡ Some a = sym (none_at n p) ∙ sym (get_or-set_other (replicate n None) 0 p (Some entry_seen) None ne) ∙ e in absurd (cc)

pub starts : (t : Sheet) (code : List Insn) (table : List (Option Seen)) → table ≡ first (length code) → 0 < length code → IsSettled t code table 0
starts t code table is lt = subst (λ (l : List (Option Seen)). IsSettled t code l 0) (sym is) (record {
  long = length-set (replicate n None) 0 (Some entry_seen) ∙ length-replicate {A = Option Seen} n None;
  start = subst (λ (o : Option Seen). HasCover o entry_seen) (sym (entry_at n lt)) (covers_refl entry_seen);
  full = λ p a e. ap (λ (x : Seen). length x.regs) (sym (entry_only n p a lt e).1);
  least = λ states k p a e. subst (λ (q : ℕ). HasCover (states q) a) (sym (entry_only n p a lt e).0) (subst (λ (x : Seen). HasCover (states 0) x) (entry_only n p a lt e).1 k.start);
  few = λ p a e. let c = ap (λ (x : Seen). x.credit) (entry_only n p a lt e).1 in omega (arith, c);
  before = λ p a below e. absurd (omega (arith, below));
})
  where
    n : ℕ
    n = length code

-- code without an instruction is not closed
pub empty_open : (t : Sheet) (code : List Insn) → length code ≡ 0 → IsClosedCode t code → ⊥
empty_open t [] e k = by (k.0 0) refl k.1.start
  where
    by : (o : Option Seen) → k.0 0 ≡ o → HasCover o entry_seen → ⊥
    by None f h = h
    by (Some a) f h = k.1.each 0 a f
empty_open t (i ∷ is) e k = omega (arith, e)

-- ---- one answer

pub same_code : (a b : List Insn) (bytes : List ℕ) → IsCodeOf a bytes → IsCodeOf b bytes → a ≡ b
same_code a b bytes h k = let e = sym (complete_at a bytes h) ∙ complete_at b bytes k in cc

pub one_answer : (t : Sheet) (bytes : List ℕ) (r s : Result ℕ CodeFault) → AreBytes bytes → IsAnswer t bytes r → IsAnswer t bytes s → r ≡ s
one_answer t bytes (Ok m) (Ok n) b h k = ap (λ (x : ℕ). Ok x) (h.is_most ∙ ap (λ (c : List Insn). 4097 * length c) (same_code h.code k.code bytes h.is_code_of k.is_code_of) ∙ sym k.is_most)
one_answer t bytes (Ok m) (Err (S1 e)) b h k = absurd (none_beside_lem bytes h.code e b h.is_code_of k)
one_answer t bytes (Ok m) (Err S2) b h k = absurd (k.not_closed (subst (IsClosedCode t) (same_code h.code k.code bytes h.is_code_of k.is_code_of) h.closed))
one_answer t bytes (Ok m) (Err (Memory want)) b h k = absurd k
one_answer t bytes (Err (S1 e)) (Ok n) b h k = absurd (none_beside_lem bytes k.code e b k.is_code_of h)
one_answer t bytes (Err (S1 e)) (Err (S1 f)) b h k = ap (λ (x : DecodeError). Err (S1 x)) (one_fault_lem bytes e f b h k)
one_answer t bytes (Err (S1 e)) (Err S2) b h k = absurd (none_beside_lem bytes k.code e b k.is_code_of h)
one_answer t bytes (Err (S1 e)) (Err (Memory want)) b h k = absurd k
one_answer t bytes (Err S2) (Ok n) b h k = absurd (h.not_closed (subst (IsClosedCode t) (same_code k.code h.code bytes k.is_code_of h.is_code_of) k.closed))
one_answer t bytes (Err S2) (Err (S1 f)) b h k = absurd (none_beside_lem bytes h.code f b h.is_code_of k)
one_answer t bytes (Err S2) (Err S2) b h k = refl
one_answer t bytes (Err S2) (Err (Memory want)) b h k = absurd k
one_answer t bytes (Err (Memory want)) s b h k = absurd h

pub only_answer : (t : Sheet) (bytes : List ℕ) (r s : Result ℕ CodeFault) → AreBytes bytes → (r ≢ Err (Memory out_of_memory) → IsAnswer t bytes r) → IsAnswer t bytes s → (r ≡ s) ⊎ (r ≡ Err (Memory out_of_memory))
only_answer t bytes (Ok m) s b h k = inl (one_answer t bytes (Ok m) s b (h (λ e. cc)) k)
only_answer t bytes (Err (S1 e)) s b h k = inl (one_answer t bytes (Err (S1 e)) s b (h (λ f. cc)) k)
only_answer t bytes (Err S2) s b h k = inl (one_answer t bytes (Err S2) s b (h (λ e. cc)) k)
only_answer t bytes (Err (Memory want)) s b h k = inr refl

-- what is judged of code holds of its bytes
judged_of : (t : Sheet) (code : List Insn) (bytes : List ℕ) (r : Result ℕ CodeFault) → IsCodeOf code bytes → Judges t code r → r ≢ Err (Memory out_of_memory) → IsAnswer t bytes r
judged_of t code bytes (Ok m) is j ne = record { code = code; is_code_of = is; closed = j.0; is_most = j.1 }
judged_of t code bytes (Err (S1 e)) is j ne = absurd j
judged_of t code bytes (Err S2) is j ne = record { code = code; is_code_of = is; not_closed = j }
judged_of t code bytes (Err (Memory want)) is j ne = absurd (ne refl)

pub judged : (t : Sheet) (code insns : List Insn) (bytes : List ℕ) (r : Result ℕ CodeFault) → insns ≡ code → IsCodeOf code bytes → Judges t insns r → r ≢ Err (Memory out_of_memory) → IsAnswer t bytes r
judged t code insns bytes r same is j = judged_of t code bytes r is (subst (λ (l : List Insn). Judges t l r) same j)

-- what does not decode has its first fault
pub faulted : (t : Sheet) (bytes : List ℕ) (e : DecodeError) (f : CodeFault) → f ≡ refused e → (e ≢ decoding.Memory out_of_memory → IsFirstFault bytes e) → f ≢ Memory out_of_memory → IsAnswer t bytes (Err f)
faulted t bytes e f is h ne = subst (λ (x : CodeFault). IsAnswer t bytes (Err x)) (sym is) (by e h (λ same. ne (is ∙ same)))
  where
    by : (e : DecodeError) → (e ≢ decoding.Memory out_of_memory → IsFirstFault bytes e) → refused e ≢ Memory out_of_memory → IsAnswer t bytes (Err (refused e))
    by decoding.BadLength h ne = h (λ x. cc)
    by (decoding.BadOpcode n) h ne = h (λ x. cc)
    by (decoding.BadField n) h ne = h (λ x. cc)
    by (decoding.HalfWide n) h ne = h (λ x. cc)
    by (decoding.Memory want) h ne = absurd (ne refl)
