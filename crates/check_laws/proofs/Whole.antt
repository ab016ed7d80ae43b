-- Closed code never traps, and never goes on after 4,097 times its slots.
use Rattle.std.proofs.Common.{◌≡◌, ℕ, ℤ, zero, suc, ◌*◌, ◌<◌, ◌≤◌, List, length, refl, sym, subst, arith, Option, Some, None}
use Rattle.std.specs.Prelude.{◌^◌, slice_get, replicate}
use Rattle.std.proofs.lemmas.Option.{slice_get_within}
use Rattle.bt_core.specs.declared.step.Reply.{Reply}
use Rattle.bt_core.specs.Interaction.{Call as Asked}
use Rattle.bpf_insn.specs.declared.insn.Insn.{Insn}
use Rattle.bpf_insn.specs.Machine.{Helpers, entry_regs, entry_state, reg_of}
use Rattle.bpf_interp.specs.Running.{machine_run}
use Rattle.bpf_check.specs.declared.known.Seen.{Seen}
use Rattle.bpf_check.specs.Sheet.{Sheet}
use Rattle.bpf_check.specs.States.{known_in, entry_seen}
use Rattle.bpf_check.specs.Ways.{gate_at, from_insn, from_gate, leads}
use Rattle.bpf_check.specs.Closed.{Meets, IsClosed}
use Rattle.bt_core.specs.Same.{Yields}
use Rattle.check_laws.specs.Safe.{EndsWell}
use Rattle.check_laws.proofs.Holding.{HoldsKnown, HelpersServe}
use Rattle.bpf_check.proofs.Registers.{known_high}
use Rattle.check_laws.proofs.Sound.{safe, arrive, rank_entry}
use Rattle.check_laws.proofs.Insns.{steps_sound}
use Rattle.check_laws.proofs.Gates.{gates_sound, gate_is, first_of}

-- a state that meets its condition is at a slot
at_slot : (t : Sheet) (code : List Insn) (states : ℕ → Option Seen) (p : ℕ) (a : Seen) → Meets states (leads t code p a) → p < length code
at_slot t code states p a m = by (gate_at code p) refl m
  where
    plain : (o : Option Insn) → slice_get code p ≡ o → Meets states (from_insn t code p a o) → p < length code
    plain None e m = absurd m
    plain (Some i) e m = slice_get_within code p i e

    by : (o : Option ℤ) → gate_at code p ≡ o → Meets states (from_gate t code p a o) → p < length code
    by None e m = plain (slice_get code p) refl m
    by (Some offset) e m = slice_get_within code p first_of (gate_is code p offset e).first

entry_each : (r : ℕ) → HoldsKnown (known_in entry_seen.regs r) (reg_of entry_regs r)
entry_each zero = tt
entry_each (suc zero) = refl
entry_each (suc (suc zero)) = refl
entry_each (suc (suc (suc zero))) = tt
entry_each (suc (suc (suc (suc zero)))) = tt
entry_each (suc (suc (suc (suc (suc zero))))) = tt
entry_each (suc (suc (suc (suc (suc (suc zero)))))) = tt
entry_each (suc (suc (suc (suc (suc (suc (suc zero))))))) = tt
entry_each (suc (suc (suc (suc (suc (suc (suc (suc zero)))))))) = tt
entry_each (suc (suc (suc (suc (suc (suc (suc (suc (suc zero))))))))) = tt
entry_each (suc (suc (suc (suc (suc (suc (suc (suc (suc (suc zero)))))))))) = refl
entry_each (suc (suc (suc (suc (suc (suc (suc (suc (suc (suc (suc n))))))))))) =
    let r = suc (suc (suc (suc (suc (suc (suc (suc (suc (suc (suc n)))))))))) in
    subst (λ k. HoldsKnown k (reg_of entry_regs r)) (sym (known_high entry_seen.regs r (omega arith))) tt

-- under helpers that serve it, for every context and every payload that is long enough
pub safe_code : (K : Asked → Reply → Type 0) (t : Sheet) (helper : Helpers) (code : List Insn) (states : ℕ → Option Seen) (context payload : List ℕ) → HelpersServe K t helper
    → IsClosed t code states → t.payload ≤ length payload → length payload < 2 ^ 32 → Yields K EndsWell (machine_run helper code (4097 * length code) 0 (entry_state context payload))
safe_code K t helper code states context payload serve closed long short =
    let steps = steps_sound K t helper code serve in
    let gates = gates_sound K t helper code in
    let there = λ (p : ℕ) (a : Seen) (e : states p ≡ Some a). at_slot t code states p a (closed.each p a e) in
    let fuel = 4097 * length code in
    arrive K t helper code steps gates states closed there (record { place = 0; seen = entry_seen }) (entry_state context payload) 0 fuel fuel 0 closed.start refl
    (record { each = entry_each; long = refl })
    (record { payload = long; short = short; front = replicate 504 0; long = refl; frame = refl; few = omega arith })
    (omega arith) (omega (arith, rank_entry (length code))) (safe K t helper code steps gates states closed there fuel)
