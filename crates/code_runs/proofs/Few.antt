-- Runs of code take no more instructions than their fuel.
use Rattle.std.proofs.Common.{◌≡◌, ℕ, zero, suc, ◌+◌, ◌≤◌, List, [], ◌∷◌, length, Option, Some, None, Result, refl, subst, arith}
use Rattle.std.specs.Prelude.{slice_get}
use Rattle.std.specs.List.{AllByRecursion}
use Rattle.bt_core.specs.declared.context.Context.{Context}
use Rattle.bt_core.specs.declared.step.Reply.{Reply}
use Rattle.bt_core.specs.Interaction.{Interaction, Ended, Asks, and_then, value_under}
use Rattle.bpf_insn.specs.declared.insn.Insn.{Insn}
use Rattle.bpf_insn.specs.declared.trap.Trap.{Trap}
use Rattle.bpf_insn.specs.Machine.{Helpers, MachineState, Next, GoesOn, Ends, Traps, machine_step, entry_state}
use Rattle.bpf_interp.specs.declared.machine.Ended.{Ended as EndedRun}
use Rattle.bpf_interp.specs.Running.{after_step, machine_run}
use Rattle.event_record.specs.Contexts.{context_bytes}
use Rattle.helper_abi.specs.Helpers.{helpers}
use Rattle.helper_abi.specs.Running.{script_run}
use Rattle.helper_abi.specs.Served.{desk_of}
use Rattle.event_layout.proofs.Lists.{all_at}
use Rattle.typed_tree.specs.declared.script.Typed.{Typed}
use Rattle.actor_plan.specs.Plans.{TakesFew}
use Rattle.code_runs.specs.Coding.{fuel_of, count_of, coded, coding}

-- what holds of each end of the second holds of each end of both
at_end : {A B : Type 0} (P : B → Type 0) (t : Interaction A) (k : A → Interaction B)
    → ((a : A) (replies : List Reply) (b : B) → value_under (k a) replies ≡ Some b → P b)
    → (replies : List Reply) (b : B) → value_under (and_then t k) replies ≡ Some b → P b
at_end P (Ended a) k so replies b e = so a replies b e
at_end P (Asks c f) k so [] b e = absurd cc
at_end P (Asks c f) k so (r ∷ rs) b e = at_end P (f r) k so rs b e

same : {A : Type 0} (a b : A) → Some a ≡ Some b → a ≡ b
same a b e = cc

module _ (helper : Helpers) (code : List Insn) where
  -- after an instruction, where the rest takes no more than what is left
  after_few : (go : MachineState → Interaction (Result EndedRun Trap)) (count most : ℕ) → count + 1 ≤ most
      → ((st : MachineState) (replies : List Reply) (end : Result EndedRun Trap) → value_under (go st) replies ≡ Some end → count_of end ≤ most)
      → (next : Next) (replies : List Reply) (end : Result EndedRun Trap) → value_under (after_step go count next) replies ≡ Some end → count_of end ≤ most
  after_few go count most room so (GoesOn st) replies end e = so st replies end e
  after_few go count most room so Ends replies end e = subst (λ (x : Result EndedRun Trap). count_of x ≤ most) (same _ end e) room
  after_few go count most room so (Traps t) replies end e = subst (λ (x : Result EndedRun Trap). count_of x ≤ most) (same _ end e) (omega arith)

  run_few : (fuel count most : ℕ) (st : MachineState) → count + fuel ≤ most → (replies : List Reply) (end : Result EndedRun Trap)
      → value_under (machine_run helper code fuel count st) replies ≡ Some end → count_of end ≤ most
  run_few zero count most st room replies end e = subst (λ (x : Result EndedRun Trap). count_of x ≤ most) (same _ end e) (omega arith)
  run_few (suc fuel) count most st room replies end e =
      at_end (λ (x : Result EndedRun Trap). count_of x ≤ most) (machine_step helper code (slice_get code st.place) st)
      (after_step (machine_run helper code fuel (count + 1)) count)
      (after_few (machine_run helper code fuel (count + 1)) count most (omega (arith, room)) (λ next rs x q. run_few fuel (count + 1) most next (omega (arith, room)) rs x q)) replies end e

module _ (script : Typed) (codes : List (List Insn)) (actors actor : ℕ) (few : AllByRecursion (λ (code : List Insn). length code ≤ 4096) codes) where
  coded_few : (o : Option (List Insn)) (context : Context) (payload : List ℕ) (replies : List Reply) (count : ℕ) → ((code : List Insn) → o ≡ Some code → length code ≤ 4096)
      → value_under (coded script actor actors o context payload) replies ≡ Some count → count ≤ 16785408
  coded_few None context payload replies count short e = (let none : 0 ≡ count = same 0 count e in omega (arith, none))
  coded_few (Some code) context payload replies count short e =
      at_last (script_run (desk_of script actor actors) code (context_bytes context) payload (fuel_of code))
      (λ rs end q. run_few (helpers (desk_of script actor actors)) code (fuel_of code) 0 (fuel_of code) (entry_state (context_bytes context) payload) (omega arith) rs end q) replies count e
    where
      at_last : (t : Interaction (Result EndedRun Trap)) → ((rs : List Reply) (end : Result EndedRun Trap) → value_under t rs ≡ Some end → count_of end ≤ fuel_of code)
          → (rs : List Reply) (n : ℕ) → value_under (and_then t (λ end. Ended (count_of end))) rs ≡ Some n → n ≤ 16785408
      at_last (Ended end) so rs n q = (let is : count_of end ≡ n = same (count_of end) n q in let most = so rs end refl in let long = short code refl in omega (arith, is, most, long))
      at_last (Asks c f) so [] n q = absurd cc
      at_last (Asks c f) so (r ∷ rs) n q = at_last (f r) (λ us end u. so (r ∷ us) end u) rs n q

  pub codes_take_few : TakesFew (coding script codes actors actor)
  codes_take_few body context payload replies count e =
      coded_few (slice_get codes body) context payload replies count (λ code at. all_at (λ (c : List Insn). length c ≤ 4096) codes body code few at) e
