use Rattle.std.proofs.Common.{ℕ, Ok, List, [], sym, ap, ◌∙◌}
use Rattle.bt_core.specs.declared.value.Value.TheVariants.{Str}
use Rattle.bt_core.specs.Interaction.{Ended}
use Rattle.bt_core.proofs.InteractionLaws.{Whole-Ended}
use Rattle.bpf_insn.specs.Machine.{Gave}
use Rattle.bpf_insn.specs.Regions.{Spaces}
use Rattle.helper_abi.specs.Reading.{payload_text}
use Rattle.helper_abi.specs.Steps.{wrote}
use Rattle.helper_abi.proofs.Callings.{room-none, room-some}
use Rattle.helper_abi.proofs.helpers.read_str.Goals as goal

pub returns-clause-called : goal.returns-clause-called
returns-clause-called c =
    λ steps.
    let text = c.payload_text-text.ensures ∙ ap (λ (l : List ℕ). payload_text c.args.place c.args.count l) c.payload.ensures.value in
    let done = ap (λ (t : List ℕ). wrote c.args.memory.now c.args.to (Str t)) (sym text) ∙ sym (ap (λ (s : Spaces). Gave 0 s.frame) c.put.ensures) in
    room-some c.args.to 64 _ steps steps (Ok 0) c.put.new.memory.frame (sym c.if-not-in_frame.ensures) (Whole-Ended _ _ steps done)

pub returns-then-not-in_frame-clause-called : goal.returns-then-not-in_frame-clause-called
returns-then-not-in_frame-clause-called c =
    λ steps. room-none c.args.to 64 (Ended (wrote c.args.memory.now c.args.to (Str (payload_text c.args.place c.args.count c.args.memory.now.payload)))) steps [] (sym c.if-not-in_frame.ensures)
