use Rattle.std.proofs.Common.{◌<◌, ap, ◌∙◌, ℕ, arith}
use Rattle.bpf_insn.specs.declared.insn.Insn.{Insn}
use Rattle.bpf_insn.proofs.Rules.{found_at}
use Rattle.bpf_encode.specs.Slots.{first_decoded, checked, insn_with}
use Rattle.bpf_encode.proofs.decode.first_decoded.Goals as goal

pub returns-in-None : goal.returns-in-None
returns-in-None c = let lt : c.args.slot.opcode < 256 = omega arith in
    ap (first_decoded c.args.number c.args.slot c.args.next) (found_at c.args.slot.opcode _ lt c.in-None.ensures)

pub returns-in-Some : goal.returns-in-Some
returns-in-Some c = let lt : c.args.slot.opcode < 256 = omega arith in
    c.checked.ensures
    ∙ ap (λ (i : Insn). checked c.args.number c.args.slot c.args.next i) (c.insn_with.ensures
    ∙ ap (λ (u : ℕ). insn_with c.args.slot u c.in-Some.form) c.unwrap_or.ensures)
    ∙ ap (first_decoded c.args.number c.args.slot c.args.next) (found_at c.args.slot.opcode _ lt c.in-Some.ensures)
