use Rattle.std.proofs.Common.{ap, sym, ◌∙◌, ◌+◌, ◌-◌, ◌*◌, length, drop, List, [], ◌∷◌, ◌++◌, Bool}
use Rattle.std.specs.Prelude.{◌/◌}
use Rattle.std.proofs.lemmas.Result.{err_from_is_err_and}
use Rattle.bpf_insn.specs.declared.insn.Insn.{Insn}
use Rattle.bpf_encode.specs.Slots.{slot_decoded, after_code, decoded}
use Rattle.bpf_encode.proofs.Bytes.{rest_of}
use Rattle.bpf_encode.proofs.Loop.{decoded_more, decoded_bad, fault_of}
use Rattle.bpf_encode.proofs.decode.decode_slots.Goals as goal

pub returns-in_err-insn : goal.returns-in_err-insn
returns-in_err-insn c =
    let p = err_from_is_err_and c.from_residual.result c.from_residual.ensures.1 in
    let x = ap (slot_decoded c.loop-place.place c.loop-place.owed) (sym (rest_of c.args.bytes.now (8 * c.loop-place.place))) ∙ sym c.slot_decoded.ensures
    ∙ c.in_err-insn.was in
    rw (p.1, p.2) (fault_of _ _ (c.loop-place.invariant ∙ decoded_bad c.args.bytes.now _ c.loop-place.place c.loop-place.owed c.loop-place.code.items _
    c.loop-place-test.true x))

pub loop-place-preserved : goal.loop-place-preserved
loop-place-preserved c =
    let x = ap (slot_decoded c.loop-place.place c.loop-place.owed) (sym (rest_of c.args.bytes.now (8 * c.loop-place.place))) ∙ sym c.slot_decoded.ensures
    ∙ c.in_ok-insn.was in
    c.loop-place.invariant
    ∙ decoded_more c.args.bytes.now _ c.loop-place.place c.loop-place.owed c.loop-place.code.items _ c.loop-place-test.true x
    ∙ ap (λ (owed : Bool). after_code (c.loop-place.code.items ++ c.in_ok-insn.insn ∷ [])
    (decoded (c.loop-place.place + 1) owed (length c.args.bytes.now / 8 - (c.loop-place.place + 1))
    (drop (8 * (c.loop-place.place + 1)) c.args.bytes.now))) (sym c.is_wide-owed.ensures)
    ∙ ap (λ (is : List Insn). after_code is (decoded (c.loop-place.place + 1) c.is_wide-owed.result (length c.args.bytes.now / 8 - (c.loop-place.place + 1))
    (drop (8 * (c.loop-place.place + 1)) c.args.bytes.now))) (sym c.in_ok-push.ensures.items)
