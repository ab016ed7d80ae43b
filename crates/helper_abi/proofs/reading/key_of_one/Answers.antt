use Rattle.std.proofs.Common.{◌≡◌, ℕ, sym, ap, ◌∙◌, subst, Some, ◌∷◌, []}
use Rattle.bpf_insn.specs.Regions.{bytes_in}
use Rattle.helper_abi.proofs.ReadingLemmas.{one_read}
use Rattle.helper_abi.proofs.reading.key_of_one.Goals as goal

pub returns-clause-value : goal.returns-clause-value
returns-clause-value c =
    one_read c.args.memory.now c.args.shape c.args.address c.in_ok-bytes.bytes.now
    (subst (λ (n : ℕ). bytes_in c.args.memory.now c.args.address n ≡ Some c.in_ok-bytes.bytes.now) c.shape_bytes.ensures.value c.in_ok-bytes.ensures.exact)
    (c.in_ok-bytes.ensures.long ∙ c.shape_bytes.ensures.value)
    ∙ ap Some (sym (c.one.ensures ∙ ap (λ v. v ∷ []) c.value_in.ensures.value))
