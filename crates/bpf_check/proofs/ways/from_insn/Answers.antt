use Rattle.std.proofs.Common.{◌≡◌, ◌∙◌, ℕ, List, Option, Some, None, sym, ap}
use Rattle.std.specs.Prelude.{slice_get}
use Rattle.std.specs.Option.{option_and_then}
use Rattle.bpf_insn.specs.declared.insn.Insn.{Insn}
use Rattle.bpf_check.specs.declared.known.Seen.{Seen}
use Rattle.bpf_check.specs.Sheet.{Sheet, sheet_of}
use Rattle.bpf_check.specs.Effects.{effect}
use Rattle.bpf_check.specs.Ways.{onward, from_insn}
use Rattle.bpf_check.proofs.ways.from_insn.Goals as goal

-- by the instruction that is there and what is known after it
by_parts : (t : Sheet) (code : List Insn) (p : ℕ) (s : Seen) (i : Insn) (o : Option Insn) (e : Option Seen) → o ≡ Some i → e ≡ effect t i s → option_and_then (λ after. onward code p i after) e ≡ from_insn t code p s o
by_parts t code p s i o e at is = ap (λ (x : Option Seen). option_and_then (λ after. onward code p i after) x) is ∙ sym (ap (from_insn t code p s) at)

pub returns-in_default : goal.returns-in_default
returns-in_default c = ap (from_insn (sheet_of c.args.typed.now c.args.payload) c.args.code.now c.args.place c.args.seen) c.in_default.ensures

pub returns-in_default-effect : goal.returns-in_default-effect
returns-in_default-effect c =
    by_parts (sheet_of c.args.typed.now c.args.payload) c.args.code.now c.args.place c.args.seen c.in-Some.insn (slice_get c.args.code.now c.args.place) None (sym c.in-Some.ensures)
    c.in_default-effect.ensures

pub returns : goal.returns
returns c =
    c.onward.ensures
    ∙ by_parts (sheet_of c.args.typed.now c.args.payload) c.args.code.now c.args.place c.args.seen c.in-Some.insn (slice_get c.args.code.now c.args.place) (Some c.in-Some-effect.after)
    (sym c.in-Some.ensures) c.in-Some-effect.ensures
