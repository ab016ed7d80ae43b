use Rattle.std.proofs.Common.{◌∙◌, sym, arith, eqb, get_or, length, ◌-◌, ◌≡◌, true, false}
use Rattle.tracefs_format.proofs.BytesLemmas.{before_last-last}
use Rattle.tracefs_format.proofs.bytes.before_last.Goals as goal

pub returns-then-last-byte : goal.returns-then-last-byte
returns-then-last-byte c =
    let rest = c.loop-rest.rest.now in
    let e : eqb (get_or rest (length rest - 1) 0) c.args.byte ≡ true = grind arith in
    sym c.loop-rest.invariant ∙ before_last-last c.args.byte rest c.in-len1-up.len_at_least ∙ rw e

pub loop-rest-preserved : goal.loop-rest-preserved
loop-rest-preserved c =
    let rest = c.loop-rest.rest.now in
    let e : eqb (get_or rest (length rest - 1) 0) c.args.byte ≡ false = grind arith in
    sym (before_last-last c.args.byte rest c.in-len1-up.len_at_least ∙ rw e) ∙ c.loop-rest.invariant
