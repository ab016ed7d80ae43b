use Rattle.std.proofs.Common.{arith, ◌≡◌, ◌≢◌, length, true, false}
use Rattle.std.proofs.lemmas.Grind.{common_steps}
use Rattle.bt_core.specs.declared.limits.TheConstants.{PROBES}
use Rattle.bt_parser.specs.Outcomes.{another}
use Rattle.bt_grammar.specs.Tokens.{items}
use Rattle.bt_parser.proofs.Ends.{ends_refused, few_added, full, read_added, refused_next, whole, refused_left}
use Rattle.bt_parser.proofs.Added.{added_on, refused_added}
use Rattle.bt_parser.proofs.Mirrored.{on_err}
use Rattle.std.proofs.Math.Nat.{le_of_lt, lt_of_lt_of_le}
use Rattle.bt_parser.proofs.script.probes.Goals as goal

pub returns-then-len-eq-MOST_PROBES-clause-outcome : goal.returns-then-len-eq-MOST_PROBES-clause-outcome
returns-then-len-eq-MOST_PROBES-clause-outcome c =
    let k : length c.loop-alloc.probes ≡ PROBES = grind (arith, common_steps) in
    let h : another c.loop-alloc.probes (items c.loop-alloc.tokens) ≡ true = grind (arith, common_steps) in
    full c.args.tokens.now c.loop-alloc.tokens c.loop-alloc.probes c.loop-alloc.invariant.read k h

pub returns-in_err-probes-clause-outcome : goal.returns-in_err-probes-clause-outcome
returns-in_err-probes-clause-outcome c =
    let more : length c.loop-alloc.probes ≢ PROBES = grind (arith, common_steps) in
    let h : another c.loop-alloc.probes (items c.loop-alloc.tokens) ≡ true = grind (arith, common_steps) in
    ends_refused _ _ _ _ c.from_residual.ensures.1
    (λ other. refused_next c.args.tokens.now c.loop-alloc.tokens c.probe.new.tokens c.loop-alloc.probes c.loop-alloc.invariant.read c.loop-alloc.invariant.few more h
    (refused_added _ _ _ _ c.probe.ensures.reads c.in_err-probes.ensures other))

pub returns-in_err-probes-clause-no_longer : goal.returns-in_err-probes-clause-no_longer
returns-in_err-probes-clause-no_longer c =
    on_err _ _ c.from_residual.ensures.0

pub loop-alloc-preserved : goal.loop-alloc-preserved
loop-alloc-preserved c =
    let more : length c.loop-alloc.probes ≢ PROBES = grind (arith, common_steps) in
    record {
      read = read_added _ _ _ _ _ _ c.loop-alloc.invariant.read c.probe.ensures.reads c.in_ok-probes.ensures;
      few = few_added _ _ _ c.loop-alloc.invariant.few more c.in_ok-probes.ensures;
      no_longer = le_of_lt (lt_of_lt_of_le (added_on _ _ _ _ c.probe.ensures.shorter c.in_ok-probes.ensures) c.loop-alloc.invariant.no_longer);
    }

pub returns-then-left-eq0-clause-outcome : goal.returns-then-left-eq0-clause-outcome
returns-then-left-eq0-clause-outcome c =
    let h : another c.loop-alloc.probes (items c.loop-alloc.tokens) ≡ false = grind (arith, common_steps) in
    let none : length c.loop-alloc.tokens ≡ 0 = grind (arith, common_steps) in
    whole c.args.tokens.now c.loop-alloc.tokens c.loop-alloc.probes c.loop-alloc.invariant.read c.loop-alloc.invariant.few h none

pub returns-else-left-eq0-clause-outcome : goal.returns-else-left-eq0-clause-outcome
returns-else-left-eq0-clause-outcome c =
    let h : another c.loop-alloc.probes (items c.loop-alloc.tokens) ≡ false = grind (arith, common_steps) in
    let some : length c.loop-alloc.tokens ≢ 0 = grind (arith, common_steps) in
    refused_left c.args.tokens.now c.loop-alloc.tokens c.loop-alloc.probes c.loop-alloc.invariant.read c.loop-alloc.invariant.few h some

pub loop-alloc-smaller : goal.loop-alloc-smaller
loop-alloc-smaller c =
    added_on _ _ _ _ c.probe.ensures.shorter c.in_ok-probes.ensures

pub returns-else-left-eq0-clause-no_longer : goal.returns-else-left-eq0-clause-no_longer
returns-else-left-eq0-clause-no_longer c = c.loop-alloc.invariant.no_longer

pub returns-then-left-eq0-clause-no_longer : goal.returns-then-left-eq0-clause-no_longer
returns-then-left-eq0-clause-no_longer c = c.loop-alloc.invariant.no_longer

pub returns-then-len-eq-MOST_PROBES-clause-no_longer : goal.returns-then-len-eq-MOST_PROBES-clause-no_longer
returns-then-len-eq-MOST_PROBES-clause-no_longer c = c.loop-alloc.invariant.no_longer
