use Rattle.std.proofs.Common.{arith, ◌≡◌, ◌∙◌, ◌+◌, ◌≤◌, ◌∷◌, drop, get_or}
use Rattle.std.proofs.lemmas.Grind.{common_steps}
use Rattle.bt_core.specs.declared.limits.TheConstants.{NESTING}
use Rattle.bt_grammar.specs.declared.class.Class.TheVariants.{BeginWord}
use Rattle.bt_parser.specs.Levels.{levels_of}
use Rattle.bt_parser.proofs.DeepFrom.{stop_at, go_on, past_end}
use Rattle.bt_parser.proofs.nesting.first_too_deep.Goals as goal

pub returns-then-levels-gt-MOST_WEIGHT-clause-value : goal.returns-then-levels-gt-MOST_WEIGHT-clause-value
returns-then-levels-gt-MOST_WEIGHT-clause-value c =
    let d : drop c.loop-i.i c.args.classes.now ≡ get_or c.args.classes.now c.loop-i.i BeginWord ∷ drop (c.loop-i.i + 1) c.args.classes.now = grind (arith, common_steps) in
    stop_at c.loop-i.i (levels_of c.loop-i.levels) c.pass.new.self c.args.classes.now (get_or c.args.classes.now c.loop-i.i BeginWord) d (grind (arith, common_steps)) (grind (arith, common_steps)) (grind (arith, common_steps)) ∙ c.loop-i.invariant.deep

pub loop-i-preserved : goal.loop-i-preserved
loop-i-preserved c =
    let d : drop c.loop-i.i c.args.classes.now ≡ get_or c.args.classes.now c.loop-i.i BeginWord ∷ drop (c.loop-i.i + 1) c.args.classes.now = grind (arith, common_steps) in
    let light : c.pass.new.self.weight ≤ NESTING = grind (arith, common_steps) in
    record {
      deep = go_on c.loop-i.i (levels_of c.loop-i.levels) c.pass.new.self c.args.classes.now (get_or c.args.classes.now c.loop-i.i BeginWord) d (grind (arith, common_steps)) (grind (arith, common_steps)) light ∙ c.loop-i.invariant.deep;
      weighed = grind (arith, common_steps);
      light = light;
    }

pub returns-clause-value : goal.returns-clause-value
returns-clause-value c = past_end c.loop-i.i (levels_of c.loop-i.levels) c.args.classes.now c.loop-i-test.false ∙ c.loop-i.invariant.deep
