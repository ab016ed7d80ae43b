use Rattle.std.proofs.Common.{arith, ◌-◌, ◌≤◌, length, subst}
use Rattle.bt_parser.specs.Outcomes.{Answers, Gives}
use Rattle.bt_parser.proofs.Parsed.{err_of}
use Rattle.bt_parser.proofs.parse.parse_front.Goals as goal

pub returns-clause-err : goal.returns-clause-err
returns-clause-err c =
    let g : Gives c.args.front.now c.script.new.tokens c.in_ok-outcome.outcome = subst (λ z. Gives z c.script.new.tokens c.in_ok-outcome.outcome) c.new-tokens.ensures c.in_ok-outcome.ensures.outcome in
    let short : length c.script.new.tokens ≤ length c.args.front.now = subst (λ z. length c.script.new.tokens ≤ length z) c.new-tokens.ensures c.in_ok-outcome.ensures.no_longer in
    let a : Answers c.args.front.now c.args.deep c.answer_of.result = record {
      outcome = c.in_ok-outcome.outcome;
      left = c.script.new.tokens;
      place = length c.args.front.now - c.left.result;
      gives = g;
      at = omega (arith, short, c.left.ensures);
      is = c.answer_of.ensures;
    } in err_of c.args.front.now c.args.deep c.answer_of.result a
