use Rattle.std.proofs.Common.{Option, Some, [], ap, subst}
use Rattle.std.specs.Prelude.{is_none}
use Rattle.bt_ast.specs.declared.expr.Expr.{Expr}
use Rattle.typed_tree.specs.Parts.{number_parts}
use Rattle.bt_types.specs.Told.{gathered_told}
use Rattle.bt_types.specs.Done.{Done}
use Rattle.bt_types.proofs.Turns.{nothing_done}
use Rattle.bt_types.proofs.gather.check_gathered.Goals as goal

pub returns-in_ok-number-in-Some-clause-does : goal.returns-in_ok-number-in-Some-clause-does
returns-in_ok-number-in-Some-clause-does c =
    subst (λ (o : Option Expr). Done (gathered_told o c.args.word) c.args.known.now c.check_number.new.known (number_parts (Some c.in_ok-number-in-Some.number))) c.in-Some.ensures c.in_ok-number-in-Some.ensures

pub returns-in-None-clause-does : goal.returns-in-None-clause-does
returns-in-None-clause-does c =
    subst (λ (o : Option Expr). Done (gathered_told o c.args.word) c.args.known.now c.args.known.now []) c.in-None.ensures (nothing_done c.args.known.now)

pub returns-in_ok-number-in-Some-clause-there : goal.returns-in_ok-number-in-Some-clause-there
returns-in_ok-number-in-Some-clause-there c = ap (λ (o : Option Expr). is_none o) c.in-Some.ensures

pub returns-in-None-clause-there : goal.returns-in-None-clause-there
returns-in-None-clause-there c = ap (λ (o : Option Expr). is_none o) c.in-None.ensures
