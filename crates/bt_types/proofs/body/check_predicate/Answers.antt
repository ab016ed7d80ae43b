use Rattle.std.proofs.Common.{Option, Some, [], ◌∷◌, refl, sym, subst}
use Rattle.bt_ast.specs.declared.expr.Expr.{Expr}
use Rattle.typed_tree.specs.Parts.{Otherwise, NoOtherwise, num_parts}
use Rattle.typed_tree.specs.Bodies.{predicate_parts}
use Rattle.expr_types.specs.Mentions.{ElseWord, NoElseWord}
use Rattle.bt_types.specs.Told.{says, condition_told}
use Rattle.bt_types.specs.Bodies.{predicate_told}
use Rattle.bt_types.specs.Done.{Done}
use Rattle.bt_types.proofs.Turns.{done_next, done_says}
use Rattle.bt_types.proofs.body.check_predicate.Goals as goal

pub returns-in_ok-predicate-in-Some : goal.returns-in_ok-predicate-in-Some
returns-in_ok-predicate-in-Some c =
    subst (λ (o : Option Expr). Done (predicate_told o) c.args.known.now c.check_condition.new.known (predicate_parts (Some c.in_ok-predicate-in-Some.predicate))) (sym c.in-Some.is)
    (done_next (says ElseWord) (condition_told c.in-Some.predicate) c.args.known.now c.args.known.now c.check_condition.new.known (Otherwise ∷ []) (num_parts c.in_ok-predicate-in-Some.predicate) (done_says ElseWord Otherwise c.args.known.now tt refl) c.in_ok-predicate-in-Some.ensures)

pub returns-in-None : goal.returns-in-None
returns-in-None c =
    subst (λ (o : Option Expr). Done (predicate_told o) c.args.known.now c.args.known.now (NoOtherwise ∷ [])) (sym c.in-None.is) (done_says NoElseWord NoOtherwise c.args.known.now tt refl)
