use Rattle.std.proofs.Common.{◌≡◌, ◌+◌, ◌*◌, ◌<◌, length}
use Rattle.bt_grammar.specs.Form.{Level}
use Rattle.bt_grammar.specs.Classes.{tier_number}
use Rattle.bt_grammar.specs.Reading.{reads}
use Rattle.bt_parser.specs.Mirror.{level_on, values_on, values_behind, tier_rank}
use Rattle.bt_grammar.specs.Tokens.{items}
use Rattle.bt_parser.proofs.expr.+expr.Given as goal

abbrev pub decreases-keyed : goal.decreases-keyed
decreases-keyed l = 32 * length l.tokens.now

abbrev pub decreases-keys : goal.decreases-keys
decreases-keys l = 32 * length l.tokens.now

abbrev pub decreases-assignable : goal.decreases-assignable
decreases-assignable l = 32 * length l.tokens.now + 1

abbrev pub decreases-stepped : goal.decreases-stepped
decreases-stepped l = 32 * length l.tokens.now + 2

abbrev pub decreases-primary : goal.decreases-primary
decreases-primary l = 32 * length l.tokens.now + 2

abbrev pub decreases-unary : goal.decreases-unary
decreases-unary l = 32 * length l.tokens.now + 3

abbrev pub decreases-operand : goal.decreases-operand
decreases-operand l = 32 * length l.tokens.now + (4 + 2 * tier_rank l.tier)

abbrev pub decreases-level : goal.decreases-level
decreases-level l = 32 * length l.tokens.now + (5 + 2 * tier_number l.tier)

abbrev pub decreases-joined : goal.decreases-joined
decreases-joined l = 32 * length l.tokens.now + (5 + 2 * tier_number l.tier)

abbrev pub decreases-expression : goal.decreases-expression
decreases-expression l = 32 * length l.tokens.now + 26

abbrev pub decreases-value_until : goal.decreases-value_until
decreases-value_until l = 32 * length l.tokens.now + 27

abbrev pub decreases-values : goal.decreases-values
decreases-values l = 32 * length l.tokens.now + 27

abbrev pub decreases-closed : goal.decreases-closed
decreases-closed l = 32 * length l.tokens.now + 28

abbrev pub decreases-alternatives : goal.decreases-alternatives
decreases-alternatives l = 32 * length l.tokens.now + 28

abbrev pub decreases-choice : goal.decreases-choice
decreases-choice l = 32 * length l.tokens.now + 29

-- what there is, with what is read from here, is the part
abbrev pub invariant-level-loop-class : goal.invariant-level-loop-class
invariant-level-loop-class l =
    (level_on l.in_predicate l.tier l.left (items l.tokens) ≡ reads (Level l.in_predicate l.tier) (items l.fn.tokens))
    × (length l.tokens < length l.fn.tokens)

abbrev pub decreases-level-loop-class : goal.decreases-level-loop-class
decreases-level-loop-class l = length l.tokens

abbrev pub invariant-values-loop-alloc : goal.invariant-values-loop-alloc
invariant-values-loop-alloc l =
    (values_on l.values (items l.tokens) ≡ values_behind l.fn.front (items l.fn.tokens))
    × (length l.tokens < length l.fn.tokens)

abbrev pub decreases-values-loop-alloc : goal.decreases-values-loop-alloc
decreases-values-loop-alloc l = length l.tokens
