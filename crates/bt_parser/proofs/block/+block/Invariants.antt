use Rattle.std.proofs.Common.{◌≡◌, ◌+◌, ◌*◌, ◌<◌, ◌≤◌, length}
use Rattle.bt_grammar.specs.Form.{Body}
use Rattle.bt_grammar.specs.Reading.{reads}
use Rattle.bt_parser.specs.Statements.{arms_on, body_on, branches_by}
use Rattle.bt_grammar.specs.Tokens.{items}
use Rattle.bt_parser.proofs.block.+block.Given as goal

abbrev pub decreases-arm : goal.decreases-arm
decreases-arm l = 6 * length l.tokens.now

abbrev pub decreases-block : goal.decreases-block
decreases-block l = 6 * length l.tokens.now

abbrev pub decreases-otherwise : goal.decreases-otherwise
decreases-otherwise l = 6 * length l.tokens.now + 1

abbrev pub decreases-branches : goal.decreases-branches
decreases-branches l = 6 * length l.tokens.now + 1

abbrev pub decreases-unroll : goal.decreases-unroll
decreases-unroll l = 6 * length l.tokens.now + 2

abbrev pub decreases-control : goal.decreases-control
decreases-control l = 6 * length l.tokens.now + 3

abbrev pub decreases-stmt : goal.decreases-stmt
decreases-stmt l = 6 * length l.tokens.now + 4

abbrev pub decreases-body : goal.decreases-body
decreases-body l = 6 * length l.tokens.now + 5

-- the statements so far, and what is read of the others, are the body
abbrev pub invariant-body-loop-alloc : goal.invariant-body-loop-alloc
invariant-body-loop-alloc l = (body_on l.stmts (items l.tokens) ≡ reads Body (items l.fn.tokens)) × (length l.tokens ≤ length l.fn.tokens)

abbrev pub decreases-body-loop-alloc : goal.decreases-body-loop-alloc
decreases-body-loop-alloc l = length l.tokens

-- the arms so far, and what is read of the others, are the branches
abbrev pub invariant-branches-loop-tokens : goal.invariant-branches-loop-tokens
invariant-branches-loop-tokens l = (arms_on l.arms (items l.tokens) ≡ branches_by (items l.fn.tokens)) × (length l.tokens < length l.fn.tokens)

abbrev pub decreases-branches-loop-tokens : goal.decreases-branches-loop-tokens
decreases-branches-loop-tokens l = length l.tokens
