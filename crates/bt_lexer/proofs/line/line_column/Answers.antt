use Rattle.std.proofs.Common.{◌≡◌, ℕ, List, ap}
use Rattle.bt_lexer.specs.Scan.{after, start}
use Rattle.bt_lexer.specs.declared.position.Position.{Position}
use Rattle.bt_lexer.proofs.PositionLaws.{position_of, position_behind}
use Rattle.bt_lexer.proofs.line.line_column.Goals as goal

-- a position behind the bytes before an offset
behind : (before front : List ℕ) (first p : Position) → front ≡ before → first ≡ start → p ≡ after first front → p ≡ position_behind before
behind before front first p e f g = rw (g, f, e) (position_of before)

pub returns-clause-line : goal.returns-clause-line
returns-clause-line c = ap (λ (p : Position). p.line) (behind _ _ _ _ c.split_at.ensures.front c.start.ensures.value c.after-position.ensures.value)

pub returns-clause-column : goal.returns-clause-column
returns-clause-column c = ap (λ (p : Position). p.column) (behind _ _ _ _ c.split_at.ensures.front c.start.ensures.value c.after-position.ensures.value)
