use Rattle.std.proofs.Common.{◌≡◌, ℕ, ◌+◌, List, take, drop, Some, Ok, ap, ◌∙◌}
use Rattle.bt_lexer.specs.Scan.{map_piece, name_len}
use Rattle.bt_lexer.specs.declared.piece.Piece.{Piece}
use Rattle.bt_lexer.specs.declared.token.TokenKind.TheVariants as kinds
use Rattle.bt_lexer.proofs.Same.{same_piece, up_to_end}
use Rattle.bt_lexer.proofs.words.map_piece.Goals as goal

map_is : (bs name : List ℕ) (n : ℕ) (p : Piece) → n ≡ name_len (drop 1 bs) → name ≡ take (1 + n) bs
    → p.kind ≡ Some (kinds.Map name) → p.len ≡ 1 + n → map_piece bs ≡ Ok p
unfolding map_piece
map_is bs name n p len is kind long = rw (← len, ← is) (same_piece p _ _ kind long)

pub returns-clause-value : goal.returns-clause-value
returns-clause-value c =
    map_is c.args.bytes.now _ _ c.token.result (c.name_len-len.ensures.value ∙ ap name_len (up_to_end 1 c.args.bytes.now)) c.in_ok-name.ensures
    c.token.ensures.kind c.token.ensures.len
