use Rattle.std.proofs.Common.{◌≡◌, ℕ, ◌+◌, true, List, take, drop, Some, Ok, ap, sym, ◌∙◌}
use Rattle.bt_core.specs.Bytes.{is_letter}
use Rattle.bt_lexer.specs.Bytes.{begins}
use Rattle.bt_lexer.specs.Scan.{var_piece, word_len}
use Rattle.bt_lexer.specs.declared.piece.Piece.{Piece}
use Rattle.bt_lexer.specs.declared.token.TokenKind.TheVariants as kinds
use Rattle.bt_lexer.proofs.Same.{same_piece, up_to_end}
use Rattle.bt_lexer.proofs.words.var_piece.Goals as goal

var_is : (offset : ℕ) (bs name : List ℕ) (n : ℕ) (p : Piece) → begins is_letter (drop 1 bs) ≡ true → n ≡ word_len (drop 1 bs)
    → name ≡ take (1 + n) bs → p.kind ≡ Some (kinds.Var name) → p.len ≡ 1 + n
    → var_piece offset bs ≡ Ok p
unfolding var_piece
var_is offset bs name n p letter len is kind long = rw (letter, ← len, ← is) (same_piece p _ _ kind long)

pub returns-clause-value : goal.returns-clause-value
returns-clause-value c =
    let rest = up_to_end 1 c.args.bytes.now in
    var_is c.args.offset c.args.bytes.now _ _ c.token.result (sym (c.if-not-begins_with_letter.ensures ∙ ap (begins is_letter) rest))
    (c.word_len-len.ensures.value ∙ ap word_len rest) c.in_ok-name.ensures c.token.ensures.kind c.token.ensures.len
