-- The tokens and the tree of the script, as they are computed.
use Rattle.std.specs.Prelude.{◌≡◌, ℕ, ◌+◌, List, [], ◌∷◌, codes, Ok}
use Rattle.std.proofs.Common.{refl}
use Rattle.bt_lexer.specs.declared.token.Token.{Token}
use Rattle.bt_lexer.specs.declared.token.TokenKind.{TokenKind}
use Rattle.bt_lexer.specs.declared.token.TokenKind.TheVariants as kinds
use Rattle.bt_lexer.specs.Scan.{lexed, word_piece, map_piece, var_piece, number_at, number_piece, mark_len, slash_piece, piece_at}
use Rattle.rec_gen.specs.declared.script.TheConstants.{SCRIPT}

-- a token of the one line, with what stands before it and its end
abbrev token_at : TokenKind → ℕ → ℕ → Token
token_at kind start end = record { kind = kind; start = start; end = end; place = record { line = 1; column = start + 1 } }

abbrev pub the_tokens : List Token
the_tokens =
    token_at (kinds.Attach (codes "tracepoint:raw_syscalls:sys_enter")) 0 33
    ∷ token_at (kinds.Mark (codes "{")) 34 35
    ∷ token_at (kinds.Map (codes "@calls")) 36 42
    ∷ token_at (kinds.Mark (codes "[")) 42 43
    ∷ token_at (kinds.Word (codes "comm")) 43 47
    ∷ token_at (kinds.Mark (codes "]")) 47 48
    ∷ token_at (kinds.Mark (codes "=")) 49 50
    ∷ token_at (kinds.Word (codes "count")) 51 56
    ∷ token_at (kinds.Mark (codes "(")) 56 57
    ∷ token_at (kinds.Mark (codes ")")) 57 58
    ∷ token_at (kinds.Mark (codes ";")) 58 59
    ∷ token_at (kinds.Map (codes "@ids")) 60 64
    ∷ token_at (kinds.Mark (codes "=")) 65 66
    ∷ token_at (kinds.Word (codes "hist")) 67 71
    ∷ token_at (kinds.Mark (codes "(")) 71 72
    ∷ token_at (kinds.Word (codes "args")) 72 76
    ∷ token_at (kinds.Mark (codes ".")) 76 77
    ∷ token_at (kinds.Word (codes "id")) 77 79
    ∷ token_at (kinds.Mark (codes ")")) 79 80
    ∷ token_at (kinds.Mark (codes ";")) 80 81
    ∷ token_at (kinds.Map (codes "@sum")) 82 86
    ∷ token_at (kinds.Mark (codes "=")) 87 88
    ∷ token_at (kinds.Word (codes "sum")) 89 92
    ∷ token_at (kinds.Mark (codes "(")) 92 93
    ∷ token_at (kinds.Word (codes "args")) 93 97
    ∷ token_at (kinds.Mark (codes ".")) 97 98
    ∷ token_at (kinds.Word (codes "id")) 98 100
    ∷ token_at (kinds.Mark (codes ")")) 100 101
    ∷ token_at (kinds.Mark (codes ";")) 101 102
    ∷ token_at (kinds.Mark (codes "}")) 103 104
    ∷ []

pub lexes : lexed SCRIPT ≡ Ok the_tokens
unfolding word_piece map_piece var_piece number_at number_piece mark_len slash_piece piece_at
lexes = refl
