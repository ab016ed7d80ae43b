-- The words of a script's text.
use Rattle.std.specs.Prelude.{ℕ, ℤ, ◌++◌, List, [], ◌∷◌, Option, Some, None, codes, decimal, cond, nat_eq}
use Rattle.std.specs.Int.{w64, cast_unsigned}
use Rattle.bt_core.specs.declared.operator.BinOp.{BinOp}
use Rattle.bt_core.specs.declared.operator.BinOp.TheVariants.{Sub}
use Rattle.bt_core.specs.declared.operator.UnOp.{UnOp}
use Rattle.bt_core.specs.declared.operator.UnOp.TheVariants.{Neg, LogNot, BitNot}
use Rattle.bt_ast.specs.declared.expr.Builtin.{Builtin}
use Rattle.bt_ast.specs.declared.gathering.Gathering.{Gathering}
use Rattle.bt_ast.specs.declared.probe.Unit.{Unit as TimeUnit}
use Rattle.bt_ast.specs.declared.probe.Unit.TheVariants.{S, Ms, Us, Hz}
use Rattle.bt_grammar.specs.declared.class.Class.TheVariants.{BuiltinWord, GatherWord, Operator, Tilde, Bang}
use Rattle.bt_grammar.specs.Words.{word_of, mark_of}

-- a token, and a blank after it
abbrev pub token : List ℕ → List ℕ
token word = word ++ 32 ∷ []

-- a token that ends its line
abbrev pub ending : List ℕ → List ℕ
ending word = word ++ 32 ∷ 10 ∷ []

-- a number, by its 64 bits without a sign
abbrev pub number_text : ℤ → List ℕ
number_text n = token (decimal (cast_unsigned w64 n))

-- a byte of a string between quotes
abbrev pub quoted_byte : ℕ → List ℕ
quoted_byte c =
    cond (nat_eq c 10) (codes "\\n")
    (cond (nat_eq c 9) (codes "\\t")
    (cond (nat_eq c 13) (codes "\\r")
    (cond (nat_eq c 34) (codes "\\\"")
    (cond (nat_eq c 92) (codes "\\\\") (c ∷ [])))))

abbrev pub quoted_bytes : List ℕ → List ℕ
quoted_bytes [] = []
quoted_bytes (c ∷ text) = quoted_byte c ++ quoted_bytes text

abbrev pub quoted_text : List ℕ → List ℕ
quoted_text text = codes "\"" ++ (quoted_bytes text ++ token (codes "\""))

abbrev pub builtin_word : Builtin → List ℕ
builtin_word builtin = word_of (BuiltinWord builtin)

abbrev pub gathering_word : Gathering → List ℕ
gathering_word function = word_of (GatherWord function)

abbrev pub unary_mark : UnOp → List ℕ
unary_mark Neg = mark_of (Operator Sub)
unary_mark LogNot = mark_of Bang
unary_mark BitNot = mark_of Tilde

abbrev pub binary_mark : BinOp → List ℕ
binary_mark op = mark_of (Operator op)

-- `=`, or the operator before it
abbrev pub assign_mark : Option BinOp → List ℕ
assign_mark None = codes "="
assign_mark (Some op) = binary_mark op ++ codes "="

abbrev pub unit_word : TimeUnit → List ℕ
unit_word S = codes "s"
unit_word Ms = codes "ms"
unit_word Us = codes "us"
unit_word Hz = codes "hz"
