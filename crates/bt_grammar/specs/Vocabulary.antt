-- The words and the marks of the language, each with its class, as a reader of the language's page knows them.
use Rattle.std.specs.Prelude.{ℕ, List, [], ◌∷◌, codes}
use Rattle.bt_ast.specs.declared.expr.Builtin.TheVariants as builtin
use Rattle.bt_ast.specs.declared.gathering.Gathering.TheVariants as function
use Rattle.bt_core.specs.declared.operator.BinOp.TheVariants as op
use Rattle.bt_grammar.specs.declared.class.Class.{Class}
use Rattle.bt_grammar.specs.declared.class.Class.TheVariants as class

abbrev pub vocabulary : List (List ℕ × Class)
vocabulary =
    (codes "BEGIN", class.BeginWord) ∷ (codes "END", class.EndWord) ∷ (codes "if", class.IfWord) ∷ (codes "else", class.ElseWord) ∷
    (codes "while", class.WhileWord) ∷ (codes "unroll", class.UnrollWord) ∷ (codes "count", class.CountWord) ∷
    (codes "sum", class.GatherWord function.Sum) ∷ (codes "min", class.GatherWord function.Min) ∷ (codes "max", class.GatherWord function.Max) ∷
    (codes "avg", class.GatherWord function.Avg) ∷ (codes "hist", class.GatherWord function.Hist) ∷ (codes "lhist", class.LhistWord) ∷
    (codes "printf", class.PrintfWord) ∷ (codes "print", class.PrintWord) ∷ (codes "clear", class.ClearWord) ∷ (codes "zero", class.ZeroWord) ∷
    (codes "delete", class.DeleteWord) ∷ (codes "exit", class.ExitWord) ∷ (codes "break", class.BreakWord) ∷ (codes "continue", class.ContinueWord) ∷
    (codes "return", class.ReturnWord) ∷ (codes "pid", class.BuiltinWord builtin.Pid) ∷ (codes "tid", class.BuiltinWord builtin.Tid) ∷
    (codes "uid", class.BuiltinWord builtin.Uid) ∷ (codes "gid", class.BuiltinWord builtin.Gid) ∷ (codes "comm", class.BuiltinWord builtin.Comm) ∷
    (codes "cpu", class.BuiltinWord builtin.Cpu) ∷ (codes "nsecs", class.BuiltinWord builtin.Nsecs) ∷
    (codes "elapsed", class.BuiltinWord builtin.Elapsed) ∷ (codes "args", class.ArgsWord) ∷ []

abbrev pub punctuation : List (List ℕ × Class)
punctuation =
    (codes "<<=", class.UpdateMark op.Shl) ∷ (codes ">>=", class.UpdateMark op.Shr) ∷ (codes "+=", class.UpdateMark op.Add) ∷
    (codes "-=", class.UpdateMark op.Sub) ∷ (codes "*=", class.UpdateMark op.Mul) ∷ (codes "/=", class.UpdateMark op.Div) ∷
    (codes "%=", class.UpdateMark op.Mod) ∷ (codes "&=", class.UpdateMark op.BitAnd) ∷ (codes "|=", class.UpdateMark op.BitOr) ∷
    (codes "^=", class.UpdateMark op.BitXor) ∷ (codes "<<", class.Operator op.Shl) ∷ (codes ">>", class.Operator op.Shr) ∷
    (codes "<=", class.Operator op.Le) ∷ (codes ">=", class.Operator op.Ge) ∷ (codes "==", class.Operator op.Eq) ∷
    (codes "!=", class.Operator op.Ne) ∷ (codes "+", class.Operator op.Add) ∷ (codes "-", class.Operator op.Sub) ∷
    (codes "*", class.Operator op.Mul) ∷ (codes "/", class.Operator op.Div) ∷ (codes "%", class.Operator op.Mod) ∷
    (codes "&", class.Operator op.BitAnd) ∷ (codes "|", class.Operator op.BitOr) ∷ (codes "^", class.Operator op.BitXor) ∷
    (codes "<", class.Operator op.Lt) ∷ (codes ">", class.Operator op.Gt) ∷ (codes "++", class.Increment) ∷ (codes "--", class.Decrement) ∷
    (codes "&&", class.AndAnd) ∷ (codes "||", class.OrOr) ∷ (codes "->", class.Arrow) ∷ (codes "{", class.OpenBrace) ∷ (codes "}", class.CloseBrace) ∷
    (codes "(", class.OpenParen) ∷ (codes ")", class.CloseParen) ∷ (codes "[", class.OpenBracket) ∷ (codes "]", class.CloseBracket) ∷
    (codes ",", class.Comma) ∷ (codes ";", class.Semicolon) ∷ (codes ".", class.Dot) ∷ (codes "=", class.Assign) ∷ (codes "~", class.Tilde) ∷
    (codes "!", class.Bang) ∷ (codes "?", class.Question) ∷ (codes ":", class.Colon) ∷ []
