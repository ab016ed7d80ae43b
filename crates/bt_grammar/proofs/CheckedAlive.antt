-- Each token of a rule exists.
use Rattle.std.proofs.Common.{true, false, refl}
use Rattle.bt_core.specs.declared.operator.BinOp.TheVariants.{Add, Sub, Mul, Div, Shl, BitAnd, BitOr, BitXor, Eq, Lt}
use Rattle.bt_ast.specs.declared.expr.Builtin.TheVariants.{Pid}
use Rattle.bt_ast.specs.declared.gathering.Gathering.TheVariants.{Sum}
use Rattle.bt_grammar.specs.declared.class.Tier.TheVariants.{Products, Sums, Shifts, Orders, Equalities, BitAnds, BitXors, BitOrs, AndThens, OrElses}
use Rattle.bt_grammar.specs.Form.{Part, Primary, Unary, Level, Expression, Values, Keyed, Assignable, Int, Aggregation, Update, AfterMap, AfterVar, Printf, Print, Delete, CallOrJump, Simple, Arm, Tail, Control, Body, Braced, Points, OneProbe, WholeScript}
use Rattle.bt_grammar.specs.Rules.{rule}
use Rattle.bt_grammar.specs.declared.class.Class.TheVariants.{AndAnd, ArgsWord, Assign, Bang, BeginWord, BreakWord, ClearWord, CloseBrace, CloseParen, Comma, ContinueWord, CountWord, DeleteWord, Dot, ElseWord, ExitWord, IfWord, Increment, LhistWord, MapName, NumberLiteral, OpenBrace, OpenBracket, OpenParen, OrOr, OtherWord, PrintWord, PrintfWord, Question, ReturnWord, Semicolon, TextLiteral, UnrollWord, VarName, WhileWord, ZeroWord, BuiltinWord, GatherWord, Operator, UpdateMark}
use Rattle.bt_grammar.proofs.Viable.{Alive}

pub alive_rule : (n : Part) → Alive (rule n)
alive_rule Primary = ((NumberLiteral, refl), ((TextLiteral, refl), ((BuiltinWord Pid, refl), (((ArgsWord, refl), ((Dot, refl), (OtherWord, refl))), (((OpenParen, refl), tt), (((Increment, refl), tt), ((tt, ((Increment, refl), tt)), ((VarName, refl), ((Increment, refl), tt)))))))))
alive_rule Unary = (((Bang, refl), tt), tt)
alive_rule (Level true Products) = (tt, (tt, (Operator Mul, refl, refl)))
alive_rule (Level false Products) = (tt, (tt, (Operator Mul, refl, refl)))
alive_rule (Level true Sums) = (tt, (tt, (Operator Add, refl, refl)))
alive_rule (Level false Sums) = (tt, (tt, (Operator Add, refl, refl)))
alive_rule (Level true Shifts) = (tt, (tt, (Operator Shl, refl, refl)))
alive_rule (Level false Shifts) = (tt, (tt, (Operator Shl, refl, refl)))
alive_rule (Level true Orders) = (tt, (tt, (Operator Lt, refl, refl)))
alive_rule (Level false Orders) = (tt, (tt, (Operator Lt, refl, refl)))
alive_rule (Level true Equalities) = (tt, (tt, (Operator Eq, refl, refl)))
alive_rule (Level false Equalities) = (tt, (tt, (Operator Eq, refl, refl)))
alive_rule (Level true BitAnds) = (tt, (tt, (Operator BitAnd, refl, refl)))
alive_rule (Level false BitAnds) = (tt, (tt, (Operator BitAnd, refl, refl)))
alive_rule (Level true BitXors) = (tt, (tt, (Operator BitXor, refl, refl)))
alive_rule (Level false BitXors) = (tt, (tt, (Operator BitXor, refl, refl)))
alive_rule (Level true BitOrs) = (tt, (tt, (Operator BitOr, refl, refl)))
alive_rule (Level false BitOrs) = (tt, (tt, (Operator BitOr, refl, refl)))
alive_rule (Level true AndThens) = (tt, (tt, (AndAnd, refl, refl)))
alive_rule (Level false AndThens) = (tt, (tt, (AndAnd, refl, refl)))
alive_rule (Level true OrElses) = (tt, (tt, (OrOr, refl, refl)))
alive_rule (Level false OrElses) = (tt, (tt, (OrOr, refl, refl)))
alive_rule (Expression true) = (tt, (((tt, tt), (Question, refl, refl)), tt))
alive_rule (Expression false) = (tt, (((tt, tt), (Question, refl, refl)), tt))
alive_rule Values = (tt, ((Comma, refl), tt))
alive_rule Keyed = ((MapName, refl), (((OpenBracket, refl), tt), tt))
alive_rule Assignable = (tt, (VarName, refl))
alive_rule Int = ((NumberLiteral, refl), ((Operator Sub, refl), (NumberLiteral, refl)))
alive_rule Aggregation = (((CountWord, refl), ((OpenParen, refl), (CloseParen, refl))), (((GatherWord Sum, refl), ((OpenParen, refl), tt)), ((LhistWord, refl), ((OpenParen, refl), (tt, (tt, (tt, tt)))))))
alive_rule Update = (((UpdateMark Add, refl), tt), (Increment, refl))
alive_rule AfterMap = (((Assign, refl), (tt, tt)), tt)
alive_rule AfterVar = (((Assign, refl), tt), tt)
alive_rule Printf = ((OpenParen, refl), ((TextLiteral, refl), (tt, ((Comma, refl), tt))))
alive_rule Print = ((OpenParen, refl), ((MapName, refl), ((((Comma, refl), (NumberLiteral, refl)), (((Comma, refl), (NumberLiteral, refl)), tt)), tt)))
alive_rule Delete = ((OpenParen, refl), ((MapName, refl), ((CloseParen, refl), (((OpenBracket, refl), tt), ((Comma, refl), tt)))))
alive_rule CallOrJump = (((PrintfWord, refl), tt), (((PrintWord, refl), tt), (((ClearWord, refl), ((OpenParen, refl), (MapName, refl))), (((ZeroWord, refl), ((OpenParen, refl), (MapName, refl))), (((DeleteWord, refl), tt), (((ExitWord, refl), ((OpenParen, refl), (CloseParen, refl))), ((BreakWord, refl), ((ContinueWord, refl), (ReturnWord, refl)))))))))
alive_rule Simple = ((tt, tt), (((VarName, refl), tt), (((Increment, refl), tt), tt)))
alive_rule Arm = (((OpenParen, refl), tt), tt)
alive_rule Tail = (((ElseWord, refl), ((((IfWord, refl), tt), tt), tt)), tt)
alive_rule Control = (((IfWord, refl), (tt, tt)), (((WhileWord, refl), tt), ((UnrollWord, refl), (((OpenParen, refl), (NumberLiteral, refl)), tt))))
alive_rule Body = ((CloseBrace, refl), ((tt, tt), (tt, (((Semicolon, refl), tt), (CloseBrace, refl)))))
alive_rule Braced = ((OpenBrace, refl), tt)
alive_rule Points = ((BeginWord, refl), ((Comma, refl), (BeginWord, refl)))
alive_rule OneProbe = (tt, ((((Operator Div, refl), tt), tt), tt))
alive_rule WholeScript = (tt, tt)
