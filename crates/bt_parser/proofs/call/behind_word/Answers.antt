use Rattle.std.proofs.Common.{refl}
use Rattle.std.proofs.Math.Nat.{le_of_lt}
use Rattle.bt_parser.proofs.Mirrored.{no_longer_on, on_err, refused_reads}
use Rattle.bt_parser.proofs.call.behind_word.Goals as goal

pub returns-in-PrintfWord-clause-reads : goal.returns-in-PrintfWord-clause-reads
returns-in-PrintfWord-clause-reads c = rw c.in-PrintfWord.is c.printf.ensures.reads

pub returns-in-PrintWord-clause-reads : goal.returns-in-PrintWord-clause-reads
returns-in-PrintWord-clause-reads c = rw c.in-PrintWord.is c.print.ensures.reads

pub returns-in_ok-map_in_parens-in-ClearWord-clause-reads : goal.returns-in_ok-map_in_parens-in-ClearWord-clause-reads
returns-in_ok-map_in_parens-in-ClearWord-clause-reads c = rw (c.in-ClearWord.is, c.in_ok-map_in_parens-in-ClearWord.ensures.reads) refl

pub returns-in_ok-map_in_parens-in-ZeroWord-clause-reads : goal.returns-in_ok-map_in_parens-in-ZeroWord-clause-reads
returns-in_ok-map_in_parens-in-ZeroWord-clause-reads c = rw (c.in-ZeroWord.is, c.in_ok-map_in_parens-in-ZeroWord.ensures.reads) refl

pub returns-in-DeleteWord-clause-reads : goal.returns-in-DeleteWord-clause-reads
returns-in-DeleteWord-clause-reads c = rw c.in-DeleteWord.is c.delete.ensures.reads

pub returns-in-ExitWord-clause-reads : goal.returns-in-ExitWord-clause-reads
returns-in-ExitWord-clause-reads c = rw c.in-ExitWord.is c.exit.ensures.reads

pub returns-in-BreakWord-clause-reads : goal.returns-in-BreakWord-clause-reads
returns-in-BreakWord-clause-reads c = rw c.in-BreakWord.is refl

pub returns-in-ContinueWord-clause-reads : goal.returns-in-ContinueWord-clause-reads
returns-in-ContinueWord-clause-reads c = rw c.in-ContinueWord.is refl

pub returns-in-ReturnWord-clause-reads : goal.returns-in-ReturnWord-clause-reads
returns-in-ReturnWord-clause-reads c = rw c.in-ReturnWord.is refl

pub returns-in-PrintfWord-clause-no_longer : goal.returns-in-PrintfWord-clause-no_longer
returns-in-PrintfWord-clause-no_longer c = no_longer_on _ _ _ c.printf.ensures.shorter

pub returns-in-PrintWord-clause-no_longer : goal.returns-in-PrintWord-clause-no_longer
returns-in-PrintWord-clause-no_longer c = no_longer_on _ _ _ c.print.ensures.shorter

pub returns-in_ok-map_in_parens-in-ClearWord-clause-no_longer : goal.returns-in_ok-map_in_parens-in-ClearWord-clause-no_longer
returns-in_ok-map_in_parens-in-ClearWord-clause-no_longer c = le_of_lt c.in_ok-map_in_parens-in-ClearWord.ensures.shorter

pub returns-in_ok-map_in_parens-in-ZeroWord-clause-no_longer : goal.returns-in_ok-map_in_parens-in-ZeroWord-clause-no_longer
returns-in_ok-map_in_parens-in-ZeroWord-clause-no_longer c = le_of_lt c.in_ok-map_in_parens-in-ZeroWord.ensures.shorter

pub returns-in-DeleteWord-clause-no_longer : goal.returns-in-DeleteWord-clause-no_longer
returns-in-DeleteWord-clause-no_longer c = no_longer_on _ _ _ c.delete.ensures.shorter

pub returns-in-ExitWord-clause-no_longer : goal.returns-in-ExitWord-clause-no_longer
returns-in-ExitWord-clause-no_longer c = no_longer_on _ _ _ c.exit.ensures.shorter

pub returns-in_err-map_in_parens-in-ClearWord-clause-reads : goal.returns-in_err-map_in_parens-in-ClearWord-clause-reads
returns-in_err-map_in_parens-in-ClearWord-clause-reads c = refused_reads _ _ _ _ c.from_residual.ensures.1 (λ other. rw (c.in-ClearWord.is, c.in_err-map_in_parens-in-ClearWord.ensures.reads other) refl)

pub returns-in_err-map_in_parens-in-ClearWord-clause-no_longer : goal.returns-in_err-map_in_parens-in-ClearWord-clause-no_longer
returns-in_err-map_in_parens-in-ClearWord-clause-no_longer c = on_err _ _ c.from_residual.ensures.0

pub returns-in_err-map_in_parens-in-ZeroWord-clause-reads : goal.returns-in_err-map_in_parens-in-ZeroWord-clause-reads
returns-in_err-map_in_parens-in-ZeroWord-clause-reads c = refused_reads _ _ _ _ c.from_residual-in_err-map_in_parens-in-ZeroWord.ensures.1 (λ other. rw (c.in-ZeroWord.is, c.in_err-map_in_parens-in-ZeroWord.ensures.reads other) refl)

pub returns-in_err-map_in_parens-in-ZeroWord-clause-no_longer : goal.returns-in_err-map_in_parens-in-ZeroWord-clause-no_longer
returns-in_err-map_in_parens-in-ZeroWord-clause-no_longer c = on_err _ _ c.from_residual-in_err-map_in_parens-in-ZeroWord.ensures.0
