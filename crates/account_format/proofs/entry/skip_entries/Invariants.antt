use Rattle.account_format.specs.Scopes.{setting_in}
use Rattle.account_format.proofs.EntryLaws.{Passed}
use Rattle.account_format.proofs.entry.skip_entries.Given as goal

abbrev pub invariant-loop-place : goal.invariant-loop-place
invariant-loop-place l = Passed (setting_in l.scope) l.count l._place l.bytes l.rest
