use Rattle.std.proofs.Common.{◌+◌, length}
use Rattle.bt_meaning.specs.Walks.{walking}
use Rattle.account_check.proofs.checking.found_with.Given as goal

abbrev pub ghost-found_by : goal.ghost-found_by
ghost-found_by g a = walking a.script.now (length a.recording.now.cpus + 1)
