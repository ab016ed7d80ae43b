use Rattle.account_steps.proofs.EndLemmas.{moment_of}
use Rattle.account_steps.proofs.check.check_steps.Given as goal

abbrev pub ghost-follow_all : goal.ghost-follow_all
ghost-follow_all g a = g.plans

abbrev pub ghost-end_of : goal.ghost-end_of
ghost-end_of g a = moment_of a.maps.now a.ended.now
