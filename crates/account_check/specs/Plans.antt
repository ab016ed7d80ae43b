-- The plans of bodies that are walked.
use Rattle.actor_plan.specs.Plans.{Plan}
use Rattle.bt_meaning.specs.Walks.{walking}
use Rattle.account_check.specs.declared.walks.Walks.{Walks}

-- what is told of them
abbrev pub plan_of : Walks → Plan
plan_of w = walking w.script.now w.actors w.actor
