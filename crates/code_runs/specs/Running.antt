-- The plans of bodies that are run by their code.
use Rattle.actor_plan.specs.Plans.{Plan}
use Rattle.code_runs.specs.Coding.{coding}
use Rattle.code_runs.specs.declared.code_bodies.CodeBodies.{CodeBodies}

-- what is told of them
abbrev pub plan_of : CodeBodies → Plan
plan_of b = coding b.script.now b.codes.now b.actors b.actor
