use Rattle.meaning_tests.proofs.Walking.{count_walk, exit_walk, print_and_clear_walk, print_walk}
use Rattle.meaning_tests.proofs.bodies.walks_are_these.Goals as goal

pub returns-clause-count : goal.returns-clause-count
returns-clause-count c = count_walk

pub returns-clause-print : goal.returns-clause-print
returns-clause-print c = print_walk

pub returns-clause-print_and_clear : goal.returns-clause-print_and_clear
returns-clause-print_and_clear c = print_and_clear_walk

pub returns-clause-exit : goal.returns-clause-exit
returns-clause-exit c = exit_walk
