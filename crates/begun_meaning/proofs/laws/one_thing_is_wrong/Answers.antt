use Rattle.begun_meaning.proofs.NoFurther.{none_wrong, not_both, same_wrong_step}
use Rattle.begun_meaning.proofs.laws.one_thing_is_wrong.Goals as goal

pub returns-clause-one : goal.returns-clause-one
returns-clause-one c = λ p entries i j one other. same_wrong_step p entries i j one other

pub returns-clause-none : goal.returns-clause-none
returns-clause-none c = λ p made i begun wrong. none_wrong p made i begun wrong

pub returns-clause-not_both : goal.returns-clause-not_both
returns-clause-not_both c = λ p made begun whole unfinished. not_both p made begun whole unfinished
