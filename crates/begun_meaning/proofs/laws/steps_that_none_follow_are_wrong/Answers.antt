use Rattle.begun_meaning.proofs.NoFurther.{wrong_step}
use Rattle.begun_meaning.proofs.laws.steps_that_none_follow_are_wrong.Goals as goal

pub returns : goal.returns
returns c = λ p before s more begun none. wrong_step p before s more begun none
