use Rattle.begun_meaning.proofs.NoFurther.{parts_begun}
use Rattle.begun_meaning.proofs.laws.lists_with_parts_are_begun.Goals as goal

pub returns : goal.returns
returns c = λ p steps parts. parts_begun p steps parts
