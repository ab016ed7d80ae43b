use Rattle.rec_gen.proofs.Valid.{made_once, made_valid}
use Rattle.rec_gen.proofs.laws.one_recording.Goals as goal

pub returns-clause-one : goal.returns-clause-one
returns-clause-one c = λ seed count a b made_a made_b. made_once seed count a b made_a made_b

pub returns-clause-valid : goal.returns-clause-valid
returns-clause-valid c = λ seed count r few made. made_valid seed count r few made
