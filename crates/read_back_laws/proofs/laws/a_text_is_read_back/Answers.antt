use Rattle.read_back_laws.proofs.Back.{tree_is_read_back, accepted_again}
use Rattle.read_back_laws.proofs.laws.a_text_is_read_back.Goals as goal

pub returns : goal.returns
returns c = record { tree = tree_is_read_back; accepted = accepted_again }
