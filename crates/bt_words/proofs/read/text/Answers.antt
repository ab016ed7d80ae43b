use Rattle.clap.specs.Words.{found_of}
use Rattle.bt_words.proofs.ClapGets.{text_read, text_there}
use Rattle.bt_words.proofs.read.text.Goals as goal

pub unwrap-requires : goal.unwrap-requires
unwrap-requires c = text_there (found_of c.args.matches.now) c.args.name.now c.get_str.result c.get_str.ensures c.requires

pub returns : goal.returns
returns c = text_read (found_of c.args.matches.now) c.args.name.now c.get_str.result c.unwrap.result c.get_str.ensures c.unwrap.ensures
