use Rattle.std.proofs.Common.{◌∷◌, [], ◌∙◌, ap₂, codes, sym, map, string_bytes}
use Rattle.clap.specs.Words.{app_of, found_of, matches_of, rows_of}
use Rattle.bt_words.specs.Commands.{two_app}
use Rattle.bt_words.proofs.ClapTwo.{reads_two}
use Rattle.bt_words.proofs.ClapGets.{first_there, taken, text_is}
use Rattle.bt_words.proofs.read.two_operands.Goals as goal

pub parsed-requires : goal.parsed-requires
parsed-requires c =
    let words = map string_bytes c.args.words.now in
    let read = reads_two c.args.command.now words c.requires in
    taken c.two_command.result app_of (two_app c.args.command.now) words read.3.0 c.two_command.ensures

pub text-first-requires : goal.text-first-requires
text-first-requires c =
    let words = map string_bytes c.args.words.now in
    let read = reads_two c.args.command.now words c.requires in
    let app = two_app c.args.command.now in
    let rows = c.in-Ok.ensures.matches app c.two_command.ensures in
    first_there (codes "first") _ (rows_of (found_of c.in-Ok.matches)) (matches_of app words) rows read.3.1

pub text-second-requires : goal.text-second-requires
text-second-requires c =
    let words = map string_bytes c.args.words.now in
    let read = reads_two c.args.command.now words c.requires in
    let app = two_app c.args.command.now in
    let rows = c.in-Ok.ensures.matches app c.two_command.ensures in
    first_there (codes "second") _ (rows_of (found_of c.in-Ok.matches)) (matches_of app words) rows read.3.2

pub returns-clause-found : goal.returns-clause-found
returns-clause-found c =
    let words = map string_bytes c.args.words.now in
    let read = reads_two c.args.command.now words c.requires in
    let app = two_app c.args.command.now in
    let rows = c.in-Ok.ensures.matches app c.two_command.ensures in
    let all = rows_of (found_of c.in-Ok.matches) in
    let first = text_is (codes "first") c.text-first.result.now _ all (matches_of app words) rows read.3.1 c.text-first.ensures in
    let second = text_is (codes "second") c.text-second.result.now _ all (matches_of app words) rows read.3.2 c.text-second.ensures in
    read.2 ∙ sym (ap₂ (λ a b. a ∷ b ∷ []) first second)
