use Rattle.std.proofs.Common.{◌∙◌, codes, drop, map, string_bytes}
use Rattle.clap.specs.Words.{app_of, found_of, matches_of, rows_of}
use Rattle.bt_words.specs.Commands.{verify_app}
use Rattle.bt_words.proofs.ClapGets.{first_there, taken, text_is}
use Rattle.bt_words.proofs.ClapVerify.{reads_verify}
use Rattle.bt_words.proofs.Orders.{behind_verify, verify_is}
use Rattle.bt_words.proofs.read.verify_order.Goals as goal

pub parsed-requires : goal.parsed-requires
parsed-requires c =
    let words = map string_bytes c.args.words.now in
    let are = behind_verify (drop 1 words) c.requires in
    let read = reads_verify words are in
    taken c.verify_command.result app_of verify_app words read.4.takes_them c.verify_command.ensures

pub text-first-requires : goal.text-first-requires
text-first-requires c =
    let words = map string_bytes c.args.words.now in
    let are = behind_verify (drop 1 words) c.requires in
    let read = reads_verify words are in
    let rows = c.in-Ok.ensures.matches verify_app c.verify_command.ensures in
    first_there (codes "script") _ (rows_of (found_of c.in-Ok.matches)) (matches_of verify_app words) rows read.4.script_text

pub text-second-requires : goal.text-second-requires
text-second-requires c =
    let words = map string_bytes c.args.words.now in
    let are = behind_verify (drop 1 words) c.requires in
    let read = reads_verify words are in
    let rows = c.in-Ok.ensures.matches verify_app c.verify_command.ensures in
    first_there (codes "recording") _ (rows_of (found_of c.in-Ok.matches)) (matches_of verify_app words) rows read.4.recording_text

pub text-third-requires : goal.text-third-requires
text-third-requires c =
    let words = map string_bytes c.args.words.now in
    let are = behind_verify (drop 1 words) c.requires in
    let read = reads_verify words are in
    let rows = c.in-Ok.ensures.matches verify_app c.verify_command.ensures in
    first_there (codes "account") _ (rows_of (found_of c.in-Ok.matches)) (matches_of verify_app words) rows read.4.account_text

pub returns-in-Ok-three_names : goal.returns-in-Ok-three_names
returns-in-Ok-three_names c =
    let words = map string_bytes c.args.words.now in
    let are = behind_verify (drop 1 words) c.requires in
    let read = reads_verify words are in
    let found = found_of c.in-Ok.matches in
    let rows = c.in-Ok.ensures.matches verify_app c.verify_command.ensures in
    let script = text_is (codes "script") c.text-first.result.now _ (rows_of found) (matches_of verify_app words) rows read.4.script_text c.text-first.ensures in
    let recording = text_is (codes "recording") c.text-second.result.now _ (rows_of found) (matches_of verify_app words) rows read.4.recording_text c.text-second.ensures in
    let account = text_is (codes "account") c.text-third.result.now _ (rows_of found) (matches_of verify_app words) rows read.4.account_text c.text-third.ensures in
    let names = c.in-Ok-three_names.ensures.names in
    verify_is (drop 1 words) _ _ _ _ _ _ are read.3 (names.0 ∙ script) (names.1 ∙ recording) (names.2 ∙ account)

pub returns-in-Err : goal.returns-in-Err
returns-in-Err c = rw c.in-Err.ensures.memory c.requires

pub returns-in_default : goal.returns-in_default
returns-in_default c = c.requires
