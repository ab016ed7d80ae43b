use Rattle.std.proofs.Common.{◌∙◌, codes, drop, map, string_bytes}
use Rattle.clap.specs.Words.{app_of, found_of, matches_of, rows_of}
use Rattle.bt_words.specs.Commands.{run_app}
use Rattle.bt_words.proofs.ClapEnd.{is_run, reads_run, run_is}
use Rattle.bt_words.proofs.ClapGets.{first_there, taken, flag_is, text_is}
use Rattle.bt_words.proofs.read.run_order.Goals as goal

pub parsed-requires : goal.parsed-requires
parsed-requires c =
    let words = map string_bytes c.args.words.now in
    let is = is_run (drop 1 words) c.requires in
    let read = reads_run words is in
    taken c.run_command.result app_of run_app words read.takes_them c.run_command.ensures

pub text-first-requires : goal.text-first-requires
text-first-requires c =
    let words = map string_bytes c.args.words.now in
    let is = is_run (drop 1 words) c.requires in
    let read = reads_run words is in
    let rows = c.in-Ok.ensures.matches run_app c.run_command.ensures in
    first_there (codes "script") _ (rows_of (found_of c.in-Ok.matches)) (matches_of run_app words) rows read.script_text

pub text-second-requires : goal.text-second-requires
text-second-requires c =
    let words = map string_bytes c.args.words.now in
    let is = is_run (drop 1 words) c.requires in
    let read = reads_run words is in
    let rows = c.in-Ok.ensures.matches run_app c.run_command.ensures in
    first_there (codes "recording") _ (rows_of (found_of c.in-Ok.matches)) (matches_of run_app words) rows read.recording_text

pub returns-in-Ok-two_names : goal.returns-in-Ok-two_names
returns-in-Ok-two_names c =
    let words = map string_bytes c.args.words.now in
    let is = is_run (drop 1 words) c.requires in
    let read = reads_run words is in
    let found = found_of c.in-Ok.matches in
    let rows = c.in-Ok.ensures.matches run_app c.run_command.ensures in
    let script = text_is (codes "script") c.text-first.result.now _ (rows_of found) (matches_of run_app words) rows read.script_text c.text-first.ensures in
    let recording = text_is (codes "recording") c.text-second.result.now _ (rows_of found) (matches_of run_app words) rows read.recording_text c.text-second.ensures in
    let serial = flag_is found (codes "serial") _ _ c.get_flag-serial.result rows read.serial_text c.get_flag-serial.ensures.value c.get_flag-serial.ensures.other in
    let stats = flag_is found (codes "stats") _ _ c.get_flag-stats.result rows read.stats_text c.get_flag-stats.ensures.value c.get_flag-stats.ensures.other in
    let json = flag_is found (codes "json") _ _ c.get_flag-json.result rows read.json_text c.get_flag-json.ensures.value c.get_flag-json.ensures.other in
    run_is (drop 1 words) is _ _ _ _ _ serial stats json (c.in-Ok-two_names.ensures.names.0 ∙ script) (c.in-Ok-two_names.ensures.names.1 ∙ recording)

pub returns-in-Err : goal.returns-in-Err
returns-in-Err c = rw c.in-Err.ensures.memory c.requires

pub returns-in_default : goal.returns-in_default
returns-in_default c = c.requires
