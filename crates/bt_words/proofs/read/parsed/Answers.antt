use Rattle.std.proofs.Common.{◌≡◌, ◌∙◌, ap, map, string_bytes, true}
use Rattle.std.proofs.lemmas.Result.{IfOk-at_ok}
use Rattle.clap.specs.Words.{App, app_of, matches_of, takes}
use Rattle.clap.proofs.WalkLemmas.{both}
use Rattle.bt_words.proofs.read.parsed.Goals as goal

pub returns-in-Ok-try_get_matches_from-clause-matches : goal.returns-in-Ok-try_get_matches_from-clause-matches
returns-in-Ok-try_get_matches_from-clause-matches c = λ app is.
    let words = map string_bytes c.args.words.now in
    let fit = IfOk-at_ok (λ k. takes (app_of k) words ≡ true) c.in-Ok.is c.requires in
    (c.in-Ok-try_get_matches_from.ensures.matches (both _ _ fit).0).0 ∙ ap (λ (a : App). matches_of a words) (IfOk-at_ok (λ k. app_of k ≡ app) c.in-Ok.is is)
