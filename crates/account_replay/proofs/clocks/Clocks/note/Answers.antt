use Rattle.std.proofs.Common.{◌<◌, length, max, get_or, slice_set, sym, ap, ◌∙◌, subst}
use Rattle.std.proofs.lemmas.List.{get_or_default}
use Rattle.account_replay.proofs.ClockLemmas.{noted}
use Rattle.account_replay.proofs.clocks.Clocks.note.Goals as goal

pub returns-clause-told : goal.returns-clause-told
returns-clause-told c = λ main before s by stamp tell.
    let items = c.args.self.now.lasts.items in
    let low : s.actor < length items = subst (λ n. n < length items) (sym by) c.requires.known in
    noted main before c.args.self.now tell s c.index-last.result.now low
    (λ d. c.index-last.ensures ∙ get_or_default items c.args.actor c.index-last.result.now d c.requires.known ∙ ap (λ k. get_or items k d) (sym by))
    _ (λ i. slice_set items (sym by i) ((c.max.ensures ∙ ap (λ n. max c.index-last.result.now n) (sym stamp)) i)) (c.max-self.ensures ∙ ap (λ n. max c.args.self.now.top n) (sym stamp))
