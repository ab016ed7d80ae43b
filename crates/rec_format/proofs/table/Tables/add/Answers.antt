use Rattle.std.proofs.Common.{◌∷◌, [], ◌++◌, inr, ap, sym, ◌∙◌}
use Rattle.std.proofs.lemmas.Result.{err_from_is_err_and}
use Rattle.std.specs.List.{list_any}
use Rattle.recordings.specs.Checks.{is_same_event}
use Rattle.rec_format.proofs.table.Tables.add.Goals as goal

pub returns-in_err-note-clause-answer : goal.returns-in_err-note-clause-answer
returns-in_err-note-clause-answer c =
    let p = err_from_is_err_and c.from_residual-in_err-note.result c.from_residual-in_err-note.ensures.1 in
    let new = c.in_ok-format.ensures in
    rw (p.1, p.2) (λ other.
    let why = c.in_err-note.ensures.answer other in
    inr (
      new.system,
      inr (record {
        layout = new.layout;
        read = new.read;
        same = ap (λ f. list_any (is_same_event f) c.args.self.now.formats) (sym new.made) ∙ why.0;
        told = why.1;
      }),
    ))

pub returns-clause-answer : goal.returns-clause-answer
returns-clause-answer c =
    let new = c.in_ok-format.ensures in
    record {
      layout = new.layout;
      added = c.in_ok-push.ensures.ok ∙ ap (λ fs. fs ++ c.in_ok-format.format ∷ []) c.in_ok-note.ensures.formats ∙ ap (λ f. c.args.self.now.formats ++ f ∷ []) new.made;
      system = new.system;
      read = new.read;
      apart = ap (λ f. list_any (is_same_event f) c.args.self.now.formats) (sym new.made) ∙ c.in_ok-note.ensures.answer;
    }
