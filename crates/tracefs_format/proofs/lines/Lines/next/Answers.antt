use Rattle.std.proofs.Common.{◌∙◌, ◌∷◌, [], ap, sym, map}
use Rattle.std.specs.Option.{option_copied}
use Rattle.event_layout.specs.Bytes.{is_line_end, without_end}
use Rattle.event_layout.specs.Lines.{lines_left, text_lines}
use Rattle.tracefs_format.proofs.BytesLemmas.{slice_split-Some, slice_split-None}
use Rattle.tracefs_format.proofs.lines.Lines.next.Goals as goal

pub returns-in-Some-cut_at : goal.returns-in-Some-cut_at
returns-in-Some-cut_at c =
    sym c.self.view_is ∙ ap (λ o. lines_left (option_copied o)) c.in-Some.is
    ∙ ap (map (without_end is_line_end)) (slice_split-Some 10 c.in-Some.text.now c.in-Some-cut_at.line.now c.in-Some-cut_at.rest.now c.in-Some-cut_at.ensures)
    ∙ ap (λ line. line ∷ text_lines c.in-Some-cut_at.rest.now) (sym c.without_end.ensures)

pub returns-in-None-cut_at : goal.returns-in-None-cut_at
returns-in-None-cut_at c =
    sym c.self.view_is ∙ ap (λ o. lines_left (option_copied o)) c.in-Some.is
    ∙ ap (map (without_end is_line_end)) (slice_split-None 10 c.in-Some.text.now c.in-None-cut_at.ensures)
    ∙ ap (λ line. line ∷ []) (sym c.without_end-in-None-cut_at.ensures)
