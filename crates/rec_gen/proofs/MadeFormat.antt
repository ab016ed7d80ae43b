-- The one layout of a made recording, and what the script's point matches there.
use Rattle.std.proofs.Common.{◌≡◌, ℕ, true, false, List, [], ◌∷◌, map, drop, Some, refl, ap, sym, ◌∙◌, arith}
use Rattle.std.specs.Prelude.{codes}
use Rattle.event_layout.specs.declared.field.Field.{Field}
use Rattle.event_layout.specs.declared.field.FieldKind.TheVariants.{Number, Other}
use Rattle.event_layout.specs.declared.format.Format.{Format}
use Rattle.event_layout.specs.declared.layout.Layout.{Layout}
use Rattle.event_layout.specs.FieldLines.{description}
use Rattle.event_layout.specs.Layouts.{IsLayoutOf, line_at, read_lines, described}
use Rattle.event_layout.specs.Lines.{text_lines}
use Rattle.event_layout.specs.Reading.{name_on, id_on, field_on, number_after, flag_after}
use Rattle.event_layout.specs.Declarations.{kind_of}
use Rattle.tracefs_format.proofs.LayoutLaws.{IsLayoutOf-read}
use Rattle.tracefs_format.proofs.SameLaws.{same_layout}
use Rattle.tracefs_format.proofs.StripLaws.{some_is}
use Rattle.recordings.specs.declared.recording.Recording.{Recording}
use Rattle.rec_gen.specs.declared.format.TheConstants.{TEXT}
use Rattle.rec_gen.specs.Made.{IsMade}

abbrev pub id_field : Field
id_field = record { name = codes "id"; offset = 8; size = 8; signed = true; kind = Number; sized = refl; inside = omega arith }

abbrev the_fields : List Field
the_fields =
    record { name = codes "common_type"; offset = 0; size = 2; signed = false; kind = Number; sized = refl; inside = omega arith }
    ∷ record { name = codes "common_flags"; offset = 2; size = 1; signed = false; kind = Number; sized = refl; inside = omega arith }
    ∷ record { name = codes "common_preempt_count"; offset = 3; size = 1; signed = false; kind = Number; sized = refl; inside = omega arith }
    ∷ record { name = codes "common_pid"; offset = 4; size = 4; signed = true; kind = Number; sized = refl; inside = omega arith }
    ∷ id_field
    ∷ record { name = codes "args"; offset = 16; size = 48; signed = false; kind = Other; sized = refl; inside = omega arith }
    ∷ []

abbrev pub the_layout : Layout
the_layout = record { name = codes "sys_enter"; id = 21; fields = the_fields; size = 64; covers = refl }

abbrev pub the_format : Format
the_format = record { system = codes "raw_syscalls"; text = TEXT; layout = the_layout }

computed_name : name_on (line_at 0 (text_lines TEXT)) ≡ Some (codes "sys_enter")
unfolding name_on
computed_name = refl

computed_id : id_on (line_at 1 (text_lines TEXT)) ≡ Some 21
unfolding id_on
computed_id = refl

computed_fields : map description the_fields ≡ described (read_lines (drop 3 (text_lines TEXT)))
unfolding field_on number_after flag_after kind_of
computed_fields = refl

layout_is : (layout : Layout) → IsLayoutOf TEXT layout → layout ≡ the_layout
layout_is layout h =
    let read = (IsLayoutOf-read TEXT layout h).1 in
    same_layout layout the_layout (some_is (sym read.0 ∙ computed_name)) (some_is (sym read.1 ∙ computed_id)) (read.2 ∙ sym computed_fields)

-- the formats of a made recording
pub formats_are : (seed count : ℕ) (r : Recording) → IsMade seed count r → r.formats ≡ the_format ∷ []
formats_are seed count r m =
    let layout = layout_is m.format.layout m.layout in
    let same : m.format ≡ the_format = λ i. record { system = m.system i; text = m.text i; layout = layout i } in
    m.formats ∙ ap (λ (f : Format). f ∷ []) same
