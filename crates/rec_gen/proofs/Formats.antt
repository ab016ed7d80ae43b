-- What the layout of the one format is.
use Rattle.std.proofs.Common.{◌≡◌, ◌⊎◌, inl, inr, Result, Ok, Err, ℕ, ◌+◌, max, List, [], ◌∷◌, map, drop, Some, None, refl, ap, sym, ◌∙◌}
use Rattle.bt_core.specs.Want.{out_of_memory}
use Rattle.event_layout.specs.declared.error.FormatError.{FormatError}
use Rattle.event_layout.specs.declared.error.FormatError.TheVariants.{Memory}
use Rattle.event_layout.specs.declared.field.Field.{Field}
use Rattle.event_layout.specs.declared.layout.Layout.{Layout}
use Rattle.event_layout.specs.FieldLines.{Description, description}
use Rattle.event_layout.specs.Layouts.{IsLayoutOf, layout_fault, line_at, read_lines, described}
use Rattle.event_layout.specs.Lines.{text_lines}
use Rattle.event_layout.specs.Reading.{name_on, id_on, field_on, number_after, flag_after}
use Rattle.event_layout.specs.Declarations.{kind_of}
use Rattle.event_layout.specs.Sizes.{end_of, greatest_end}
use Rattle.tracefs_format.proofs.ForOthers.{text_layout_or_fault}
use Rattle.tracefs_format.proofs.LayoutLaws.{IsLayoutOf-read}
use Rattle.tracefs_format.proofs.StripLaws.{some_is}
use Rattle.rec_gen.specs.declared.format.TheConstants.{TEXT}

abbrev greatest : List Description → ℕ
greatest [] = 0
greatest (d ∷ ds) = max (d.offset + d.size) (greatest ds)

ends : (fs : List Field) → greatest_end fs ≡ greatest (map description fs)
ends [] = refl
ends (f ∷ fs) = ap (max (end_of f)) (ends fs)

computed_end : greatest (described (read_lines (drop 3 (text_lines TEXT)))) ≡ 64
unfolding field_on number_after flag_after kind_of
computed_end = refl

computed_id : id_on (line_at 1 (text_lines TEXT)) ≡ Some 21
unfolding id_on
computed_id = refl

-- the text breaks no rule
no_fault : layout_fault TEXT ≡ None
unfolding layout_fault name_on id_on field_on number_after flag_after kind_of
no_fault = refl

text_has : (layout : Layout) × IsLayoutOf TEXT layout
text_has = elim (text_layout_or_fault TEXT) [
  | inl has ↦ has
  | inr fault ↦ let broken : None ≡ Some fault.0 = sym no_fault ∙ fault.1 in absurd cc
]

-- so that want of memory is the one fault that reading it answers
pub is_memory : (r : Result Layout FormatError) (e : FormatError) → ((layout : Layout) → IsLayoutOf TEXT layout → (r ≡ Ok layout) ⊎ (r ≡ Err (Memory out_of_memory)))
    → r ≡ Err e → e ≡ Memory out_of_memory
is_memory r e only is =
    let has = text_has in
    elim (only has.0 has.1) [
      | inl ok ↦ let both : Ok has.0 ≡ Err e = sym ok ∙ is in absurd cc
      | inr err ↦ let both : Err (Memory out_of_memory) ≡ Err e = sym err ∙ is in cc
    ]

pub size_is : (layout : Layout) → IsLayoutOf TEXT layout → layout.size ≡ 64
size_is layout h = h.size ∙ ends layout.fields ∙ ap greatest (IsLayoutOf-read TEXT layout h).1.2 ∙ computed_end

pub id_is : (layout : Layout) → IsLayoutOf TEXT layout → layout.id ≡ 21
id_is layout h = some_is (sym (IsLayoutOf-read TEXT layout h).1.1 ∙ computed_id)
