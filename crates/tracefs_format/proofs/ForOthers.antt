-- Lemmas for the crates above. The crate's own proofs stand in the other files.
use Rattle.std.proofs.Common.{◌≡◌, ◌⊎◌, ℕ, Bool, true, cond, ◌||◌, List, Some, None}
use Rattle.std.specs.Prelude.{IsTrue}
use Rattle.std.specs.Str.{bytes_eq}
use Rattle.std.specs.Ordering.{nat_cmp, is_eq}
use Rattle.std.specs.Cmp.Lexicographic.{slice_cmp}
use Rattle.event_layout.specs.declared.error.FormatError.{FormatError}
use Rattle.event_layout.specs.declared.format.Format.{Format}
use Rattle.event_layout.specs.declared.layout.Layout.{Layout}
use Rattle.event_layout.specs.ByName.{full_name, is_same_tracepoint}
use Rattle.event_layout.specs.Layouts.{IsLayoutOf, layout_fault}
use Rattle.event_layout.specs.Names.{has_no_colon}
use Rattle.tracefs_format.proofs.LayoutLaws.{layout_or_fault, IsLayoutOf-read, one_layout}
use Rattle.tracefs_format.proofs.NameLaws.{full_name-is_same}
use Rattle.tracefs_format.proofs.NameSets as sets

-- a text has a layout or a first fault
pub text_layout_or_fault : (text : List ℕ) → ((layout : Layout) × IsLayoutOf text layout) ⊎ ((e : FormatError) × (layout_fault text ≡ Some e))
text_layout_or_fault = layout_or_fault

-- and not both
pub text_no_fault : (text : List ℕ) (layout : Layout) → IsLayoutOf text layout → layout_fault text ≡ None
text_no_fault text layout is = (IsLayoutOf-read text layout is).0

pub text_one_layout : (text : List ℕ) (a b : Layout) → IsLayoutOf text a → IsLayoutOf text b → a ≡ b
text_one_layout = one_layout

-- tracepoints are called by one name where they are the same
pub bytes_eq-full_name : (f g : Format) → IsTrue (has_no_colon f.system) → IsTrue (has_no_colon g.system) → bytes_eq (full_name f) (full_name g) ≡ is_same_tracepoint f g
bytes_eq-full_name = full_name-is_same

-- what a set has after a name was inserted
pub set_inserted : (name copied other : List ℕ) (old new : Bool) → copied ≡ name → new ≡ cond (is_eq (slice_cmp nat_cmp copied other)) true old → new ≡ (bytes_eq name other || old)
set_inserted = sets.inserted
