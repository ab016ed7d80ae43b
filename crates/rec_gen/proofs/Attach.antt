-- What the script is attached to over a made recording.
use Rattle.std.proofs.Common.{◌≡◌, ℕ, List, [], ◌∷◌, None, refl, ◌∙◌}
use Rattle.bt_ast.specs.declared.attached.BodyId.{BodyId}
use Rattle.bt_ast.specs.declared.attached.BodyPoint.TheVariants.{Event}
use Rattle.bt_attach.specs.Attaching.{attach_fault, bodies_from}
use Rattle.recordings.specs.declared.recording.Recording.{Recording}
use Rattle.rec_gen.specs.Made.{IsMade}
use Rattle.rec_gen.proofs.Grammar.{the_tree}
use Rattle.rec_gen.proofs.MadeFormat.{the_format, formats_are}

abbrev pub the_bodies : List BodyId
the_bodies = record { probe = 0; point = Event 0 } ∷ []

pub bodies_are : bodies_from (the_format ∷ []) 0 the_tree.probes ≡ the_bodies
bodies_are = refl

allowed : attach_fault the_tree (the_format ∷ []) 0 2000000000 ≡ None
unfolding attach_fault
allowed = refl

pub attached : (seed count : ℕ) (r : Recording) → IsMade seed count r → attach_fault the_tree r.formats r.start r.end ≡ None
attached seed count r m = (λ i. attach_fault the_tree (formats_are seed count r m i) (m.start i) (m.end i)) ∙ allowed
