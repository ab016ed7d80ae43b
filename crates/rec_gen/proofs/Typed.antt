-- The typed scripts of the tree.
use Rattle.std.proofs.Common.{◌≡◌, ℕ, List, [], ◌∷◌, map, Ok, refl, ap, sym, subst, ◌∙◌}
use Rattle.std.specs.Prelude.{codes}
use Rattle.bt_attach.specs.Attaching.{bodies_from}
use Rattle.event_layout.specs.declared.format.Format.{Format}
use Rattle.typed_tree.specs.Bodies.{tree_parts}
use Rattle.typed_tree.specs.declared.body.TypedBody.{TypedBody}
use Rattle.typed_tree.specs.declared.script.Typed.{Typed}
use Rattle.expr_types.specs.Judge.{judged}
use Rattle.expr_types.specs.Typing.{titles_of, words_by}
use Rattle.bt_types.specs.Bodies.{told_at, nothing}
use Rattle.bt_types.specs.Exits.{script_exits}
use Rattle.bt_types.specs.Script.{IsTypedScript, maps_of}
use Rattle.bt_types.specs.Told.{Told}
use Rattle.bt_types.specs.Under.{IsUnder, AreUnder, known_or}
use Rattle.recordings.specs.declared.recording.Recording.{Recording}
use Rattle.rec_gen.specs.Made.{IsMade}
use Rattle.rec_gen.proofs.Attach.{the_bodies}
use Rattle.rec_gen.proofs.Body.{IsBody, body_is}
use Rattle.rec_gen.proofs.Grammar.{the_tree}
use Rattle.rec_gen.proofs.MadeFormat.{the_format, formats_are}
use Rattle.rec_gen.proofs.Types.{the_id, the_told, told_is, the_known, whole}

-- one body, and its tree
pub record IsTyped (typed : Typed) : Type 0 where
  pub body : TypedBody
  pub one : typed.bodies ≡ body ∷ []
  pub is : IsBody body.tree
  pub written : words_by (titles_of the_known) (tree_parts body.tree) ≡ the_told.words
  pub maps : typed.maps ≡ maps_of the_known
  pub exits : typed.uses_exit ≡ script_exits the_tree

under : (body : TypedBody) → IsUnder (known_or nothing (judged (told_at the_tree (the_format ∷ []) the_id).points nothing)) (told_at the_tree (the_format ∷ []) the_id).words body.tree
    → IsUnder the_known the_told.words body.tree
under body h = subst (λ (t : Told). IsUnder (known_or nothing (judged t.points nothing)) t.words body.tree) told_is h

record OneBody (bodies : List TypedBody) : Type 0 where
  body : TypedBody
  one : bodies ≡ body ∷ []
  is : IsUnder the_known the_told.words body.tree

one_body : (bodies : List TypedBody) → AreUnder the_tree (the_format ∷ []) nothing the_bodies (map (λ (b : TypedBody). b.tree) bodies) → OneBody bodies
one_body [] h = absurd h
one_body (b ∷ []) h = record { body = b; one = refl; is = under b h.0 }
one_body (b ∷ c ∷ more) h = absurd h.1

typed_of : (typed : Typed) → IsTypedScript the_tree (the_format ∷ []) the_bodies typed → IsTyped typed
typed_of typed h =
    let b = one_body typed.bodies h.under in
    let known : h.known ≡ the_known = let e : Ok h.known ≡ Ok the_known = sym h.whole ∙ whole in cc in
    record {
      body = b.body;
      one = b.one;
      is = body_is (titles_of the_known) the_known (codes "@calls") (codes "@ids") (codes "@sum") (codes "id") b.body.tree b.is.variables b.is.fits b.is.written;
      written = b.is.written;
      maps = h.maps ∙ ap maps_of known;
      exits = h.exits;
    }

pub typed_script : (seed count : ℕ) (r : Recording) → IsMade seed count r → (typed : Typed) → IsTypedScript the_tree r.formats (bodies_from r.formats 0 the_tree.probes) typed → IsTyped typed
typed_script seed count r m typed h =
    typed_of typed (subst (λ (l : List Format). IsTypedScript the_tree l (bodies_from l 0 the_tree.probes) typed) (formats_are seed count r m) h)
