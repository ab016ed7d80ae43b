use Rattle.std.proofs.Common.{◌≡◌, ◌||◌, [], ◌∷◌, ◌++◌, true, false, List, ℕ, Bool, refl, ap, sym, ◌∙◌}
use Rattle.std.proofs.lemmas.Bool.{or_from}
use Rattle.std.specs.Prelude.{is_some, IsTrue}
use Rattle.std.specs.Ordering.{nat_cmp}
use Rattle.std.specs.Cmp.Lexicographic.{slice_cmp}
use Rattle.std.specs.BTreeMap.{get}
use Rattle.std.specs.BTreeSet.{contains}
use Rattle.event_layout.specs.declared.format.Format.{Format}
use Rattle.recordings.specs.declared.error.RecordingError.TheVariants as fault
use Rattle.event_layout.specs.ByName.{full_name}
use Rattle.event_layout.specs.Names.{has_no_colon}
use Rattle.rec_format.proofs.TableLaws.{same_known, table_added, system-no_colon}
use Rattle.rec_format.proofs.table.Tables.note.Goals as goal
use Rattle.rec_format.proofs.table.Tables.note.Goals.{then-contains_key-via-then-contains_key, then-contains_key-via-else-contains_key+then-contains}

or_first : (a b : Bool) → a ≡ true → (a || b) ≡ true
or_first true b h = refl
or_first false b h = absurd cc

or_second : (a b : Bool) → b ≡ true → (a || b) ≡ true
or_second true b h = refl
or_second false b h = h

pub returns-then-contains_key-clause-answer : goal.returns-then-contains_key-clause-answer
returns-then-contains_key-clause-answer c =
    let f : Format = c.args.format.now in
    let no_colon : IsTrue (has_no_colon f.system) = system-no_colon f.system c.requires.system in
    let known = same_known c.args.self.now.formats c.args.self.now.places c.args.self.now.names f no_colon c.requires.fits in
    let by_id : Bool = is_some (get nat_cmp c.args.self.now.places f.layout.id) in
    let by_name : Bool = contains (slice_cmp nat_cmp) c.args.self.now.names (full_name f) in
    let named : c.in_ok-name.name ≡ full_name f =
    c.in_ok-name.ensures ∙ ap (λ (l : List ℕ). l ++ 58 ∷ c.as_slice-2.result.now) c.as_slice.ensures ∙ ap (λ (l : List ℕ). f.system ++ 58 ∷ l) c.as_slice-2.ensures in
    let same : (by_id || by_name) ≡ true = elim c.then-contains_key.branch [
      | then-contains_key-via-then-contains_key w ↦ or_first by_id by_name (sym c.contains_key.ensures ∙ w.if-contains_key.true)
      | then-contains_key-via-else-contains_key+then-contains w ↦ or_second by_id by_name (ap (contains (slice_cmp nat_cmp) c.args.self.now.names) (sym named) ∙ sym w.contains.ensures ∙ w.if-contains.true)
    ] in
    λ _. (known ∙ same, ap (λ n. fault.SameEvent n) c.len-place.ensures)

pub returns-clause-answer : goal.returns-clause-answer
returns-clause-answer c =
    let f : Format = c.args.format.now in
    let no_colon : IsTrue (has_no_colon f.system) = system-no_colon f.system c.requires.system in
    let named : c.in_ok-name.name ≡ full_name f =
    c.in_ok-name.ensures ∙ ap (λ (l : List ℕ). l ++ 58 ∷ c.as_slice-2.result.now) c.as_slice.ensures ∙ ap (λ (l : List ℕ). f.system ++ 58 ∷ l) c.as_slice-2.ensures in
    same_known c.args.self.now.formats c.args.self.now.places c.args.self.now.names f no_colon c.requires.fits
    ∙ or_from (is_some (get nat_cmp c.args.self.now.places f.layout.id)) (contains (slice_cmp nat_cmp) c.args.self.now.names (full_name f)) (sym c.contains_key.ensures ∙ c.if-contains_key.false)
    (ap (contains (slice_cmp nat_cmp) c.args.self.now.names) (sym named) ∙ sym c.contains.ensures ∙ c.if-contains.false)

pub returns-clause-table : goal.returns-clause-table
returns-clause-table c =
    let f : Format = c.args.format.now in
    let no_colon : IsTrue (has_no_colon f.system) = system-no_colon f.system c.requires.system in
    let named : c.in_ok-name.name ≡ full_name f =
    c.in_ok-name.ensures ∙ ap (λ (l : List ℕ). l ++ 58 ∷ c.as_slice-2.result.now) c.as_slice.ensures ∙ ap (λ (l : List ℕ). f.system ++ 58 ∷ l) c.as_slice-2.ensures in
    table_added c.args.self.now.formats (c.args.self.now.formats ++ f ∷ []) c.args.self.now.places c.insert.new.self c.args.self.now.names c.insert-2.new.self f c.len-place.result c.in_ok-name.name no_colon c.requires.fits
    refl c.len-place.ensures named (sym c.contains_key.ensures ∙ c.if-contains_key.false) c.in_ok-insert.ensures.updates.0 c.in_ok-insert-2.ensures.updates.0
