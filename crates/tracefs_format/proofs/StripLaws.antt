-- Bytes without their blanks, and bytes after a label: what is read is spelled so, and what is spelled so is read.
use Rattle.std.proofs.Common.{◌≡◌, ℕ, Bool, true, false, cond, ◌&&◌, List, [], ◌∷◌, ◌++◌, Option, Some, None, refl, ap, sym, ◌∙◌, append_assoc}
use Rattle.std.proofs.lemmas.Bool.{and_parts, and_from}
use Rattle.std.specs.List.{list_all}
use Rattle.std.specs.Option.{option_map}
use Rattle.event_layout.specs.Bytes.{is_blank, without_front, without_end, longest_beginning, longest_ending, stripped, after, labelled}
use Rattle.event_layout.specs.Lines.{AreBlanks}
use Rattle.event_layout.specs.FieldLines.{IsLabelled}
use Rattle.tracefs_format.proofs.BytesLemmas.{front_parts, end_parts, without_end-all, after-append, after-parts}

and_true : (a : Bool) → (a && true) ≡ a
and_true true = refl
and_true false = refl

and_assoc : (a b c : Bool) → (a && (b && c)) ≡ ((a && b) && c)
and_assoc true b c = refl
and_assoc false b c = refl

pub list_all-append : (p : ℕ → Bool) (xs ys : List ℕ) → list_all p (xs ++ ys) ≡ (list_all p xs && list_all p ys)
list_all-append p [] ys = refl
list_all-append p (x ∷ xs) ys = ap (λ v. p x && v) (list_all-append p xs ys) ∙ and_assoc (p x) (list_all p xs) (list_all p ys)

pub list_all-both : (p : ℕ → Bool) (xs ys : List ℕ) → list_all p xs ≡ true → list_all p ys ≡ true → list_all p (xs ++ ys) ≡ true
list_all-both p xs ys h k = list_all-append p xs ys ∙ and_from (list_all p xs) (list_all p ys) h k

pub list_all-parts : (p : ℕ → Bool) (xs ys : List ℕ) → list_all p (xs ++ ys) ≡ true → (list_all p xs ≡ true) × (list_all p ys ≡ true)
list_all-parts p xs ys h = and_parts (list_all p xs) (list_all p ys) (sym (list_all-append p xs ys) ∙ h)

pub list_all-weaker : (p q : ℕ → Bool) → ((b : ℕ) → p b ≡ true → q b ≡ true) → (xs : List ℕ) → list_all p xs ≡ true → list_all q xs ≡ true
list_all-weaker p q h [] k = refl
list_all-weaker p q h (x ∷ xs) k =
    let parts = and_parts (p x) (list_all p xs) k in
    and_from (q x) (list_all q xs) (h x parts.0) (list_all-weaker p q h xs parts.1)

pub some_is : {A : Type 0} {x y : A} → Some x ≡ Some y → x ≡ y
some_is h = cc

-- ---- fronts and ends that pass

module _ (p : ℕ → Bool) where
  pub all-longest_beginning : (xs : List ℕ) → list_all p (longest_beginning p xs) ≡ true
  all-longest_beginning [] = refl
  all-longest_beginning (x ∷ xs) = (elim (p x) as (λ v. p x ≡ v → list_all p (cond v (x ∷ longest_beginning p xs) []) ≡ true)
      [ true ↦ λ e. and_from (p x) (list_all p (longest_beginning p xs)) e (all-longest_beginning xs) | false ↦ λ e. refl ]) refl

  pub all-longest_ending : (xs : List ℕ) → list_all p (longest_ending p xs) ≡ true
  all-longest_ending [] = refl
  all-longest_ending (x ∷ xs) = (elim (list_all p (x ∷ xs)) as (λ v. list_all p (x ∷ xs) ≡ v → list_all p (cond v (x ∷ xs) (longest_ending p xs)) ≡ true)
      [ true ↦ λ e. e | false ↦ λ e. all-longest_ending xs ]) refl

  pub without_front-append : (a xs : List ℕ) → list_all p a ≡ true → without_front p (a ++ xs) ≡ without_front p xs
  without_front-append [] xs h = refl
  without_front-append (x ∷ a) xs h =
      let parts = and_parts (p x) (list_all p a) h in
      rw parts.0 (without_front-append a xs parts.1)

  pub without_end-append : (xs b : List ℕ) → list_all p b ≡ true → without_end p (xs ++ b) ≡ without_end p xs
  without_end-append [] b h = without_end-all p b h
  without_end-append (x ∷ xs) b h =
      let same : list_all p (x ∷ (xs ++ b)) ≡ list_all p (x ∷ xs) = list_all-append p (x ∷ xs) b ∙ rw h (and_true (list_all p (x ∷ xs))) in
      rw (same, without_end-append xs b h) refl

  without_end-without_end : (xs : List ℕ) → without_end p (without_end p xs) ≡ without_end p xs
  without_end-without_end xs = sym (without_end-append (without_end p xs) (longest_ending p xs) (all-longest_ending xs)) ∙ ap (without_end p) (end_parts p xs)

  without_front-without_front : (xs : List ℕ) → without_front p (without_front p xs) ≡ without_front p xs
  without_front-without_front [] = refl
  without_front-without_front (x ∷ xs) = (elim (p x) as (λ v. p x ≡ v → without_front p (cond v (without_front p xs) (x ∷ xs)) ≡ cond v (without_front p xs) (x ∷ xs))
      [ true ↦ λ e. without_front-without_front xs | false ↦ λ e. rw e refl ]) refl

  -- where all pass, nothing is left at either side
  without_front-all : (xs : List ℕ) → list_all p xs ≡ true → without_front p xs ≡ []
  without_front-all [] h = refl
  without_front-all (x ∷ xs) h =
      let parts = and_parts (p x) (list_all p xs) h in
      rw parts.0 (without_front-all xs parts.1)

  -- it is one which side comes first
  sides : (xs : List ℕ) → without_front p (without_end p xs) ≡ without_end p (without_front p xs)
  sides [] = refl
  sides (x ∷ xs) = (elim (p x) as (λ v. p x ≡ v → without_front p (cond (v && list_all p xs) [] (x ∷ without_end p xs)) ≡ without_end p (cond v (without_front p xs) (x ∷ xs))) [
    | true ↦ λ e. (elim (list_all p xs) as (λ v. list_all p xs ≡ v → without_front p (cond v [] (x ∷ without_end p xs)) ≡ without_end p (without_front p xs)) [
      | true ↦ λ k. rw (without_front-all xs k) refl
      | false ↦ λ k. rw e (sides xs)
    ]) refl
    | false ↦ λ e. rw e refl
  ]) refl

abbrev front : List ℕ → List ℕ
front xs = without_front is_blank xs

abbrev ends : List ℕ → List ℕ
ends xs = without_end is_blank xs

pub stripped-stripped : (xs : List ℕ) → stripped (stripped xs) ≡ stripped xs
stripped-stripped xs = ap front (sym (sides is_blank (ends xs))) ∙ without_front-without_front is_blank (ends (ends xs)) ∙ ap front (without_end-without_end is_blank xs)

stripped-ends : (xs : List ℕ) → stripped (ends xs) ≡ stripped xs
stripped-ends xs = ap front (without_end-without_end is_blank xs)

-- bytes are blanks, what is left without them, and blanks
record Parts (bytes : List ℕ) : Type 0 where
  before : List ℕ
  behind : List ℕ
  blank_before : AreBlanks before
  blank_behind : AreBlanks behind
  whole : bytes ≡ before ++ (stripped bytes ++ behind)

stripped_parts : (xs : List ℕ) → Parts xs
stripped_parts xs = record {
  before = longest_beginning is_blank (ends xs);
  behind = longest_ending is_blank xs;
  blank_before = all-longest_beginning is_blank (ends xs);
  blank_behind = all-longest_ending is_blank xs;
  whole = sym (sym (append_assoc (longest_beginning is_blank (ends xs)) (stripped xs) (longest_ending is_blank xs)) ∙ ap (λ l. l ++ longest_ending is_blank xs) (front_parts is_blank (ends xs)) ∙ end_parts is_blank xs);
}

-- bare bytes between blanks
pub stripped-between : (before value behind : List ℕ) → AreBlanks before → AreBlanks behind → stripped value ≡ value → stripped (before ++ (value ++ behind)) ≡ value
stripped-between before value behind h k bare =
    sides is_blank (before ++ (value ++ behind)) ∙ ap ends (without_front-append is_blank before (value ++ behind) h) ∙ sym (sides is_blank (value ++ behind))
    ∙ ap front (without_end-append is_blank value behind k) ∙ bare

-- ---- labels

regroup : (a l b v d e : List ℕ) → a ++ ((l ++ (b ++ (v ++ d))) ++ e) ≡ a ++ (l ++ (b ++ (v ++ (d ++ e))))
regroup a l b v d e = simp append_assoc

labelled_by : (label part value : List ℕ) (o : Option (List ℕ)) → after label (stripped part) ≡ o → option_map stripped o ≡ Some value → IsLabelled label value part
labelled_by label part value None e h = absurd cc
labelled_by label part value (Some rest) e h =
    let outer = stripped_parts part in
    let inner = stripped_parts rest in
    let found : stripped rest ≡ value = some_is h in
    record {
      before = outer.before;
      between = inner.before;
      behind = inner.behind ++ outer.behind;
      blank_before = outer.blank_before;
      blank_between = inner.blank_before;
      blank_behind = list_all-both is_blank inner.behind outer.behind inner.blank_behind outer.blank_behind;
      spelling = outer.whole ∙ ap (λ l. outer.before ++ (l ++ outer.behind)) (after-parts label (stripped part) rest e ∙ ap (λ l. label ++ l) (inner.whole ∙ ap (λ l. inner.before ++ (l ++ inner.behind)) found))
          ∙ regroup outer.before label inner.before value inner.behind outer.behind;
      bare = ap stripped (sym found) ∙ stripped-stripped rest ∙ found;
    }

-- what is read after a label is spelled after it
pub labelled-IsLabelled : (label part value : List ℕ) → labelled label part ≡ Some value → IsLabelled label value part
labelled-IsLabelled label part value h = labelled_by label part value (after label (stripped part)) refl h

-- a label with no blank at either end
pub record IsLabel (label : List ℕ) : Type 0 where
  pub at_front : (rest : List ℕ) → without_front is_blank (label ++ rest) ≡ label ++ rest
  pub at_end : (rest : List ℕ) → without_end is_blank (label ++ rest) ≡ label ++ without_end is_blank rest

-- what is spelled after a label is read
pub IsLabelled-labelled : (label part value : List ℕ) → IsLabel label → IsLabelled label value part → labelled label part ≡ Some value
IsLabelled-labelled label part value keeps s =
    let rest = s.between ++ (value ++ s.behind) in
    let bared : stripped part ≡ label ++ ends rest =
    ap stripped s.spelling ∙ sides is_blank (s.before ++ (label ++ rest)) ∙ ap ends (without_front-append is_blank s.before (label ++ rest) s.blank_before ∙ keeps.at_front rest) ∙ keeps.at_end rest in
    ap (λ l. option_map stripped (after label l)) bared ∙ ap (option_map stripped) (after-append label (ends rest)) ∙ ap Some (stripped-ends rest ∙ stripped-between s.between value s.behind s.blank_between s.blank_behind s.bare)
