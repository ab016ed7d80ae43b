-- Bytes are the account of one list and one text at most, and are wrong at one place at most.
use Rattle.std.proofs.Common.{◌≡◌, ◌≢◌, ℕ, zero, suc, ◌+◌, ◌-◌, ◌<◌, ◌≤◌, ◌^◌, Bool, List, [], ◌∷◌, ◌++◌, length, w64, Option, Some, None, inl, inr, refl, sym, ap, subst, ◌∙◌, append_assoc, append-nil, length-append, arith}
use Rattle.std.specs.Prelude.{codes, nat_eq}
use Rattle.std.specs.Int.{to_le_bytes}
use Rattle.std.specs.List.{AllByRecursion}
use Rattle.std.specs.Cmp.Lexicographic.{pointwise, nat_list_eq_equiv, same_text}
use Rattle.std.proofs.lemmas.List.{append_cancel_left}
use Rattle.std.proofs.lemmas.Option.{same_Some}
use Rattle.bt_core.specs.declared.step.Step.{Step}
use Rattle.bt_core.specs.Ports.{Setting}
use Rattle.recordings.specs.Fronts.{where_true, bytes_at, number_at}
use Rattle.recordings.proofs.Fields.{IsBytes, bind_some, where_true_some, bytes_takes, bytes_again, wide64, number_takes, number_again}
use Rattle.recordings.proofs.PartLaws.{bind_to}
use Rattle.account_format.specs.Entries.{entry_bytes, IsEntry}
use Rattle.account_format.specs.Accounts.{entries_bytes, IsAccount}
use Rattle.account_format.specs.Forms.{AreDue, state_after, spelled, IsOfForm, IsWrongAt}
use Rattle.account_format.specs.Wrong.{Part, Magic, Count, Entry, Size, Text, Due, AtMagic, AtCount, AtEntries, AtText, AtEnd, IsDuePart, due_after, part_bytes, IsEndOf, account_form, IsWrongAccount}
use Rattle.account_format.specs.Reading.{magic_at, entry_at}
use Rattle.account_format.proofs.FormLaws.{AreApart, wrong_here, wrong_later, one_offset, one_form, not_both}
use Rattle.account_format.proofs.EntryLaws.{entry_again, Walked}

-- ---- the magic

pub magic_takes : (bytes rest : List ℕ) → IsBytes bytes → magic_at bytes ≡ Some rest → (bytes ≡ codes "BACCT001" ++ rest) × IsBytes rest
unfolding magic_at
magic_takes bytes rest fits e =
    let a = bind_some (bytes_at 8 bytes) _ rest e in
    let b = where_true_some (pointwise nat_eq a.0.0 (codes "BACCT001")) a.0.1 rest a.2 in
    let same : a.0.0 ≡ codes "BACCT001" = same_text a.0.0 (codes "BACCT001") (sym b.0) in
    let took = (bytes_takes 8 bytes a.0.0 a.0.1 fits a.1).0 in
    (took.parts ∙ (λ i. same i ++ b.1 i), subst IsBytes b.1 took.rest_fits)

pub magic_again : (rest : List ℕ) → magic_at (codes "BACCT001" ++ rest) ≡ Some rest
unfolding magic_at
magic_again rest =
    bind_to (bytes_at 8 (codes "BACCT001" ++ rest)) _ (codes "BACCT001", rest) _ (bytes_again 8 (codes "BACCT001") rest refl)
    (ap (λ (b : Bool). where_true b rest) (nat_list_eq_equiv.refl (codes "BACCT001")))

numbers_alike : (n m : ℕ) (xs ys : List ℕ) → n < 2 ^ 64 → m < 2 ^ 64 → to_le_bytes w64 n ++ xs ≡ to_le_bytes w64 m ++ ys → ◌≡◌ {A = ℕ × List ℕ} (n, xs) (m, ys)
numbers_alike n m xs ys ln lm e = same_Some (n, xs) (m, ys) (sym (number_again w64 wide64 n xs ln) ∙ ap (number_at w64) e ∙ number_again w64 wide64 m ys lm)

texts_alike : (t u xs ys : List ℕ) → length t ≡ length u → t ++ xs ≡ u ++ ys → ◌≡◌ {A = List ℕ × List ℕ} (t, xs) (u, ys)
texts_alike t u xs ys same e = same_Some (t, xs) (u, ys) (sym (bytes_again (length u) t xs same) ∙ ap (bytes_at (length u)) e ∙ bytes_again (length u) u ys refl)

-- ---- an account as its parts, and what they tell

abbrev entries_then : List Step → List Part → List Part
entries_then [] more = more
entries_then (s ∷ ss) more = Entry s ∷ entries_then ss more

abbrev parts_of : List Step → List ℕ → List Part
parts_of steps text = Magic ∷ Count (length steps) ∷ entries_then steps (Size (length text) ∷ Text text ∷ [])

abbrev steps_told : List Part → List Step
steps_told [] = []
steps_told (Entry s ∷ parts) = s ∷ steps_told parts
steps_told (part ∷ parts) = steps_told parts

abbrev text_told : List Part → List ℕ
text_told [] = []
text_told (Text text ∷ parts) = text
text_told (part ∷ parts) = text_told parts

module _ (setting : Setting) where
  -- ---- parts are told apart

  apart : AreApart (account_form setting)
  apart AtMagic Magic Magic xs ys hx hy e = (refl, append_cancel_left (codes "BACCT001") xs ys e)
  apart AtMagic Magic y xs ys hx hy e = absurd hy
  apart AtMagic x y xs ys hx hy e = absurd hx
  apart AtCount (Count n) (Count m) xs ys hx hy e = let same = numbers_alike n m xs ys hx hy e in (ap (λ (p : ℕ × List ℕ). Count p.0) same, ap (λ (p : ℕ × List ℕ). p.1) same)
  apart AtCount (Count n) y xs ys hx hy e = absurd hy
  apart AtCount x y xs ys hx hy e = absurd hx
  apart (AtEntries zero) (Size n) (Size m) xs ys hx hy e = let same = numbers_alike n m xs ys hx hy e in (ap (λ (p : ℕ × List ℕ). Size p.0) same, ap (λ (p : ℕ × List ℕ). p.1) same)
  apart (AtEntries zero) (Size n) y xs ys hx hy e = absurd hy
  apart (AtEntries zero) x y xs ys hx hy e = absurd hx
  apart (AtEntries (suc k)) (Entry s) (Entry t) xs ys hx hy e =
      let same = same_Some (s, xs) (t, ys) (sym (entry_again setting s xs hx) ∙ ap (entry_at setting) e ∙ entry_again setting t ys hy) in
      (ap (λ (p : Step × List ℕ). Entry p.0) same, ap (λ (p : Step × List ℕ). p.1) same)
  apart (AtEntries (suc k)) (Entry s) y xs ys hx hy e = absurd hy
  apart (AtEntries (suc k)) x y xs ys hx hy e = absurd hx
  apart (AtText size) (Text t) (Text u) xs ys hx hy e = let same = texts_alike t u xs ys (hx ∙ sym hy) e in (ap (λ (p : List ℕ × List ℕ). Text p.0) same, ap (λ (p : List ℕ × List ℕ). p.1) same)
  apart (AtText size) (Text t) y xs ys hx hy e = absurd hy
  apart (AtText size) x y xs ys hx hy e = absurd hx
  apart AtEnd x y xs ys hx hy e = absurd hx

  ends : (due : Due) → IsEndOf due → (x : Part) → IsDuePart setting due x → ⊥
  ends AtEnd h x g = g
  ends AtMagic h x g = h
  ends AtCount h x g = h
  ends (AtEntries n) h x g = h
  ends (AtText n) h x g = h

  -- ---- an account as its parts

  due_entries : (steps : List Step) (more : List Part) → AllByRecursion (IsEntry setting) steps → AreDue (account_form setting) (AtEntries 0) more → AreDue (account_form setting) (AtEntries (length steps)) (entries_then steps more)
  due_entries [] more each due = due
  due_entries (s ∷ ss) more each due = (each.0, due_entries ss more each.1 due)

  spelled_entries : (steps : List Step) (more : List Part) → spelled (account_form setting) (entries_then steps more) ≡ entries_bytes steps ++ spelled (account_form setting) more
  spelled_entries [] more = refl
  spelled_entries (s ∷ ss) more = ap (λ (l : List ℕ). entry_bytes s ++ l) (spelled_entries ss more) ∙ sym (append_assoc (entry_bytes s) (entries_bytes ss) (spelled (account_form setting) more))

  after_entries : (steps : List Step) (more : List Part) → state_after (account_form setting) (AtEntries (length steps)) (entries_then steps more) ≡ state_after (account_form setting) (AtEntries 0) more
  after_entries [] more = refl
  after_entries (s ∷ ss) more = after_entries ss more

  of_form : (bytes : List ℕ) (steps : List Step) (text : List ℕ) → IsAccount setting bytes steps text → IsOfForm (account_form setting) AtMagic bytes (parts_of steps text)
  of_form bytes steps text h =
      let last : List Part = Size (length text) ∷ Text text ∷ [] in
      let ending : spelled (account_form setting) last ≡ to_le_bytes w64 (length text) ++ text = ap (λ (l : List ℕ). to_le_bytes w64 (length text) ++ l) (append-nil text) in
      record {
        due = (tt, (h.few, due_entries steps last h.each (h.short, (refl, tt))));
        bytes_are = h.spelled ∙ ap (λ (l : List ℕ). codes "BACCT001" ++ (to_le_bytes w64 (length steps) ++ l)) (ap (λ (l : List ℕ). entries_bytes steps ++ l) (sym ending) ∙ sym (spelled_entries steps last));
        end = subst (λ (d : Due). IsEndOf d) (sym (after_entries steps last)) tt;
      }

  told_steps : (steps : List Step) (more : List Part) → steps_told more ≡ [] → steps_told (entries_then steps more) ≡ steps
  told_steps [] more none = none
  told_steps (s ∷ ss) more none = ap (λ (l : List Step). s ∷ l) (told_steps ss more none)

  told_text : (steps : List Step) (more : List Part) → text_told (entries_then steps more) ≡ text_told more
  told_text [] more = refl
  told_text (s ∷ ss) more = told_text ss more

  -- ---- what the contracts say

  pub one_account : (bytes : List ℕ) (steps others : List Step) (text other : List ℕ) → IsAccount setting bytes steps text → IsAccount setting bytes others other → (steps ≡ others) × (text ≡ other)
  one_account bytes steps others text other h g =
      let same : parts_of steps text ≡ parts_of others other = one_form (account_form setting) apart ends AtMagic bytes (parts_of steps text) (parts_of others other) (of_form bytes steps text h) (of_form bytes others other g) in
      let last : List Part = Size (length text) ∷ Text text ∷ [] in
      let last2 : List Part = Size (length other) ∷ Text other ∷ [] in
      (sym (told_steps steps last refl) ∙ ap steps_told same ∙ told_steps others last2 refl, sym (told_text steps last) ∙ ap text_told same ∙ told_text others last2)

  pub account_not_wrong : (bytes : List ℕ) (steps : List Step) (text : List ℕ) (offset : ℕ) → IsAccount setting bytes steps text → IsWrongAccount setting bytes offset → ⊥
  account_not_wrong bytes steps text offset h w = not_both (account_form setting) apart ends AtMagic bytes (parts_of steps text) offset (of_form bytes steps text h) w

  pub one_wrong_place : (bytes : List ℕ) (i j : ℕ) → IsWrongAccount setting bytes i → IsWrongAccount setting bytes j → i ≡ j
  one_wrong_place bytes i j a b = one_offset (account_form setting) apart AtMagic bytes i j a b

  -- ---- what is wrong behind what was read

  -- what is wrong in the rest, where this is due, is wrong in all the bytes as much later as the rest begins
  pub record IsLater (due : Due) (bytes rest : List ℕ) : Type 0 where
    pub within : length rest ≤ length bytes
    pub later : (i : ℕ) → IsWrongAt (account_form setting) due rest i → IsWrongAccount setting bytes ((length bytes - length rest) + i)

  pub later_first : (bytes : List ℕ) → IsLater AtMagic bytes bytes
  later_first bytes = record {
    within = omega arith;
    later = λ i w. let e : i ≡ (length bytes - length bytes) + i = omega arith in subst (λ (n : ℕ). IsWrongAccount setting bytes n) e w;
  }

  pub later_part : (due : Due) (x : Part) (bytes rest after : List ℕ) → IsDuePart setting due x → rest ≡ part_bytes x ++ after → IsLater due bytes rest → IsLater (due_after due x) bytes after
  later_part due x bytes rest after is e h =
      let long : length rest ≡ length (part_bytes x) + length after = ap (λ (l : List ℕ). length l) e ∙ length-append (part_bytes x) after in
      record {
        within = omega (arith, h.within, long);
        later = λ i w. let same : (length bytes - length rest) + (length (part_bytes x) + i) ≡ (length bytes - length after) + i = omega (arith, h.within, long) in
            subst (λ (n : ℕ). IsWrongAccount setting bytes n) same (h.later (length (part_bytes x) + i) (wrong_later (account_form setting) due x rest after i is e w));
      }

  pub later_entries : (steps : List Step) (left : ℕ) (bytes rest after : List ℕ) → AllByRecursion (IsEntry setting) steps → rest ≡ entries_bytes steps ++ after → IsLater (AtEntries (length steps + left)) bytes rest → IsLater (AtEntries left) bytes after
  later_entries [] left bytes rest after each e h =
      let none : 0 + left ≡ left = omega arith in
      subst (λ (l : List ℕ). IsLater (AtEntries left) bytes l) e (subst (λ (n : ℕ). IsLater (AtEntries n) bytes rest) none h)
  later_entries (s ∷ ss) left bytes rest after each e h =
      let more : suc (length ss) + left ≡ suc (length ss + left) = omega arith in
      let here : IsLater (AtEntries (suc (length ss + left))) bytes rest = subst (λ (n : ℕ). IsLater (AtEntries n) bytes rest) more h in
      later_entries ss left bytes (entries_bytes ss ++ after) after each.1 refl
      (later_part (AtEntries (suc (length ss + left))) (Entry s) bytes rest (entries_bytes ss ++ after) each.0 (e ∙ append_assoc (entry_bytes s) (entries_bytes ss) after) here)

  -- nothing that is due stands there
  pub wrong_now : (due : Due) (bytes rest : List ℕ) → IsLater due bytes rest → (IsEndOf due → rest ≢ []) → ((x : Part) (more : List ℕ) → IsDuePart setting due x → rest ≡ part_bytes x ++ more → ⊥)
      → IsWrongAccount setting bytes (length bytes - length rest)
  wrong_now due bytes rest h wrong none =
      let e : (length bytes - length rest) + 0 ≡ length bytes - length rest = omega arith in
      subst (λ (n : ℕ). IsWrongAccount setting bytes n) e (h.later 0 (wrong_here (account_form setting) due rest wrong none))

  -- ---- that nothing that is due stands there

  some_is_none : {A : Type 0} (r : Option A) (x : A) → r ≡ Some x → r ≡ None → ⊥
  some_is_none {A = A} r x e n = let clash : ◌≡◌ {A = Option A} (Some x) None = sym e ∙ n in absurd cc

  none_magic : (bytes : List ℕ) → magic_at bytes ≡ None → (x : Part) (more : List ℕ) → IsDuePart setting AtMagic x → bytes ≡ part_bytes x ++ more → ⊥
  none_magic bytes n Magic more h e = some_is_none (magic_at bytes) more (ap magic_at e ∙ magic_again more) n
  none_magic bytes n x more h e = absurd h

  none_count : (bytes : List ℕ) → number_at w64 bytes ≡ None → (x : Part) (more : List ℕ) → IsDuePart setting AtCount x → bytes ≡ part_bytes x ++ more → ⊥
  none_count bytes n (Count k) more h e = some_is_none (number_at w64 bytes) (k, more) (ap (number_at w64) e ∙ number_again w64 wide64 k more h) n
  none_count bytes n x more h e = absurd h

  none_size : (bytes : List ℕ) → number_at w64 bytes ≡ None → (x : Part) (more : List ℕ) → IsDuePart setting (AtEntries 0) x → bytes ≡ part_bytes x ++ more → ⊥
  none_size bytes n (Size k) more h e = some_is_none (number_at w64 bytes) (k, more) (ap (number_at w64) e ∙ number_again w64 wide64 k more h) n
  none_size bytes n x more h e = absurd h

  none_entry : (left : ℕ) (bytes : List ℕ) → entry_at setting bytes ≡ None → (x : Part) (more : List ℕ) → IsDuePart setting (AtEntries (suc left)) x → bytes ≡ part_bytes x ++ more → ⊥
  none_entry left bytes n (Entry s) more h e = some_is_none (entry_at setting bytes) (s, more) (ap (entry_at setting) e ∙ entry_again setting s more h) n
  none_entry left bytes n x more h e = absurd h

  none_text : (size : ℕ) (bytes : List ℕ) → length bytes < size → (x : Part) (more : List ℕ) → IsDuePart setting (AtText size) x → bytes ≡ part_bytes x ++ more → ⊥
  none_text size bytes short (Text t) more h e = omega (arith, short, h, ap (λ (l : List ℕ). length l) e, length-append t more)
  none_text size bytes short x more h e = absurd h

  none_end : (x : Part) (more bytes : List ℕ) → IsDuePart setting AtEnd x → bytes ≡ part_bytes x ++ more → ⊥
  none_end x more bytes h e = h

  -- ---- the places where reading stops

  pub bad_magic : (bytes : List ℕ) → magic_at bytes ≡ None → IsWrongAccount setting bytes 0
  bad_magic bytes n =
      let e : length bytes - length bytes ≡ 0 = omega arith in
      subst (λ (k : ℕ). IsWrongAccount setting bytes k) e (wrong_now AtMagic bytes bytes (later_first bytes) (λ end. absurd end) (none_magic bytes n))

  pub behind_magic : (bytes rest : List ℕ) → IsBytes bytes → magic_at bytes ≡ Some rest → IsLater AtCount bytes rest
  behind_magic bytes rest fits e = later_part AtMagic Magic bytes bytes rest tt (magic_takes bytes rest fits e).0 (later_first bytes)

  pub bad_count : (bytes rest : List ℕ) → IsLater AtCount bytes rest → number_at w64 rest ≡ None → IsWrongAccount setting bytes (length bytes - length rest)
  bad_count bytes rest h n = wrong_now AtCount bytes rest h (λ end. absurd end) (none_count rest n)

  pub behind_count : (bytes rest after : List ℕ) (count : ℕ) → IsBytes rest → IsLater AtCount bytes rest → number_at w64 rest ≡ Some (count, after) → IsLater (AtEntries count) bytes after
  behind_count bytes rest after count fits h e =
      let n = number_takes w64 wide64 rest count after fits e in
      later_part AtCount (Count count) bytes rest after n.1 n.0.parts h

  pub bad_entry : (count : ℕ) (bytes rest after : List ℕ) (steps : List Step) → IsLater (AtEntries count) bytes rest → Walked setting count rest steps after → length steps ≢ count → IsWrongAccount setting bytes (length bytes - length after)
  bad_entry count bytes rest after steps h w ne =
      elim w.whole_or_not [
        | inl same ↦ absurd (ne same)
        | inr stop ↦
            let left : ℕ = count - (length steps + 1) in
            let all : count ≡ length steps + suc left = omega (arith, stop.0) in
            let there : IsLater (AtEntries (length steps + suc left)) bytes rest = subst (λ (n : ℕ). IsLater (AtEntries n) bytes rest) all h in
            wrong_now (AtEntries (suc left)) bytes after (later_entries steps (suc left) bytes rest after w.each w.spelled there) (λ end. absurd end) (none_entry left after stop.1)
      ]

  pub behind_entries : (count : ℕ) (bytes rest after : List ℕ) (steps : List Step) → IsLater (AtEntries count) bytes rest → Walked setting count rest steps after → length steps ≡ count → IsLater (AtEntries 0) bytes after
  behind_entries count bytes rest after steps h w same =
      let all : count ≡ length steps + 0 = omega (arith, same) in
      later_entries steps 0 bytes rest after w.each w.spelled (subst (λ (n : ℕ). IsLater (AtEntries n) bytes rest) all h)

  pub bad_size : (bytes rest : List ℕ) → IsLater (AtEntries 0) bytes rest → number_at w64 rest ≡ None → IsWrongAccount setting bytes (length bytes - length rest)
  bad_size bytes rest h n = wrong_now (AtEntries 0) bytes rest h (λ end. absurd end) (none_size rest n)

  pub behind_size : (bytes rest after : List ℕ) (size : ℕ) → IsBytes rest → IsLater (AtEntries 0) bytes rest → number_at w64 rest ≡ Some (size, after) → IsLater (AtText size) bytes after
  behind_size bytes rest after size fits h e =
      let n = number_takes w64 wide64 rest size after fits e in
      later_part (AtEntries 0) (Size size) bytes rest after n.1 n.0.parts h

  pub bad_text : (size : ℕ) (bytes rest : List ℕ) → IsLater (AtText size) bytes rest → length rest < size → IsWrongAccount setting bytes (length bytes - length rest)
  bad_text size bytes rest h short = wrong_now (AtText size) bytes rest h (λ end. absurd end) (none_text size rest short)

  pub left_over : (bytes rest text after : List ℕ) → IsLater (AtText (length text)) bytes rest → rest ≡ text ++ after → after ≢ [] → IsWrongAccount setting bytes (length bytes - length after)
  left_over bytes rest text after h e some =
      wrong_now AtEnd bytes after (later_part (AtText (length text)) (Text text) bytes rest after refl e h) (λ end. some) (λ x more g f. none_end x more after g f)
