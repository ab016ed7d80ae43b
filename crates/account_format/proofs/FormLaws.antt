-- Bytes have one reading by parts, where parts that are due in one state are told apart by their spellings.
use Rattle.std.proofs.Common.{◌≡◌, ◌≢◌, ℕ, ◌+◌, List, [], ◌∷◌, ◌++◌, length, length-append, sym, refl, ap, ◌∙◌, subst}
use Rattle.std.proofs.lemmas.List.{append-nil, append_assoc, append_cancel_left}
use Rattle.account_format.specs.Forms.{Form, state_after, spelled, Stands, IsOfForm, IsWrongAt}

module _ {S P : Type 0} (form : Form S P) where
  -- parts that are due in one state and begin the same bytes are one, and leave the same
  abbrev pub AreApart : Type 0
  AreApart = (s : S) (x y : P) (xs ys : List ℕ) → form.IsDue s x → form.IsDue s y → form.spelling x ++ xs ≡ form.spelling y ++ ys → (x ≡ y) × (xs ≡ ys)

  -- nothing that is due stands there, and something has to
  pub wrong_here : (s : S) (bytes : List ℕ) → (form.IsEnd s → bytes ≢ []) → ((x : P) (more : List ℕ) → form.IsDue s x → bytes ≡ form.spelling x ++ more → ⊥) → IsWrongAt form s bytes 0
  wrong_here s bytes wrong none = record { parts = []; rest = bytes; stands = record { due = tt; bytes_are = refl; none = none }; wrong = wrong; told = refl }

  -- behind a part that is due, what is wrong is wrong so much later
  pub wrong_later : (s : S) (x : P) (bytes rest : List ℕ) (i : ℕ) → form.IsDue s x → bytes ≡ form.spelling x ++ rest → IsWrongAt form (form.after s x) rest i → IsWrongAt form s bytes (length (form.spelling x) + i)
  wrong_later s x bytes rest i due e w = record {
    parts = x ∷ w.parts;
    rest = w.rest;
    stands = record {
      due = (due, w.stands.due);
      bytes_are = e ∙ ap (λ (l : List ℕ). form.spelling x ++ l) w.stands.bytes_are ∙ sym (append_assoc (form.spelling x) (spelled form w.parts) w.rest);
      none = w.stands.none;
    };
    wrong = w.wrong;
    told = ap (λ (n : ℕ). length (form.spelling x) + n) w.told ∙ sym (length-append (form.spelling x) (spelled form w.parts));
  }

  module _ (apart : AreApart) where
    one_reading : (s : S) (bytes : List ℕ) (ps qs : List P) (xs ys : List ℕ) → Stands form s bytes ps xs → Stands form s bytes qs ys → ps ≡ qs
    one_reading s bytes [] [] xs ys h g = refl
    one_reading s bytes [] (q ∷ qs) xs ys h g =
        absurd (h.none q (spelled form qs ++ ys) g.due.0 (sym h.bytes_are ∙ g.bytes_are ∙ append_assoc (form.spelling q) (spelled form qs) ys))
    one_reading s bytes (p ∷ ps) [] xs ys h g =
        absurd (g.none p (spelled form ps ++ xs) h.due.0 (sym g.bytes_are ∙ h.bytes_are ∙ append_assoc (form.spelling p) (spelled form ps) xs))
    one_reading s bytes (p ∷ ps) (q ∷ qs) xs ys h g =
        let both = apart s p q (spelled form ps ++ xs) (spelled form qs ++ ys) h.due.0 g.due.0
        (sym (append_assoc (form.spelling p) (spelled form ps) xs) ∙ sym h.bytes_are ∙ g.bytes_are ∙ append_assoc (form.spelling q) (spelled form qs) ys) in
        let g_here : Stands form (form.after s p) (spelled form ps ++ xs) qs ys =
        subst (λ z. Stands form (form.after s z) (spelled form ps ++ xs) qs ys) (sym both.0)
        (record { due = g.due.1; bytes_are = both.1; none = g.none }) in
        let rest = one_reading (form.after s p) (spelled form ps ++ xs) ps qs xs ys (record { due = h.due.1; bytes_are = refl; none = h.none }) g_here in
        λ i. both.0 i ∷ rest i

    -- there is one offset
    pub one_offset : (s : S) (bytes : List ℕ) (i j : ℕ) → IsWrongAt form s bytes i → IsWrongAt form s bytes j → i ≡ j
    one_offset s bytes i j a b =
        a.told ∙ ap (λ l. length (spelled form l)) (one_reading s bytes a.parts b.parts a.rest b.rest a.stands b.stands) ∙ sym b.told

    module _ (ends : (s : S) → form.IsEnd s → (x : P) → form.IsDue s x → ⊥) where
      whole_stands : (s : S) (bytes : List ℕ) (ps : List P) → IsOfForm form s bytes ps → Stands form s bytes ps []
      whole_stands s bytes ps h = record { due = h.due; bytes_are = h.bytes_are ∙ sym (append-nil (spelled form ps)); none = λ x more due e. ends (state_after form s ps) h.end x due }

      -- bytes of the form have one reading, and no part of them is wrong
      pub one_form : (s : S) (bytes : List ℕ) (ps qs : List P) → IsOfForm form s bytes ps → IsOfForm form s bytes qs → ps ≡ qs
      one_form s bytes ps qs h g = one_reading s bytes ps qs [] [] (whole_stands s bytes ps h) (whole_stands s bytes qs g)

      pub not_both : (s : S) (bytes : List ℕ) (ps : List P) (i : ℕ) → IsOfForm form s bytes ps → IsWrongAt form s bytes i → ⊥
      not_both s bytes ps i h w =
          let same : ps ≡ w.parts = one_reading s bytes ps w.parts [] w.rest (whole_stands s bytes ps h) w.stands in
          w.wrong (subst (λ l. form.IsEnd (state_after form s l)) same h.end)
          (append_cancel_left (spelled form w.parts) w.rest [] (sym w.stands.bytes_are ∙ h.bytes_are ∙ ap (spelled form) same ∙ sym (append-nil (spelled form w.parts))))
