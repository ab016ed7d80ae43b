-- What begins a form can be completed.
use Rattle.std.proofs.Common.{◌≡◌, ℕ, zero, suc, Bool, true, false, List, [], ◌∷◌, ◌++◌, refl, sym, ◌∙◌, ap, subst, inl, inr, append_assoc}
use Rattle.std.proofs.lemmas.List.{append-nil}
use Rattle.bt_lexer.specs.declared.token.TokenKind.TheVariants as kinds
use Rattle.bt_grammar.specs.Tokens.{origin}
use Rattle.bt_grammar.proofs.AllClasses.{is_same}
use Rattle.bt_grammar.specs.declared.class.Class.{Class}
use Rattle.bt_grammar.specs.declared.class.Class.TheVariants.{OpenBrace}
use Rattle.bt_grammar.specs.Fine.{FineAt}
use Rattle.bt_grammar.specs.Tables.{nul, fst_of}
use Rattle.bt_grammar.specs.Reading.{first}
use Rattle.bt_grammar.proofs.Sound.{cases}
use Rattle.bt_grammar.proofs.Complete.{first_sound}
use Rattle.bt_grammar.specs.Form.{is_brace, brace_next, Item, Part, Of, Form, Tok, Empty, Call, Map, Then, Or, Until, Op, Chain, Rel, links, whole, Front, begins}

-- each token of the form exists
abbrev pub Alive : {A : Type 0} → Form A → Type 0
Alive (Tok p) = (c : Class) × (p c ≡ true)
Alive (Empty d) = Unit {0}
Alive (Call n) = Unit {0}
Alive (Map f P) = Alive P
Alive (Then f P Q) = Alive P × Alive Q
Alive (Or P Q) = Alive P × Alive Q
Alive (Until P k) = Alive P
Alive (Op g Q) = Alive Q × ((c : Class) × (g c true ≡ true) × (g c false ≡ true))
Alive (Chain f P Q) = Alive P × Alive Q

pub record Completed {A : Type 0} (L : List Item → A → Type 0) (ts : List Item) : Type 0 where
  pub rest : List Item
  pub value : A
  pub whole : L (ts ++ rest) value

abbrev pub item_of : Class → Item
item_of c = record { class = c; kind = kinds.Mark []; place = origin }

any_brace : (g : Class → Bool → Bool) (c : Class) (b : Bool) → g c true ≡ true → g c false ≡ true → g c b ≡ true
any_brace g c true h h' = h
any_brace g c false h h' = h'

brace_is : (c : Class) → is_brace c ≡ true → c ≡ OpenBrace
brace_is c h = is_same OpenBrace c h

pub links_more : {A B : Type 0} (f : A → B → A) (L M : List Item → B → Type 0) → ((ts : List Item) (b : B) → L ts b → M ts b)
    → (k : ℕ) (a : A) (ts : List Item) (c : A) → links f L k a ts c → links f M k a ts c
links_more f L M more zero a ts c l = l
links_more f L M more (suc k) a ts c (us, vs, b, e, w, l) = (us, vs, b, e, more us b w, links_more f L M more k (f a b) vs c l)

pub links_snoc : {A B : Type 0} (f : A → B → A) (L : List Item → B → Type 0) (k : ℕ) (a : A) (us : List Item) (c : A) (vs : List Item) (b : B)
    → links f L k a us c → L vs b → links f L (suc k) a (us ++ vs) (f c b)
links_snoc f L zero a us c vs b l w = (vs, [], b, rw l.0 (sym (append-nil vs)), w, (refl, ap (λ z. f z b) l.1))
links_snoc f L (suc k) a us c vs b (xs, ys, x, e, wx, l) w =
    (xs, ys ++ vs, x, rw e (append_assoc xs ys vs), wx, links_snoc f L k (f a x) ys c vs b l w)

module _ (W W2 : Rel) (more : (n : Part) (ts : List Item) (a : Of n) → W n ts a → W2 n ts a) where
  pub whole_more : {A : Type 0} (P : Form A) (ts : List Item) (a : A) → whole W P ts a → whole W2 P ts a
  whole_more (Tok p) ts a w = w
  whole_more (Empty d) ts a w = w
  whole_more (Call n) ts a w = more n ts a w
  whole_more (Map f P) ts b (a, e, w) = (a, e, whole_more P ts a w)
  whole_more (Then f P Q) ts c (xs, ys, a, b, e, ec, wa, wb) = (xs, ys, a, b, e, ec, whole_more P xs a wa, whole_more Q ys b wb)
  whole_more (Or P Q) ts a (inl w) = inl (whole_more P ts a w)
  whole_more (Or P Q) ts a (inr w) = inr (whole_more Q ts a w)
  whole_more (Until P k) ts a (xs, t, e, h, w) = (xs, t, e, h, whole_more P xs a w)
  whole_more (Op g Q) ts c (us, e, h, w) = (us, e, h, whole_more Q us c.1 w)
  whole_more (Chain f P Q) ts c (xs, ys, a, k, e, wa, l) =
      (xs, ys, a, k, e, whole_more P xs a wa, links_more f (whole W Q) (whole W2 Q) (whole_more Q) k a ys c l)

  module _ (W2null : (n : Part) (a : Of n) → W2 n [] a → nul n ≡ true) (W2first : (n : Part) (t : Item) (ts : List Item) (a : Of n) → W2 n (t ∷ ts) a → fst_of n t.class ≡ true) (B : Front) (any : (n : Part) → Completed (W2 n) []) (complete : (n : Part) (ts : List Item) → B n ts → Completed (W2 n) ts) where
    pub some : {A : Type 0} (P : Form A) → Alive P → Completed (whole W2 P) []
    some (Tok p) (c, h) = record { rest = item_of c ∷ []; value = item_of c; whole = (refl, h) }
    some (Empty d) ok = record { rest = []; value = d; whole = (refl, refl) }
    some (Call n) ok = let s : Completed (W2 n) [] = any n in record { rest = s.rest; value = s.value; whole = s.whole }
    some (Map f P) ok = let s : Completed (whole W2 P) [] = some P ok in record { rest = s.rest; value = f s.value; whole = (s.value, refl, s.whole) }
    some (Then f P Q) ok =
        let s : Completed (whole W2 P) [] = some P ok.0 in
        let t : Completed (whole W2 Q) [] = some Q ok.1 in
        record { rest = s.rest ++ t.rest; value = f s.value t.value; whole = (s.rest, t.rest, s.value, t.value, refl, refl, s.whole, t.whole) }
    some (Or P Q) ok = let s : Completed (whole W2 P) [] = some P ok.0 in record { rest = s.rest; value = s.value; whole = inl s.whole }
    some (Until P k) ok =
        let s : Completed (whole W2 P) [] = some P ok in record { rest = s.rest ++ item_of k ∷ []; value = s.value; whole = (s.rest, item_of k, refl, refl, s.whole) }
    some (Op g Q) (ok, (c, h, h')) =
        let s : Completed (whole W2 Q) [] = some Q ok in record { rest = item_of c ∷ s.rest; value = (item_of c, s.value); whole = (s.rest, refl, any_brace g c (brace_next s.rest) h h', s.whole) }
    some (Chain f P Q) ok =
        let s : Completed (whole W2 P) [] = some P ok.0 in
        record { rest = s.rest ++ []; value = s.value; whole = (s.rest, [], s.value, 0, refl, s.whole, (refl, refl)) }

    -- what completes an operand does not begin with a brace
    no_brace_at : {A : Type 0} (Q : Form A) → FineAt false Q → ((b : Bool) → first Q OpenBrace b ≡ false) → (rest : List Item) (a : A) → whole W2 Q rest a → brace_next rest ≡ false
    no_brace_at Q fine q [] a w = refl
    no_brace_at Q fine q (v ∷ vs) a w = elim (cases (is_brace v.class)) [
      | inr h ↦ h
      | inl h ↦ (let f : first Q v.class (brace_next (vs ++ [])) ≡ true = first_sound W2 W2null W2first false Q fine v vs a w [] in
          let f' : first Q OpenBrace (brace_next (vs ++ [])) ≡ true = subst (λ z. first Q z (brace_next (vs ++ [])) ≡ true) (brace_is v.class h) f in
          let n : first Q OpenBrace (brace_next (vs ++ [])) ≡ false = q (brace_next (vs ++ [])) in cc (f', n))
    ]

    no_brace : {A : Type 0} (Q : Form A) → FineAt false Q → ((b : Bool) → first Q OpenBrace b ≡ false) → (us rest : List Item) (a : A) → whole W2 Q (us ++ rest) a → brace_next (us ++ rest) ≡ brace_next us
    no_brace Q fine q (u ∷ us) rest a w = refl
    no_brace Q fine q [] rest a w = no_brace_at Q fine q rest a w

    pub completes : {A : Type 0} (link : Bool) (P : Form A) → FineAt link P → Alive P → (ts : List Item) → begins W B P ts → Completed (whole W2 P) ts
    completes link (Tok p) fine (c, h) ts (inl e) = record { rest = item_of c ∷ []; value = item_of c; whole = (rw e refl, h) }
    completes link (Tok p) fine ok ts (inr (t, e, h)) = record { rest = []; value = t; whole = (rw e refl, h) }
    completes link (Empty d) fine ok ts e = record { rest = []; value = d; whole = (rw e refl, refl) }
    completes link (Call n) fine ok ts b = let s : Completed (W2 n) ts = complete n ts b in record { rest = s.rest; value = s.value; whole = s.whole }
    completes link (Map f P) fine ok ts b = let s : Completed (whole W2 P) ts = completes false P fine ok ts b in record { rest = s.rest; value = f s.value; whole = (s.value, refl, s.whole) }
    completes link (Then f P Q) fine ok ts (inl b) =
        let s : Completed (whole W2 P) ts = completes false P fine.0 ok.0 ts b in
        let t : Completed (whole W2 Q) [] = some Q ok.1 in
        record { rest = s.rest ++ t.rest; value = f s.value t.value; whole = (ts ++ s.rest, t.rest, s.value, t.value, sym (append_assoc ts s.rest t.rest), refl, s.whole, t.whole) }
    completes link (Then f P Q) fine ok ts (inr (xs, ys, a, e, wa, b)) =
        let t : Completed (whole W2 Q) ys = completes false Q fine.1 ok.1 ys b in
        record { rest = t.rest; value = f a t.value; whole = (xs, ys ++ t.rest, a, t.value, rw e (append_assoc xs ys t.rest), refl, whole_more P xs a wa, t.whole) }
    completes link (Or P Q) fine ok ts (inl b) = let s : Completed (whole W2 P) ts = completes false P fine.0 ok.0 ts b in record { rest = s.rest; value = s.value; whole = inl s.whole }
    completes link (Or P Q) fine ok ts (inr b) = let s : Completed (whole W2 Q) ts = completes false Q fine.1 ok.1 ts b in record { rest = s.rest; value = s.value; whole = inr s.whole }
    completes link (Until P k) fine ok ts (inl b) =
        let s : Completed (whole W2 P) ts = completes false P fine.0 ok ts b in
        record { rest = s.rest ++ item_of k ∷ []; value = s.value; whole = (ts ++ s.rest, item_of k, sym (append_assoc ts s.rest (item_of k ∷ [])), refl, s.whole) }
    completes link (Until P k) fine ok ts (inr (xs, ys, a, e, wa, inl q)) =
        record { rest = item_of k ∷ []; value = a; whole = (xs, item_of k, rw (e, q, append-nil xs) refl, refl, whole_more P xs a wa) }
    completes link (Until P k) fine ok ts (inr (xs, ys, a, e, wa, inr (t, q, h))) =
        record { rest = []; value = a; whole = (xs, t, append-nil ts ∙ e ∙ ap (λ z. xs ++ z) q, h, whole_more P xs a wa) }
    completes link (Op g Q) fine (ok, (c, h, h')) ts (inl e) =
        let s : Completed (whole W2 Q) [] = some Q ok in record { rest = item_of c ∷ s.rest; value = (item_of c, s.value); whole = (s.rest, rw e refl, any_brace g c (brace_next s.rest) h h', s.whole) }
    completes link (Op g Q) fine (ok, _) ts (inr (t, us, e, h, b)) =
        let s : Completed (whole W2 Q) us = completes false Q fine.0 ok us b in
        record { rest = s.rest; value = (t, s.value); whole = (us ++ s.rest, rw e refl, ap (g t.class) (no_brace Q fine.0 fine.2 us s.rest s.value s.whole) ∙ h, s.whole) }
    completes link (Chain f P Q) fine ok ts (inl b) =
        let s : Completed (whole W2 P) ts = completes false P fine.0 ok.0 ts b in
        record { rest = s.rest; value = s.value; whole = (ts ++ s.rest, [], s.value, 0, sym (append-nil (ts ++ s.rest)), s.whole, (refl, refl)) }
    completes link (Chain f P Q) fine ok ts (inr (xs, us, vs, a, c, k, e, wa, l, b)) =
        let s : Completed (whole W2 Q) vs = completes true Q fine.1 ok.1 vs b in
        record {
          rest = s.rest;
          value = f c s.value;
          whole = (
            xs,
            us ++ (vs ++ s.rest),
            a,
            suc k,
            rw (e, append_assoc xs (us ++ vs) s.rest, append_assoc us vs s.rest) refl,
            whole_more P xs a wa,
            links_snoc f (whole W2 Q) k a us c (vs ++ s.rest) s.value (links_more f (whole W Q) (whole W2 Q) (whole_more Q) k a us c l) s.whole,
          );
        }

-- ---- a whole one begins

pub record Unsnoc {A B : Type 0} (f : A → B → A) (L : List Item → B → Type 0) (k : ℕ) (a : A) (ys : List Item) (c : A) : Type 0 where
  pub us : List Item
  pub vs : List Item
  pub before : A
  pub last : B
  pub is : ys ≡ us ++ vs
  pub linked : links f L k a us before
  pub item : L vs last

pub unsnoc : {A B : Type 0} (f : A → B → A) (L : List Item → B → Type 0) (k : ℕ) (a : A) (ys : List Item) (c : A) → links f L (suc k) a ys c → Unsnoc f L k a ys c
unsnoc f L zero a ys c (xs, zs, b, e, w, l) = record { us = []; vs = xs; before = a; last = b; is = rw (e, l.0) (append-nil xs); linked = (refl, refl); item = w }
unsnoc f L (suc k) a ys c (xs, zs, b, e, w, l) =
    let r : Unsnoc f L k (f a b) zs c = unsnoc f L k (f a b) zs c l in
    record { us = xs ++ r.us; vs = r.vs; before = r.before; last = r.last; is = e ∙ ap (λ z. xs ++ z) r.is ∙ sym (append_assoc xs r.us r.vs); linked = (xs, r.us, b, refl, w, r.linked); item = r.item }

module _ (W : Rel) (B : Front) (begun : (n : Part) (ts : List Item) (a : Of n) → W n ts a → B n ts) where
  chain_begins : {A X : Type 0} (f : A → X → A) (P : Form A) (Q : Form X) → ((ts : List Item) (a : A) → whole W P ts a → begins W B P ts) → ((ts : List Item) (a : X) → whole W Q ts a → begins W B Q ts)
      → (xs ys : List Item) (a c : A) (k : ℕ) (ts : List Item) → ts ≡ xs ++ ys → whole W P xs a → links f (whole W Q) k a ys c → begins W B (Chain f P Q) ts
  chain_begins f P Q bp bq xs ys a c zero ts e w l = inl (rw (e, l.0, append-nil xs) (bp xs a w))
  chain_begins f P Q bp bq xs ys a c (suc k) ts e w l =
      let u : Unsnoc f (whole W Q) k a ys c = unsnoc f (whole W Q) k a ys c l in
      inr (xs, u.us, u.vs, a, u.before, k, e ∙ ap (λ z. xs ++ z) u.is, w, u.linked, bq u.vs u.last u.item)

  pub whole_begins : {A : Type 0} (P : Form A) (ts : List Item) (a : A) → whole W P ts a → begins W B P ts
  whole_begins (Tok p) ts a w = inr (a, w.0, w.1)
  whole_begins (Empty d) ts a w = w.0
  whole_begins (Call n) ts a w = begun n ts a w
  whole_begins (Map f P) ts b (a, e, w) = whole_begins P ts a w
  whole_begins (Then f P Q) ts c (xs, ys, a, b, e, ec, wa, wb) = inr (xs, ys, a, e, wa, whole_begins Q ys b wb)
  whole_begins (Or P Q) ts a (inl w) = inl (whole_begins P ts a w)
  whole_begins (Or P Q) ts a (inr w) = inr (whole_begins Q ts a w)
  whole_begins (Until P k) ts a (xs, t, e, h, w) = inr (xs, t ∷ [], a, e, w, inr (t, refl, h))
  whole_begins (Op g Q) ts c (us, e, h, w) = inr (c.0, us, e, h, whole_begins Q us c.1 w)
  whole_begins (Chain f P Q) ts c (xs, ys, a, k, e, wa, l) = chain_begins f P Q (whole_begins P) (whole_begins Q) xs ys a c k ts e wa l
