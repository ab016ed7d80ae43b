-- What a form was read of can be written again: by the forms.
use Rattle.std.proofs.Common.{◌≡◌, ℕ, zero, suc, Bool, true, List, [], ◌∷◌, ◌++◌, Option, Some, None, refl, ap, sym, subst, ◌∙◌, inl, inr, append_assoc}
use Rattle.std.specs.Prelude.{codes}
use Rattle.std.proofs.lemmas.List.{append-nil}
use Rattle.bt_lexer.specs.declared.token.TokenKind.{TokenKind}
use Rattle.ast_text.specs.Words.{token}
use Rattle.bt_core.specs.declared.place.Place.{Place}
use Rattle.bt_grammar.specs.declared.class.Class.{Class}
use Rattle.bt_grammar.specs.declared.class.Class.TheVariants.{OpenParen, CloseParen, Comma, Dot}
use Rattle.bt_grammar.specs.Classes.{is_dot}
use Rattle.bt_grammar.specs.Form.{Item, brace_next, Form, Tok, Empty, Map, Then, Or, Until, Op, Chain, Rel, links, whole}
use Rattle.bt_grammar.specs.Tokens.{class_of}
use Rattle.bt_grammar.specs.Words.{word_class, mark_class}
use Rattle.bt_grammar.specs.Trees.{pair, second}
use Rattle.bt_grammar.specs.Rules.{mark, optional, in_parens, after_comma}
use Rattle.bt_grammar.proofs.AllClasses.{is_same, is_refl}
use Rattle.read_back_laws.proofs.Lexemes.{lexeme, written, written_append, AllValid, valid_append, Honest, honest_front, honest_back, Are, are_split}
use Rattle.read_back_laws.proofs.LexemesKinds.{sound_valid}
use Rattle.read_back_laws.proofs.CanonicalWeights.{Shallow, shallow_nothing, shallow_both, shallow_token, shallow_one, dot_shallow}
use Rattle.read_back_laws.proofs.LexemesFixed.{kind_of, is_fixed, fixed_class, fixed_valid}

-- what holds of a tree, its text, and the tree that is read again
abbrev pub Back : Type 0 → Type 1
Back A = A → List ℕ → A → Type 0

-- kinds that write the tree, nested no deeper than the items it was read of, and of whatever items of these kinds it is read again
abbrev pub Again : {A : Type 0} → Rel → Form A → Back A → List Item → A → Type 0
Again {A = A} R P V ts a = (ks : List TokenKind) × AllValid ks × Shallow ts ks × ((us : List Item) → Are ks us → (b : A) × whole R P us b × V a (written ks) b)

-- each tree that the form has of tokens of a text can be written and read again
pub record Lift (R : Rel) {A : Type 0} (P : Form A) (V : Back A) : Type 0 where
  pub lift : (ts : List Item) (a : A) → Honest ts → whole R P ts a → Again R P V ts a

-- ---- relations

-- the text and the tree without places
abbrev pub Same : {A : Type 0} → (A → List ℕ) → (A → A) → Back A
Same text bare a x b = (x ≡ text a) × (bare b ≡ bare a)

-- behind and before some bytes
abbrev pub Behind : {A : Type 0} → List ℕ → Back A → Back A
Behind bytes V a x b = (y : List ℕ) × (x ≡ bytes ++ y) × V a y b

abbrev pub Before : {A : Type 0} → List ℕ → Back A → Back A
Before bytes V a x b = (y : List ℕ) × (x ≡ y ++ bytes) × V a y b

abbrev pub Parens : {A : Type 0} → Back A → Back A
Parens V a x b = (y : List ℕ) × (x ≡ token (codes "(") ++ (y ++ token (codes ")"))) × V a y b

abbrev pub Both : {A B : Type 0} → Back A → Back B → Back (A × B)
Both V W a x b = (y z : List ℕ) × (x ≡ y ++ z) × V a.0 y b.0 × W a.1 z b.1

abbrev pub Maybe : {A : Type 0} → Back A → Back (Option A)
Maybe V None x b = (x ≡ []) × (b ≡ None)
Maybe {A = A} V (Some a) x b = (c : A) × (b ≡ Some c) × V a x c

-- a token that is kept as it is
abbrev pub Kept : (Class → Bool) → Back Item
Kept p t x u = (x ≡ lexeme t.kind) × (u.kind ≡ t.kind) × (u.class ≡ t.class) × (t.class ≡ class_of t.kind) × (p t.class ≡ true)

-- a token of a class that has one word or mark
abbrev pub Fixed : (Class → Bool) → Back Item
Fixed p t x u = (x ≡ lexeme (kind_of t.class)) × (u.class ≡ t.class) × (p t.class ≡ true)

abbrev pub Marked : List ℕ → Back Place
Marked bytes a x b = x ≡ bytes

abbrev pub Op-back : {B : Type 0} → (Class → Bool) → Back B → Back (Item × B)
Op-back p V a x b = (y : List ℕ) × (x ≡ lexeme (kind_of a.0.class) ++ y) × (b.0.class ≡ a.0.class) × (p a.0.class ≡ true) × V a.1 y b.1

-- ---- one item

pub one_item : (k : TokenKind) (us : List Item) → Are (k ∷ []) us → (u : Item) × (us ≡ u ∷ []) × (u.kind ≡ k) × (u.class ≡ class_of k)
one_item k us (u, r, e, ek, ec, er) = (u, e ∙ ap (λ (z : List Item). u ∷ z) er, ek, ec)

pub written_one : (k : TokenKind) → written (k ∷ []) ≡ lexeme k
written_one k = append-nil (lexeme k)

module _ (R : Rel) where
  pub lift_kept : (p : Class → Bool) → Lift R (Tok p) (Kept p)
  lift_kept p = record { lift = go }
    where
      again : (t : Item) → Honest (t ∷ []) → p t.class ≡ true → Again R (Tok p) (Kept p) (t ∷ []) t
      again t h q = (
        t.kind ∷ [],
        (sound_valid t.kind h.1, tt),
        shallow_token t t.kind (sym h.0),
        λ us are.
            let (u, e, ek, ec) = one_item t.kind us are in
            let same : u.class ≡ t.class = ec ∙ sym h.0 in
            (u, (e, ap p same ∙ q), (written_one t.kind, ek, same, h.0, q)),
      )

      go : (ts : List Item) (a : Item) → Honest ts → whole R (Tok p) ts a → Again R (Tok p) (Kept p) ts a
      go ts a h (e, q) = subst (λ (l : List Item). Again R (Tok p) (Kept p) l a) (sym e) (again a (subst Honest e h) q)

  pub lift_fixed : (p : Class → Bool) → ((c : Class) → p c ≡ true → is_fixed c ≡ true) → Lift R (Tok p) (Fixed p)
  lift_fixed p all = record { lift = go }
    where
      go : (ts : List Item) (a : Item) → Honest ts → whole R (Tok p) ts a → Again R (Tok p) (Fixed p) ts a
      go ts a h (e, q) = let f = all a.class q in (
        kind_of a.class ∷ [],
        (fixed_valid a.class f, tt),
        shallow_one a ts (kind_of a.class) e (fixed_class a.class f),
        λ us are.
            let (u, e', ek, ec) = one_item (kind_of a.class) us are in
            let same : u.class ≡ a.class = ec ∙ fixed_class a.class f in
            (u, (e', ap p same ∙ q), (written_one (kind_of a.class), same, q)),
      )

  -- a token of the class, for its place
  pub lift_mark : (c : Class) → is_fixed c ≡ true → Lift R (mark c) (Marked (lexeme (kind_of c)))
  lift_mark c f = record { lift = go }
    where
      go : (ts : List Item) (a : Place) → Honest ts → whole R (mark c) ts a → Again R (mark c) (Marked (lexeme (kind_of c))) ts a
      go ts a h (t, ea, (e', q)) = (
        kind_of c ∷ [],
        (fixed_valid c f, tt),
        shallow_one t ts (kind_of c) e' (fixed_class c f ∙ sym (is_same c t.class q)),
        λ us are.
            let (u, e, ek, ec) = one_item (kind_of c) us are in
            (u.place, (u, refl, (e, is_refl c u.class (ec ∙ fixed_class c f))), written_one (kind_of c)),
      )

  -- ---- forms of forms

  pub lift_empty : {A : Type 0} (d : A) {V : Back A} → V d [] d → Lift R (Empty d) V
  lift_empty {A} d {V} v = record { lift = go }
    where
      go : (ts : List Item) (a : A) → Honest ts → whole R (Empty d) ts a → Again R (Empty d) V ts a
      go ts a h (e, q) = ([], tt, subst (λ (l : List Item). Shallow l []) (sym e) shallow_nothing, λ us are. (d, (are, refl), subst (λ (z : A). V z [] d) (sym q) v))

  pub lift_map : {A B : Type 0} {f : A → B} {P : Form A} {V : Back A} {W : Back B} → Lift R P V
      → ((a b : A) (x : List ℕ) → V a x b → W (f a) x (f b)) → Lift R (Map f P) W
  lift_map {A} {B} {f} {P} {V} {W} p step = record { lift = go }
    where
      go : (ts : List Item) (c : B) → Honest ts → whole R (Map f P) ts c → Again R (Map f P) W ts c
      go ts c h (a, e, w) = let (ks, v, s, again) = p.lift ts a h w in (
        ks,
        v,
        s,
        λ us are. let (b, w', r) = again us are in
            (f b, (b, refl, w'), subst (λ (z : B). W z (written ks) (f b)) (sym e) (step a b (written ks) r)),
      )

  pub lift_then : {A B C : Type 0} {f : A → B → C} {P : Form A} {Q : Form B} {V : Back A} {W : Back B} {X : Back C} → Lift R P V → Lift R Q W
      → ((a a' : A) (b b' : B) (x y : List ℕ) → V a x a' → W b y b' → X (f a b) (x ++ y) (f a' b')) → Lift R (Then f P Q) X
  lift_then {A} {B} {C} {f} {P} {Q} {V} {W} {X} p q step = record { lift = go }
    where
      go : (ts : List Item) (c : C) → Honest ts → whole R (Then f P Q) ts c → Again R (Then f P Q) X ts c
      go ts c h (xs, ys, a, b, e, ec, wa, wb) =
          let h' : Honest (xs ++ ys) = subst Honest e h in
          let (ks, v, s, again) = p.lift xs a (honest_front xs ys h') wa in
          let (ls, v', s', again') = q.lift ys b (honest_back xs ys h') wb in (
            ks ++ ls,
            valid_append ks ls v v',
            shallow_both xs ys ts ks ls e s s',
            λ us are.
                let (us1, us2, eu, are1, are2) = are_split ks ls us are in
                let (a', wa', ra) = again us1 are1 in
                let (b', wb', rb) = again' us2 are2 in (
                  f a' b',
                  (us1, us2, a', b', eu, refl, wa', wb'),
                  subst (λ (z : C). X z (written (ks ++ ls)) (f a' b')) (sym ec)
                      (subst (λ (z : List ℕ). X (f a b) z (f a' b')) (sym (written_append ks ls)) (step a a' b b' (written ks) (written ls) ra rb)),
                ),
          )

  pub lift_or : {A : Type 0} {P Q : Form A} {V : Back A} → Lift R P V → Lift R Q V → Lift R (Or P Q) V
  lift_or {A} {P} {Q} {V} p q = record { lift = go }
    where
      go : (ts : List Item) (a : A) → Honest ts → whole R (Or P Q) ts a → Again R (Or P Q) V ts a
      go ts a h (inl w) = let (ks, v, s, again) = p.lift ts a h w in
          (ks, v, s, λ us are. let (b, w', r) = again us are in (b, inl w', r))
      go ts a h (inr w) = let (ks, v, s, again) = q.lift ts a h w in
          (ks, v, s, λ us are. let (b, w', r) = again us are in (b, inr w', r))

  pub lift_until : {A : Type 0} {P : Form A} {V : Back A} (c : Class) → is_fixed c ≡ true → Lift R P V → Lift R (Until P c) (Before (lexeme (kind_of c)) V)
  lift_until {A} {P} {V} c f p = record { lift = go }
    where
      go : (ts : List Item) (a : A) → Honest ts → whole R (Until P c) ts a → Again R (Until P c) (Before (lexeme (kind_of c)) V) ts a
      go ts a h (xs, t, e, ec, w) =
          let (ks, v, s, again) = p.lift xs a (honest_front xs (t ∷ []) (subst Honest e h)) w in (
            ks ++ kind_of c ∷ [],
            valid_append ks (kind_of c ∷ []) v (fixed_valid c f, tt),
            shallow_both xs (t ∷ []) ts ks (kind_of c ∷ []) e s (shallow_token t (kind_of c) (fixed_class c f ∙ sym ec)),
            λ us are.
                let (us1, us2, eu, are1, are2) = are_split ks (kind_of c ∷ []) us are in
                let (b, w', r) = again us1 are1 in
                let (u, e', ek, ec') = one_item (kind_of c) us2 are2 in (
                  b,
                  (us1, u, eu ∙ ap (λ (z : List Item). us1 ++ z) e', ec' ∙ fixed_class c f, w'),
                  (written ks, written_append ks (kind_of c ∷ []) ∙ ap (λ (z : List ℕ). written ks ++ z) (written_one (kind_of c)), r),
                ),
          )

  -- an operator that may depend on whether a brace comes next, where no brace does in what is read again
  pub lift_op : {B : Type 0} {g : Class → Bool → Bool} {Q : Form B} {V : Back B} (p : Class → Bool) → ((c : Class) (b : Bool) → g c b ≡ true → p c ≡ true)
      → ((c : Class) → p c ≡ true → is_fixed c ≡ true) → ((c : Class) (b : Bool) (us : List Item) (v : B) → g c b ≡ true → whole R Q us v → g c (brace_next us) ≡ true)
      → Lift R Q V → Lift R (Op g Q) (Op-back p V)
  lift_op {B} {g} {Q} {V} p some all still q = record { lift = go }
    where
      go : (ts : List Item) (a : Item × B) → Honest ts → whole R (Op g Q) ts a → Again R (Op g Q) (Op-back p V) ts a
      go ts a h (us, e, hg, w) =
          let (ks, v, s, again) = q.lift us a.1 (honest_back (a.0 ∷ []) us (subst Honest e h)) w in
          let pc : p a.0.class ≡ true = some a.0.class (brace_next us) hg in
          let f : is_fixed a.0.class ≡ true = all a.0.class pc in (
            kind_of a.0.class ∷ ks,
            (fixed_valid a.0.class f, v),
            shallow_both (a.0 ∷ []) us ts (kind_of a.0.class ∷ []) ks e (shallow_token a.0 (kind_of a.0.class) (fixed_class a.0.class f)) s,
            λ us' are.
                let (u, r, eu, ek, ec, are') = are in
                let (b, w', rb) = again r are' in
                let same : u.class ≡ a.0.class = ec ∙ fixed_class a.0.class f in (
                  (u, b),
                  (r, eu, ap (λ (z : Class). g z (brace_next r)) same ∙ still a.0.class (brace_next us) r b hg w', w'),
                  (written ks, refl, same, pc, rb),
                ),
          )

  -- ---- repetitions

  abbrev Links : {A B : Type 0} (f : A → B → A) (Q : Form B) (V : Back A) → ℕ → List Item → A → A → Type 0
  Links {A = A} f Q V k ts a c = (ks : List TokenKind) × AllValid ks × Shallow ts ks × ((us : List Item) (a' : A) (x : List ℕ) → Are ks us → V a x a' → (c' : A) × links f (whole R Q) k a' us c' × V c (x ++ written ks) c')

  lift_links : {A B : Type 0} (f : A → B → A) (Q : Form B) (V : Back A) (W : Back B) → Lift R Q W
      → ((a a' : A) (b b' : B) (x y : List ℕ) → V a x a' → W b y b' → V (f a b) (x ++ y) (f a' b'))
      → (k : ℕ) (ts : List Item) (a c : A) → Honest ts → links f (whole R Q) k a ts c → Links f Q V k ts a c
  lift_links {A = A} f Q V W q step zero ts a c h (e, e') = (
    [],
    tt,
    subst (λ (l : List Item). Shallow l []) (sym e) shallow_nothing,
    λ us a' x are r.
        (a', (are, refl), subst (λ (z : A). V z (x ++ []) a') (sym e') (subst (λ (z : List ℕ). V a z a') (sym (append-nil x)) r)),
  )
  lift_links f Q V W q step (suc k) ts a c h (us, vs, b, e, w, l) =
      let h' : Honest (us ++ vs) = subst Honest e h in
      let (ks, v, s, again) = q.lift us b (honest_front us vs h') w in
      let (ls, v', s', again') = lift_links f Q V W q step k vs (f a b) c (honest_back us vs h') l in (
        ks ++ ls,
        valid_append ks ls v v',
        shallow_both us vs ts ks ls e s s',
        λ ts' a' x are r.
            let (us1, us2, eu, are1, are2) = are_split ks ls ts' are in
            let (b', w', rb) = again us1 are1 in
            let (c', l', rc) = again' us2 (f a' b') (x ++ written ks) are2 (step a a' b b' x (written ks) r rb) in
            (c', (us1, us2, b', eu, w', l'), subst (λ (z : List ℕ). V c z c') (append_assoc x (written ks) (written ls) ∙ ap (λ (z : List ℕ). x ++ z) (sym (written_append ks ls))) rc),
      )

  pub lift_chain : {A B : Type 0} {f : A → B → A} {P : Form A} {Q : Form B} {V : Back A} {W : Back B} → Lift R P V → Lift R Q W
      → ((a a' : A) (b b' : B) (x y : List ℕ) → V a x a' → W b y b' → V (f a b) (x ++ y) (f a' b')) → Lift R (Chain f P Q) V
  lift_chain {A} {B} {f} {P} {Q} {V} {W} p q step = record { lift = go }
    where
      go : (ts : List Item) (c : A) → Honest ts → whole R (Chain f P Q) ts c → Again R (Chain f P Q) V ts c
      go ts c h (xs, ys, a, k, e, w, l) =
          let h' : Honest (xs ++ ys) = subst Honest e h in
          let (ks, v, s, again) = p.lift xs a (honest_front xs ys h') w in
          let (ls, v', s', again') = lift_links f Q V W q step k ys a c (honest_back xs ys h') l in (
            ks ++ ls,
            valid_append ks ls v v',
            shallow_both xs ys ts ks ls e s s',
            λ us are.
                let (us1, us2, eu, are1, are2) = are_split ks ls us are in
                let (a', w', ra) = again us1 are1 in
                let (c', l', rc) = again' us2 a' (written ks) are2 ra in
                (c', (us1, us2, a', k, eu, w', l'), subst (λ (z : List ℕ). V c z c') (sym (written_append ks ls)) rc),
          )

  -- ---- forms that the rules name

  pub lift_as : {A : Type 0} {P : Form A} {V W : Back A} → Lift R P V → ((a b : A) (x : List ℕ) → V a x b → W a x b) → Lift R P W
  lift_as {A} {P} {V} {W} p h = record { lift = go }
    where
      go : (ts : List Item) (a : A) → Honest ts → whole R P ts a → Again R P W ts a
      go ts a honest w = let (ks, v, s, again) = p.lift ts a honest w in
          (ks, v, s, λ us are. let (b, w', r) = again us are in (b, w', h a b (written ks) r))

  -- `.` or `->`, which is written as `.`
  pub lift_dot : Lift R (Tok is_dot) (λ t x u. x ≡ token (codes "."))
  unfolding word_class mark_class
  lift_dot = record { lift = go }
    where
      go : (ts : List Item) (a : Item) → Honest ts → whole R (Tok is_dot) ts a → Again R (Tok is_dot) (λ t x u. x ≡ token (codes ".")) ts a
      go ts a h w = (
        kind_of Dot ∷ [],
        (fixed_valid Dot refl, tt),
        subst (λ (l : List Item). Shallow l (kind_of Dot ∷ [])) (sym w.0) (dot_shallow a.class w.1),
        λ us are.
            let (u, e, ek, ec) = one_item (kind_of Dot) us are in
            (u, (e, ap is_dot ec), written_one (kind_of Dot)),
      )

  pub lift_optional : {A : Type 0} {P : Form A} {V : Back A} → Lift R P V → Lift R (optional P) (Maybe V)
  lift_optional p = lift_or (lift_map p (λ a b x r. (b, refl, r))) (lift_empty None (refl, refl))

  pub lift_pair : {A B : Type 0} {P : Form A} {Q : Form B} {V : Back A} {W : Back B} → Lift R P V → Lift R Q W → Lift R (Then pair P Q) (Both V W)
  lift_pair p q = lift_then p q (λ a a' b b' x y r s. (x, y, refl, r, s))

  -- behind a mark
  pub lift_second : {A : Type 0} {P : Form A} {V : Back A} (c : Class) → is_fixed c ≡ true → Lift R P V → Lift R (Then second (mark c) P) (Behind (lexeme (kind_of c)) V)
  lift_second c f p = lift_then (lift_mark c f) p (λ a a' b b' x y r s. (y, ap (λ (z : List ℕ). z ++ y) r, s))

  pub lift_parens : {A : Type 0} {P : Form A} {V : Back A} → Lift R P V → Lift R (in_parens P) (Parens V)
  lift_parens p = lift_then (lift_mark OpenParen refl) (lift_until CloseParen refl p) (λ a a' b b' x y r s. (s.0, rw (r, s.1) refl, s.2))

  pub lift_comma : {A : Type 0} {P : Form A} {V : Back A} → Lift R P V → Lift R (after_comma P) (Behind (lexeme (kind_of Comma)) V)
  lift_comma p = lift_second Comma refl p
