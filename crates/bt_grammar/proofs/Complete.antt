-- A whole is read, if what follows does not go on with it.
use Rattle.std.proofs.Common.{◌≡◌, ℕ, zero, suc, Bool, true, false, ◌||◌, ◌&&◌, List, [], ◌∷◌, ◌++◌, Option, Some, None, length, refl, sym, ◌∙◌, ap, subst, inl, inr, append_assoc, arith, ◌<◌, length-append}
use Rattle.std.specs.Prelude.{if◌then◌else◌, not}
use Rattle.bt_grammar.specs.declared.class.Class.{Class}
use Rattle.bt_grammar.specs.Classes.{is}
use Rattle.bt_grammar.proofs.AllClasses.{is_refl}
use Rattle.bt_grammar.specs.Form.{brace_next, Item, Part, Of, Form, Tok, Empty, Call, Map, Then, Or, Until, Op, Chain, Rel, links, whole}
use Rattle.bt_grammar.specs.Fine.{FineAt}
use Rattle.bt_grammar.specs.Tables.{nul, fst_of, stops_of, free}
use Rattle.bt_grammar.specs.Reading.{nullable, first, stops, brace_head, Out, Done, Reader, starts, rest_of, loop, read}
use Rattle.bt_grammar.proofs.Sound.{null_sound, loop_stop, or_left, or_right, and_parts, brace_front}

abbrev pub head_class : List Item → Option Class
head_class [] = None
head_class (t ∷ r) = Some t.class

-- a form ends before the tokens
abbrev pub Ends : {A : Type 0} → Form A → List Item → Type 0
Ends P r = stops P (head_class r) (brace_next (rest_of r)) ≡ true

pub not_true : (b : Bool) → (b ≡ true → ⊥) → b ≡ false
not_true true h = absurd (h refl)
not_true false h = refl

not_false : (b : Bool) → not b ≡ true → b ≡ false
not_false true h = cc (h)
not_false false h = refl

implied : (a b : Bool) → (not a || b) ≡ true → a ≡ true → b ≡ true
implied true b h e = h
implied false b h e = cc (e)

pub free_starts : (p : Class → Bool → Bool) (r : List Item) → free p (head_class r) (brace_next (rest_of r)) ≡ true → starts p r ≡ false
free_starts p [] h = refl
free_starts p (t ∷ r) h = not_false (p t.class (brace_next r)) h

pub head_brace : (r : List Item) → brace_head (head_class r) ≡ brace_next r
head_brace [] = refl
head_brace (t ∷ r) = refl

-- a form that may be empty may begin with what comes after it
if_first : (n a b : Bool) → a ≡ true → (if n then a || b else a) ≡ true
if_first true a b h = or_left a b h
if_first false a b h = h

if_second : (n a b : Bool) → n ≡ true → b ≡ true → (if n then a || b else a) ≡ true
if_second true a b e h = or_right a b h
if_second false a b e h = cc (e)

-- P ends before the tokens ys ++ r, where they begin with a token that q passes, or where it ends before r
Ends-before : {A : Type 0} (P : Form A) (q : Class → Bool → Bool) (ys r : List Item) → ((c : Class) (b : Bool) → q c b ≡ true → stops P (Some c) b ≡ true)
    → ((v : Item) (vs : List Item) → ys ≡ v ∷ vs → q v.class (brace_next (vs ++ r)) ≡ true) → (ys ≡ [] → Ends P r) → Ends P (ys ++ r)
Ends-before P q [] r apart head rest = rest refl
Ends-before P q (v ∷ ys) r apart head rest = apart v.class (brace_next (ys ++ r)) (head v ys refl)

module _ (W : Rel) (Wnull : (n : Part) (a : Of n) → W n [] a → nul n ≡ true) (Wfirst : (n : Part) (t : Item) (ts : List Item) (a : Of n) → W n (t ∷ ts) a → fst_of n t.class ≡ true) where
  pub links_head : {A B : Type 0} (f : A → B → A) (p : Class → Bool → Bool) (L : List Item → B → Type 0)
      (none : (b : B) → L [] b → ⊥) (head : (t : Item) (ts : List Item) (b : B) → L (t ∷ ts) b → (r : List Item) → p t.class (brace_next (ts ++ r)) ≡ true)
      (k : ℕ) (a c : A) (ys : List Item) → links f L k a ys c → (v : Item) (vs : List Item) → ys ≡ v ∷ vs → (r : List Item) → p v.class (brace_next (vs ++ r)) ≡ true
  links_head f p L none head zero a c ys l v vs e r = cc (l.0)
  links_head f p L none head (suc k) a c ys ([], vs', b, is, w, l) v vs e r = absurd (none b w)
  links_head f p L none head (suc k) a c ys (u ∷ us, vs', b, is, w, l) v vs e r =
      let q : u ≡ v = cc in
      let q' : us ++ vs' ≡ vs = cc in
      let h : p u.class (brace_next (us ++ (vs' ++ r))) ≡ true = head u us b w (vs' ++ r) in
      let h' : p u.class (brace_next ((us ++ vs') ++ r)) ≡ true = ap (λ z. p u.class (brace_next z)) (append_assoc us vs' r) ∙ h in
      subst (λ z. p z.class (brace_next (vs ++ r)) ≡ true) q (subst (λ z. p u.class (brace_next (z ++ r)) ≡ true) q' h')

  pub first_sound : {A : Type 0} (link : Bool) (P : Form A) → FineAt link P → (t : Item) (ts : List Item) (a : A) → whole W P (t ∷ ts) a → (r : List Item) → first P t.class (brace_next (ts ++ r)) ≡ true
  first_sound link (Tok p) ok t ts a w r = let e : t ≡ a = cc (w.0) in subst (λ z. p z.class ≡ true) (sym e) w.1
  first_sound link (Empty d) ok t ts a w r = cc (w.0)
  first_sound link (Call n) ok t ts a w r = Wfirst n t ts a w
  first_sound link (Map f P) ok t ts b (a, e, w) r = first_sound false P ok t ts a w r
  first_sound link (Then f P Q) ok t ts c ([], ys, a, b, e, ec, wa, wb) r =
      if_second (nullable P) (first P t.class (brace_next (ts ++ r))) (first Q t.class (brace_next (ts ++ r))) (null_sound W Wnull P a wa) (first_sound false Q ok.1 t ts b (rw (← e) at wb) r)
  first_sound link (Then f P Q) ok t ts c (x ∷ xs, ys, a, b, e, ec, wa, wb) r =
      let q : x ≡ t = cc in
      let q' : xs ++ ys ≡ ts = cc in
      let h : first P x.class (brace_next (xs ++ (ys ++ r))) ≡ true = first_sound false P ok.0 x xs a wa (ys ++ r) in
      let h' : first P x.class (brace_next ((xs ++ ys) ++ r)) ≡ true = ap (λ z. first P x.class (brace_next z)) (append_assoc xs ys r) ∙ h in
      if_first (nullable P) (first P t.class (brace_next (ts ++ r))) (first Q t.class (brace_next (ts ++ r))) (subst (λ z. first P z.class (brace_next (ts ++ r)) ≡ true) q (subst (λ z. first P x.class (brace_next (z ++ r)) ≡ true) q' h'))
  first_sound link (Or P Q) ok t ts a (inl w) r = or_left (first P t.class (brace_next (ts ++ r))) _ (first_sound false P ok.0 t ts a w r)
  first_sound link (Or P Q) ok t ts a (inr w) r = or_right (first P t.class (brace_next (ts ++ r))) _ (first_sound false Q ok.1 t ts a w r)
  first_sound link (Until P k) ok t ts a ([], u, e, h, w) r =
      let q : u ≡ t = cc in if_second (nullable P) (first P t.class (brace_next (ts ++ r))) (is k t.class) (null_sound W Wnull P a w) (is_refl k t.class (subst (λ z. z.class ≡ k) q h))
  first_sound link (Until P k) ok t ts a (x ∷ xs, u, e, h, w) r =
      let q : x ≡ t = cc in
      let q' : xs ++ u ∷ [] ≡ ts = cc in
      let g : first P x.class (brace_next (xs ++ (u ∷ r))) ≡ true = first_sound false P ok.0 x xs a w (u ∷ r) in
      let g' : first P x.class (brace_next ((xs ++ u ∷ []) ++ r)) ≡ true = ap (λ z. first P x.class (brace_next z)) (append_assoc xs (u ∷ []) r) ∙ g in
      if_first (nullable P) (first P t.class (brace_next (ts ++ r))) (is k t.class) (subst (λ z. first P z.class (brace_next (ts ++ r)) ≡ true) q (subst (λ z. first P x.class (brace_next (z ++ r)) ≡ true) q' g'))
  first_sound link (Op g Q) ok t ts c (us, e, h, w) r =
      let q : c.0 ≡ t = cc in
      let q' : us ≡ ts = cc in
      let some : us ≡ [] → ⊥ = λ z. let n : nullable Q ≡ true = null_sound W Wnull Q c.1 (subst (λ x. whole W Q x c.1) z w) in cc (n, ok.1) in
      let h' : g c.0.class (brace_next (us ++ r)) ≡ true = ap (g c.0.class) (brace_front us r some) ∙ h in
      subst (λ z. g z.class (brace_next (ts ++ r)) ≡ true) q (subst (λ z. g c.0.class (brace_next (z ++ r)) ≡ true) q' h')
  first_sound link (Chain {B = X} f P Q) ok t ts c ([], ys, a, k, e, wa, l) r =
      let none : (b : X) → whole W Q [] b → ⊥ = λ b w. let h : nullable Q ≡ true = null_sound W Wnull Q b w in cc (h, ok.2) in
      if_second (nullable P) (first P t.class (brace_next (ts ++ r))) (first Q t.class (brace_next (ts ++ r))) (null_sound W Wnull P a wa) (links_head f (first Q) (whole W Q) none (first_sound true Q ok.1) k a c ys l t ts (sym e) r)
  first_sound link (Chain f P Q) ok t ts c (x ∷ xs, ys, a, k, e, wa, l) r =
      let q : x ≡ t = cc in
      let q' : xs ++ ys ≡ ts = cc in
      let h : first P x.class (brace_next (xs ++ (ys ++ r))) ≡ true = first_sound false P ok.0 x xs a wa (ys ++ r) in
      let h' : first P x.class (brace_next ((xs ++ ys) ++ r)) ≡ true = ap (λ z. first P x.class (brace_next z)) (append_assoc xs ys r) ∙ h in
      if_first (nullable P) (first P t.class (brace_next (ts ++ r))) (first Q t.class (brace_next (ts ++ r))) (subst (λ z. first P z.class (brace_next (ts ++ r)) ≡ true) q (subst (λ z. first P x.class (brace_next (z ++ r)) ≡ true) q' h'))

  -- the links that follow are read to their end
  module _ {A B : Type 0} (f : A → B → A) (p : Class → Bool → Bool) (Q : Form B) (L : List Item → B → Type 0) (rd : List Item → Out B)
      (none : (b : B) → L [] b → ⊥) (head : (t : Item) (ts : List Item) (b : B) → L (t ∷ ts) b → (r : List Item) → p t.class (brace_next (ts ++ r)) ≡ true)
      (apart : (c : Class) (b : Bool) → p c b ≡ true → stops Q (Some c) b ≡ true)
      (item : (xs : List Item) (b : B) (r : List Item) → L xs b → Ends Q r → rd (xs ++ r) ≡ Done b r) where
    pub turn_only : (us vs : List Item) (a c : A) (b : B) (r : List Item) (fuel : ℕ) → L us b → rd (us ++ (vs ++ r)) ≡ Done b (vs ++ r)
        → ((k : ℕ) → length (vs ++ r) < k → loop f p rd k (f a b) (vs ++ r) ≡ Done c r)
        → length ((us ++ vs) ++ r) < fuel → loop f p rd fuel a ((us ++ vs) ++ r) ≡ Done c r
    turn_only [] vs a c b r fuel w d rest l = absurd (none b w)
    turn_only (u ∷ us) vs a c b r zero w d rest l = absurd (omega arith)
    turn_only (u ∷ us) vs a c b r (suc k) w d rest l =
        let e : ((u ∷ us) ++ vs) ++ r ≡ (u ∷ us) ++ (vs ++ r) = append_assoc (u ∷ us) vs r in
        let h : p u.class (brace_next (us ++ (vs ++ r))) ≡ true = head u us b w (vs ++ r) in
        subst (λ z. loop f p rd (suc k) a z ≡ Done c r) (sym e) (rw (h, d) (rest k (omega (arith, length-append us vs, length-append (us ++ vs) r, length-append vs r))))

    pub loop_only : (k : ℕ) (a c : A) (ys r : List Item) (fuel : ℕ) → links f L k a ys c → starts p r ≡ false → Ends Q r → length (ys ++ r) < fuel
        → loop f p rd fuel a (ys ++ r) ≡ Done c r
    loop_only zero a c ys r fuel l sp sq fits = rw (l.0, l.1) (loop_stop f p rd fuel a r sp)
    loop_only (suc k) a c ys r fuel (us, vs, b, is, w, l) sp sq fits =
        let next : Ends Q (vs ++ r) = Ends-before Q p vs r apart (λ v vs' e. links_head f p L none head k (f a b) c vs l v vs' e r) (λ _. sq) in
        rw is (turn_only us vs a c b r fuel w (item us b (vs ++ r) w next) (λ k' fits'. loop_only k (f a b) c vs r k' l sp sq fits')
        (subst (λ z. length (z ++ r) < fuel) is fits))

  module _ (R : Reader) (Ronly : (n : Part) (xs : List Item) (a : Of n) (r : List Item) → W n xs a → stops_of n (head_class r) (brace_next (rest_of r)) ≡ true → R n (xs ++ r) ≡ Done a r) where
    pub only : {A : Type 0} (link : Bool) (P : Form A) → FineAt link P → (xs : List Item) (a : A) (r : List Item) → whole W P xs a → Ends P r → read R P (xs ++ r) ≡ Done a r
    only link (Tok p) ok xs a r w s = rw (w.0, w.1) refl
    only link (Empty d) ok xs a r w s = rw (w.0, w.1) refl
    only link (Call n) ok xs a r w s = Ronly n xs a r w s
    only link (Map f P) ok xs b r (a, e, w) s = rw (only false P ok xs a r w s, e) refl
    only link (Then f P Q) ok xs c r (us, vs, a, b, e, ec, wa, wb) s =
        let parts : (stops Q (head_class r) (brace_next (rest_of r)) ≡ true) × ((not (nullable Q) || stops P (head_class r) (brace_next (rest_of r))) ≡ true) = and_parts _ _ s in
        let sp : Ends P (vs ++ r) = Ends-before P (first Q) vs r ok.2 (λ v vs' q. first_sound false Q ok.1 v vs' b (subst (λ z. whole W Q z b) q wb) r)
        (λ q. implied (nullable Q) _ parts.1 (null_sound W Wnull Q b (subst (λ z. whole W Q z b) q wb))) in
        rw (e, append_assoc us vs r, only false P ok.0 us a (vs ++ r) wa sp, only false Q ok.1 vs b r wb parts.0, ec) refl
    only link (Or P Q) ok [] a r (inl w) s = let h : nullable P ≡ true = null_sound W Wnull P a w in cc (h, ok.2)
    only link (Or P Q) ok (x ∷ xs) a r (inl w) s =
        let h : first P x.class (brace_next (xs ++ r)) ≡ true = first_sound false P ok.0 x xs a w r in
        rw h (only false P ok.0 (x ∷ xs) a r w ((and_parts (stops P (head_class r) (brace_next (rest_of r))) _ s).0))
    only link (Or P Q) ok [] a r (inr w) s =
        let rest : (stops Q (head_class r) (brace_next (rest_of r)) ≡ true) × ((not (nullable Q) || free (first P) (head_class r) (brace_next (rest_of r))) ≡ true) = and_parts _ _ ((and_parts (stops P (head_class r) (brace_next (rest_of r))) _ s).1) in
        let h : starts (first P) r ≡ false = free_starts (first P) r (implied (nullable Q) _ rest.1 (null_sound W Wnull Q a w)) in
        rw h (only false Q ok.1 [] a r w rest.0)
    only link (Or P Q) ok (x ∷ xs) a r (inr w) s =
        let rest : (stops Q (head_class r) (brace_next (rest_of r)) ≡ true) × ((not (nullable Q) || free (first P) (head_class r) (brace_next (rest_of r))) ≡ true) = and_parts _ _ ((and_parts (stops P (head_class r) (brace_next (rest_of r))) _ s).1) in
        let q : first Q x.class (brace_next (xs ++ r)) ≡ true = first_sound false Q ok.1 x xs a w r in
        let h : first P x.class (brace_next (xs ++ r)) ≡ false = not_true _ (λ h. ok.3 x.class (brace_next (xs ++ r)) h q) in
        rw h (only false Q ok.1 (x ∷ xs) a r w rest.0)
    only link (Until P k) ok xs a r (us, t, e, h, w) s =
        let sp : Ends P (t ∷ r) = subst (λ z. stops P (Some z) (brace_next r) ≡ true) (sym h) (subst (λ z. stops P (Some k) z ≡ true) (head_brace r) s) in
        let hk : is k t.class ≡ true = is_refl k t.class h in
        rw (e, append_assoc us (t ∷ []) r, only false P ok.0 us a (t ∷ r) w sp, hk) refl
    only link (Op g Q) ok xs c r (us, e, h, w) s =
        let some : us ≡ [] → ⊥ = λ z. let n : nullable Q ≡ true = null_sound W Wnull Q c.1 (subst (λ x. whole W Q x c.1) z w) in cc (n, ok.1) in
        let h' : g c.0.class (brace_next (us ++ r)) ≡ true = ap (g c.0.class) (brace_front us r some) ∙ h in
        rw (e, h', only false Q ok.0 us c.1 r w s) refl
    only link (Chain {A = A} {B = X} f P Q) ok xs c r (us, ys, a, k, e, wa, l) s =
        let none : (b : X) → whole W Q [] b → ⊥ = λ b w. let h : nullable Q ≡ true = null_sound W Wnull Q b w in cc (h, ok.2) in
        let s1 : (free (first Q) (head_class r) (brace_next (rest_of r)) ≡ true) × ((stops Q (head_class r) (brace_next (rest_of r)) && stops P (head_class r) (brace_next (rest_of r))) ≡ true) = and_parts _ _ s in
        let s2 : (stops Q (head_class r) (brace_next (rest_of r)) ≡ true) × (stops P (head_class r) (brace_next (rest_of r)) ≡ true) = and_parts _ _ s1.1 in
        let sp : Ends P (ys ++ r) = Ends-before P (first Q) ys r ok.3 (λ v vs q. links_head f (first Q) (whole W Q) none (first_sound true Q ok.1) k a c ys l v vs q r) (λ _. s2.1) in
        rw (e, append_assoc us ys r, only false P ok.0 us a (ys ++ r) wa sp)
        (loop_only f (first Q) Q (whole W Q) (read R Q) none (first_sound true Q ok.1) ok.4 (only true Q ok.1) k a c ys r (suc (length (ys ++ r))) l (free_starts (first Q) r s1.0) s2.0 (omega arith))
