-- What is read is a whole, and stays so whatever follows the next token.
use Rattle.std.proofs.Common.{◌≡◌, ℕ, zero, suc, Bool, true, false, ◌||◌, ◌&&◌, List, [], ◌∷◌, ◌++◌, length, refl, sym, ◌∙◌, ap, subst, inl, inr, ◌⊎◌, append_assoc, arith, ◌<◌, length-append}
use Rattle.std.specs.Prelude.{if◌then◌else◌, not}
use Rattle.std.proofs.lemmas.List.{append-nil}
use Rattle.bt_grammar.specs.declared.class.Class.{Class}
use Rattle.bt_grammar.specs.Classes.{is}
use Rattle.bt_grammar.proofs.AllClasses.{is_same}
use Rattle.bt_grammar.specs.Form.{brace_next, Item, Part, Of, Form, Tok, Empty, Call, Map, Then, Or, Until, Op, Chain, Rel, links, whole, Front, begins}
use Rattle.bt_grammar.specs.Fine.{FineAt, Led, Closed, WhenNot}
use Rattle.bt_grammar.specs.Tables.{nul, sens_of}
use Rattle.bt_grammar.specs.Reading.{nullable, first, differs, sens, takes, Out, Done, Refused, Unfinished, and_then, Reader, token_at, starts, loop, read}

-- the same next token, or none, and where it is sensitive the same answer to whether a brace comes after it
abbrev pub Near : (Class → Bool) → List Item → List Item → Type 0
Near s [] r2 = r2 ≡ []
Near s (t ∷ r) r2 = (z : List Item) × (r2 ≡ t ∷ z) × (s t.class ≡ true → brace_next z ≡ brace_next r)

abbrev pub never : Class → Bool
never c = false

abbrev pub Same : List Item → List Item → Type 0
Same r r2 = Near never r r2

pub Near-weaker : (s s' : Class → Bool) (r r2 : List Item) → ((c : Class) → s' c ≡ true → s c ≡ true) → Near s r r2 → Near s' r r2
Near-weaker s s' [] r2 h n = n
Near-weaker s s' (t ∷ r) r2 h (z, e, q) = (z, e, λ x. q (h t.class x))

-- where the next token is not sensitive, the next token is enough
pub Near-calm : (s : Class → Bool) (r r2 : List Item) → ((t : Item) (z : List Item) → r ≡ t ∷ z → s t.class ≡ true → ⊥) → Same r r2 → Near s r r2
Near-calm s [] r2 h n = n
Near-calm s (t ∷ r) r2 h (z, e, q) = (z, e, λ x. absurd (h t r refl x))

brace_same : (s : Class → Bool) (r r2 : List Item) → Near s r r2 → brace_next r2 ≡ brace_next r
brace_same s [] r2 n = rw n refl
brace_same s (t ∷ r) r2 (z, e, q) = rw e refl

brace_append : (s : Class → Bool) (ys r r2 : List Item) → Near s r r2 → brace_next (ys ++ r2) ≡ brace_next (ys ++ r)
brace_append s [] r r2 n = brace_same s r r2 n
brace_append s (y ∷ ys) r r2 n = refl

-- behind some tokens any answer is the same
pub Near-append : (s s' : Class → Bool) (ys r r2 : List Item) → Near s r r2 → (ys ≡ [] → Near s' r r2) → Near s' (ys ++ r) (ys ++ r2)
Near-append s s' [] r r2 n h = h refl
Near-append s s' (y ∷ ys) r r2 n h = (ys ++ r2, refl, λ _. brace_append s ys r r2 n)

either_way : (p : Class → Bool → Bool) (c : Class) (b b' : Bool) → differs p c ≡ false → p c b' ≡ p c b
either_way p c true true h = refl
either_way p c false false h = refl
either_way p c true false h = same_of (p c true) (p c false) h
  where
    same_of : (x y : Bool) → (if x then not y else y) ≡ false → y ≡ x
    same_of true true h = refl
    same_of true false h = cc (h)
    same_of false true h = cc (h)
    same_of false false h = refl
either_way p c false true h = same_of (p c true) (p c false) h
  where
    same_of : (x y : Bool) → (if x then not y else y) ≡ false → x ≡ y
    same_of true true h = refl
    same_of true false h = cc (h)
    same_of false true h = cc (h)
    same_of false false h = refl

at_brace : (p : Class → Bool → Bool) (c : Class) (b b' : Bool) (d : Bool) → differs p c ≡ d → (d ≡ true → b' ≡ b) → p c b' ≡ p c b
at_brace p c b b' true e h = ap (p c) (h refl)
at_brace p c b b' false e h = either_way p c b b' e

pub starts_near : (p : Class → Bool → Bool) (s : Class → Bool) (r r2 : List Item) → ((c : Class) → differs p c ≡ true → s c ≡ true) → Near s r r2 → starts p r2 ≡ starts p r
starts_near p s [] r2 h n = rw n refl
starts_near p s (t ∷ r) r2 h (z, e, q) = rw e (at_brace p t.class (brace_next r) (brace_next z) (differs p t.class) refl (λ d. q (h t.class d)))

-- ---- an outcome that is done comes from two that are

pub record DoneBoth {A B : Type 0} (o : Out A) (f : A → List Item → Out B) (b : B) (r : List Item) : Type 0 where
  pub a : A
  pub r1 : List Item
  pub front : o ≡ Done a r1
  pub back : f a r1 ≡ Done b r

pub and_then-done : {A B : Type 0} (o : Out A) (f : A → List Item → Out B) (b : B) (r : List Item) → and_then o f ≡ Done b r → DoneBoth o f b r
and_then-done (Done a r1) f b r e = record { a = a; r1 = r1; front = refl; back = e }
and_then-done (Refused r1) f b r e = cc
and_then-done Unfinished f b r e = cc

pub record DoneThenRefused {A B : Type 0} (o : Out A) (f : A → List Item → Out B) (r : List Item) : Type 0 where
  pub a : A
  pub r1 : List Item
  pub front : o ≡ Done a r1
  pub back : f a r1 ≡ Refused r

pub and_then-refused : {A B : Type 0} (o : Out A) (f : A → List Item → Out B) (r : List Item) → and_then o f ≡ Refused r → (o ≡ Refused r) ⊎ DoneThenRefused o f r
and_then-refused (Done a r1) f r e = inr (record { a = a; r1 = r1; front = refl; back = e })
and_then-refused (Refused r1) f r e = inl (cc)
and_then-refused Unfinished f r e = cc

pub cases : (b : Bool) → (b ≡ true) ⊎ (b ≡ false)
cases true = inl refl
cases false = inr refl

-- ---- what is found

-- what was read: the tokens, and that they are read again whatever follows the next
pub record Found {A : Type 0} (s : Class → Bool) (rd2 : List Item → Out A) (W : List Item → A → Type 0) (ts : List Item) (a : A) (r : List Item) : Type 0 where
  pub xs : List Item
  pub is : ts ≡ xs ++ r
  pub whole : W xs a
  pub again : (r2 : List Item) → Near s r r2 → rd2 (xs ++ r2) ≡ Done a r2

pub token_found : (s : Class → Bool) (p : Class → Bool → Bool) (ts : List Item) (a : Item) (r : List Item) → token_at p ts ≡ Done a r → Found s (token_at p) (λ xs t. (xs ≡ t ∷ []) × (p t.class (brace_next r) ≡ true)) ts a r
token_found s p [] a r e = cc
token_found s p (t ∷ ts) a r e = elim (cases (p t.class (brace_next ts))) [
  | inl h ↦ (let d : Done t ts ≡ Done a r = rw h at e in
      let et : t ≡ a = cc in
      let er : ts ≡ r = cc in
      let h' : p a.class (brace_next r) ≡ true = subst (λ z. p z.class (brace_next r) ≡ true) et (subst (λ z. p t.class (brace_next z) ≡ true) er h) in
      record { xs = a ∷ []; is = rw (et, er) refl; whole = (refl, h'); again = λ r2 n. rw (brace_same s r r2 n, h') refl })
  | inr h ↦ (let d : Refused (t ∷ ts) ≡ Done a r = rw h at e in cc)
]

-- where reading is refused: what was read begins it, and it is refused there whatever follows
pub record Stuck {A : Type 0} (link : Bool) (tk : Class → Bool) (L : Type 0) (fp : Class → Bool → Bool) (rd2 : List Item → Out A) (B : List Item → Type 0) (ts r : List Item) : Type 0 where
  pub xs : List Item
  pub is : ts ≡ xs ++ r
  pub begun : B xs
  pub again : (r2 : List Item) → Same r r2 → (link ≡ true → L → xs ≡ [] → ⊥) → rd2 (xs ++ r2) ≡ Refused r2
  -- a token that it takes, or that leads it, is not refused at once
  pub moved : (t : Item) (z : List Item) → r ≡ t ∷ z → tk t.class ≡ true → xs ≡ [] → ⊥
  pub led : L → starts fp ts ≡ true → xs ≡ [] → ⊥

pub token_not : (p : Class → Bool → Bool) (ts r : List Item) → token_at p ts ≡ Refused r → (starts p ts ≡ false) × (ts ≡ r)
token_not p [] r e = (refl, cc)
token_not p (t ∷ ts) r e = elim (cases (p t.class (brace_next ts))) [
  | inl h ↦ (let d : Done t ts ≡ Refused r = rw h at e in cc)
  | inr h ↦ (let d : ◌≡◌ {A = Out Item} (Refused (t ∷ ts)) (Refused r) = rw h at e in (h, cc))
]

pub token_no : (p : Class → Bool → Bool) (ts : List Item) → starts p ts ≡ false → token_at p ts ≡ Refused ts
token_no p [] h = refl
token_no p (t ∷ ts) h = rw h refl

pub token_again : (p : Class → Bool → Bool) (ts r r2 : List Item) → Closed p → token_at p ts ≡ Refused r → Same r r2 → token_at p r2 ≡ Refused r2
token_again p ts r r2 closed e s =
    let n : (starts p ts ≡ false) × (ts ≡ r) = token_not p ts r e in
    token_no p r2 (starts_near p never r r2 (λ c d. let q : differs p c ≡ false = closed c in cc (q, d)) s ∙ ap (starts p) (sym n.1) ∙ n.0)

-- ---- a loop

pub nil_parts : (xs ys : List Item) → [] ≡ xs ++ ys → (xs ≡ []) × (ys ≡ [])
nil_parts [] ys e = (refl, sym e)
nil_parts (x ∷ xs) ys e = cc

pub loop_stop : {A B : Type 0} (f : A → B → A) (p : Class → Bool → Bool) (rd : List Item → Out B) (k : ℕ) (a : A) (ts : List Item) → starts p ts ≡ false → loop f p rd k a ts ≡ Done a ts
loop_stop f p rd zero a ts h = rw h refl
loop_stop f p rd (suc k) a ts h = rw h refl

pub record LoopFound {A B : Type 0} (s : Class → Bool) (f : A → B → A) (p : Class → Bool → Bool) (rd2 : List Item → Out B) (W : List Item → B → Type 0) (a : A) (ts : List Item) (c : A) (r : List Item) : Type 0 where
  pub ys : List Item
  pub count : ℕ
  pub is : ts ≡ ys ++ r
  pub linked : links f W count a ys c
  pub again : (r2 : List Item) (k2 : ℕ) → Near s r r2 → length (ys ++ r2) < k2 → loop f p rd2 k2 a (ys ++ r2) ≡ Done c r2

abbrev pub Calm : (Class → Bool) → (Class → Bool → Bool) → Type 0
Calm sq p = (c : Class) → (sq c ≡ false) × (differs p c ≡ false)

pub record LoopStuck {A B : Type 0} (C : Type 0) (f : A → B → A) (p : Class → Bool → Bool) (rd2 : List Item → Out B) (W : List Item → B → Type 0) (B' : List Item → Type 0) (a : A) (ts r : List Item) : Type 0 where
  pub us : List Item
  pub vs : List Item
  pub c : A
  pub count : ℕ
  pub is : ts ≡ (us ++ vs) ++ r
  pub linked : links f W count a us c
  pub begun : B' vs
  pub again : (r2 : List Item) (k2 : ℕ) → Same r r2 → length ((us ++ vs) ++ r2) < k2 → loop f p rd2 k2 a ((us ++ vs) ++ r2) ≡ Refused r2
  pub calm : us ++ vs ≡ [] → C

all_of : Class → Bool
all_of c = true

-- behind a token the start is the same
pub starts_behind : (p : Class → Bool → Bool) (s : Class → Bool) (us ys r r2 : List Item) → (us ≡ [] → ⊥) → Near s r r2 → starts p (us ++ (ys ++ r)) ≡ true → starts p (us ++ (ys ++ r2)) ≡ true
starts_behind p s [] ys r r2 some n h = absurd (some refl)
starts_behind p s (u ∷ us) ys r r2 some n h =
    let b : brace_next (us ++ (ys ++ r2)) ≡ brace_next (us ++ (ys ++ r)) = brace_append never us (ys ++ r) (ys ++ r2) (Near-append s never ys r r2 n (λ _. Near-weaker s never r r2 (λ c x. cc) n)) in
    rw b h

module _ {A B : Type 0} (f : A → B → A) (p : Class → Bool → Bool) (sq s : Class → Bool) (dp : (c : Class) → differs p c ≡ true → s c ≡ true) (dq : (c : Class) → sq c ≡ true → s c ≡ true)
    (rd rd2 : List Item → Out B) (W : List Item → B → Type 0)
    (item : (ts : List Item) (b : B) (r : List Item) → rd ts ≡ Done b r → Found sq rd2 W ts b r)
    (some : (b : B) → W [] b → ⊥) where
  pub loop_stops : (k : ℕ) (a : A) (ts : List Item) (c : A) (r : List Item) → starts p ts ≡ false → loop f p rd k a ts ≡ Done c r → LoopFound s f p rd2 W a ts c r
  loop_stops k a ts c r h e =
      let d : Done a ts ≡ Done c r = sym (loop_stop f p rd k a ts h) ∙ e in
      let ea : a ≡ c = cc in
      let er : ts ≡ r = cc in
      record {
        ys = [];
        count = 0;
        is = er;
        linked = (refl, sym ea);
        again = λ r2 k2 n l. rw (← ea) (loop_stop f p rd2 k2 a r2 (starts_near p s r r2 dp n ∙ ap (starts p) (sym er) ∙ h));
      }

  -- one turn, with what the other turns give
  pub turn_again : (sn : Class → Bool) (us ys : List Item) (a : A) (b : B) (o : Out A) (r r2 : List Item) (k2 : ℕ) → W us b → Near sn r r2 → starts p (us ++ (ys ++ r)) ≡ true
      → rd2 (us ++ (ys ++ r2)) ≡ Done b (ys ++ r2)
      → ((k : ℕ) → length (ys ++ r2) < k → loop f p rd2 k (f a b) (ys ++ r2) ≡ o)
      → length ((us ++ ys) ++ r2) < k2 → loop f p rd2 k2 a ((us ++ ys) ++ r2) ≡ o
  turn_again sn [] ys a b o r r2 k2 w n h d rest l = absurd (some b w)
  turn_again sn (u ∷ us) ys a b o r r2 zero w n h d rest l = absurd (omega arith)
  turn_again sn (u ∷ us) ys a b o r r2 (suc k) w n h d rest l =
      let h2 : starts p ((u ∷ us) ++ (ys ++ r2)) ≡ true = starts_behind p sn (u ∷ us) ys r r2 (λ e. cc (e)) n h in
      let e : (u ∷ us) ++ ys ++ r2 ≡ (u ∷ us) ++ (ys ++ r2) = append_assoc (u ∷ us) ys r2 in
      subst (λ z. loop f p rd2 (suc k) a z ≡ o) (sym e)
      (rw (h2, d) (rest k (omega (arith, length-append us ys, length-append (us ++ ys) r2, length-append ys r2))))

  pub loop_found : (k : ℕ) (a : A) (ts : List Item) (c : A) (r : List Item) → loop f p rd k a ts ≡ Done c r → LoopFound s f p rd2 W a ts c r
  loop_found zero a ts c r e = elim (cases (starts p ts)) [
    | inl h ↦ (let d : ◌≡◌ {A = Out A} Unfinished (Done c r) = rw h at e in cc)
    | inr h ↦ loop_stops zero a ts c r h e
  ]
  loop_found (suc k) a ts c r e = elim (cases (starts p ts)) [
    | inl h ↦ (let e' : and_then (rd ts) (λ b r. loop f p rd k (f a b) r) ≡ Done c r = rw h at e in
        let both : DoneBoth (rd ts) (λ b r. loop f p rd k (f a b) r) c r = and_then-done (rd ts) _ c r e' in
        let one : Found sq rd2 W ts both.a both.r1 = item ts both.a both.r1 both.front in
        let rest : LoopFound s f p rd2 W (f a both.a) both.r1 c r = loop_found k (f a both.a) both.r1 c r both.back in
        let ts_is : ts ≡ one.xs ++ (rest.ys ++ r) = one.is ∙ ap (λ z. one.xs ++ z) rest.is in
        record {
          ys = one.xs ++ rest.ys;
          count = suc rest.count;
          is = ts_is ∙ sym (append_assoc one.xs rest.ys r);
          linked = (one.xs, rest.ys, both.a, refl, one.whole, rest.linked);
          again = λ r2 k2 n l. turn_again s one.xs rest.ys a both.a (Done c r2) r r2 k2 one.whole n (ap (starts p) (sym ts_is) ∙ h)
              (one.again (rest.ys ++ r2) (subst (λ z. Near sq z (rest.ys ++ r2)) (sym rest.is) (Near-append s sq rest.ys r r2 n (λ _. Near-weaker s sq r r2 dq n))))
              (λ k. rest.again r2 k n) l;
        })
    | inr h ↦ loop_stops (suc k) a ts c r h e
  ]

  -- where an item is refused; C is what is known if nothing was read before
  module _ (B' : List Item → Type 0) (C : Type 0) (calm_q : C → Calm sq p) (tk : Class → Bool) (L : Type 0)
      (stuck : (ts r : List Item) → rd ts ≡ Refused r → Stuck true tk L p rd2 B' ts r) (edge : L ⊎ C) where
    front_of : (ts r : List Item) (st : Stuck true tk L p rd2 B' ts r) → starts p ts ≡ true → st.xs ≡ [] → C
    front_of ts r st h e = elim edge [ inl l ↦ absurd (st.led l h e) | inr c ↦ c ]

    pub first_again : (vs : List Item) (a : A) (r2 : List Item) (k2 : ℕ) → starts p (vs ++ r2) ≡ true → rd2 (vs ++ r2) ≡ Refused r2 → length (vs ++ r2) < k2
        → loop f p rd2 k2 a (vs ++ r2) ≡ Refused r2
    first_again vs a r2 zero h e l = absurd (omega arith)
    first_again vs a r2 (suc k) h e l = rw (h, e) refl

    start_here : (vs r r2 : List Item) → Same r r2 → (vs ≡ [] → C) → starts p (vs ++ r) ≡ true → starts p (vs ++ r2) ≡ true
    start_here [] r r2 n calm h = starts_near p never r r2 (λ c d. let q : differs p c ≡ false = (calm_q (calm refl) c).1 in cc (q, d)) n ∙ h
    start_here (v ∷ vs) r r2 n calm h = starts_behind p never (v ∷ vs) [] r r2 (λ e. cc (e)) n h

    pub loop_refused : (k : ℕ) (a : A) (ts r : List Item) → loop f p rd k a ts ≡ Refused r → LoopStuck C f p rd2 W B' a ts r
    loop_refused zero a ts r e = elim (cases (starts p ts)) [
      | inl h ↦ (let d : ◌≡◌ {A = Out A} Unfinished (Refused r) = rw h at e in cc)
      | inr h ↦ (let d : ◌≡◌ {A = Out A} (Done a ts) (Refused r) = rw h at e in cc)
    ]
    loop_refused (suc k) a ts r e = elim (cases (starts p ts)) [
      | inr h ↦ (let d : ◌≡◌ {A = Out A} (Done a ts) (Refused r) = rw h at e in cc)
      | inl h ↦ (let e' : and_then (rd ts) (λ b r. loop f p rd k (f a b) r) ≡ Refused r = rw h at e in
          elim (and_then-refused (rd ts) _ r e') [
            | inl q ↦ (let st : Stuck true tk L p rd2 B' ts r = stuck ts r q in
                record {
                  us = [];
                  vs = st.xs;
                  c = a;
                  count = 0;
                  is = st.is;
                  linked = (refl, refl);
                  begun = st.begun;
                  again = λ r2 k2 same l. first_again st.xs a r2 k2
                      (start_here st.xs r r2 same (front_of ts r st h) (ap (starts p) (sym st.is) ∙ h)) (st.again r2 same (λ _ l e. st.led l h e)) l;
                  calm = front_of ts r st h;
                })
            | inr both ↦ (let one : Found sq rd2 W ts both.a both.r1 = item ts both.a both.r1 both.front in
                let rest : LoopStuck C f p rd2 W B' (f a both.a) both.r1 r = loop_refused k (f a both.a) both.r1 r both.back in
                let ys : List Item = rest.us ++ rest.vs in
                let ts_is : ts ≡ one.xs ++ (ys ++ r) = one.is ∙ ap (λ z. one.xs ++ z) rest.is in
                record {
                  us = one.xs ++ rest.us;
                  vs = rest.vs;
                  c = rest.c;
                  count = suc rest.count;
                  is = ts_is ∙ sym (append_assoc one.xs ys r) ∙ ap (λ z. z ++ r) (sym (append_assoc one.xs rest.us rest.vs));
                  linked = (one.xs, rest.us, both.a, refl, one.whole, rest.linked);
                  begun = rest.begun;
                  again = λ r2 k2 same l.
                      let e2 : (one.xs ++ rest.us) ++ rest.vs ≡ one.xs ++ ys = append_assoc one.xs rest.us rest.vs in
                      let l2 : length ((one.xs ++ ys) ++ r2) < k2 = subst (λ z. length (z ++ r2) < k2) e2 l in
                      subst (λ z. loop f p rd2 k2 a (z ++ r2) ≡ Refused r2) (sym e2)
                      (turn_again never one.xs ys a both.a (Refused r2) r r2 k2 one.whole same (ap (starts p) (sym ts_is) ∙ h)
                      (one.again (ys ++ r2) (subst (λ z. Near sq z (ys ++ r2)) (sym rest.is)
                      (Near-append never sq ys r r2 same (λ z. Near-calm sq r r2 (λ t z' _ x. let q : sq t.class ≡ false = (calm_q (rest.calm z) t.class).0 in cc (q, x)) same))))
                      (λ k. rest.again r2 k same) l2);
                  calm = λ z. absurd (first_some one.xs (rest.us) rest.vs both.a one.whole z);
                })
          ])
    ]
      where
        first_some : (xs us vs : List Item) (b : B) → W xs b → (xs ++ us) ++ vs ≡ [] → ⊥
        first_some [] us vs b w z = some b w
        first_some (x ∷ xs) us vs b w z = cc (z)

-- ---- a form

pub and-left : (a b : Bool) → a ≡ true → b ≡ true → (a && b) ≡ true
and-left true b ha hb = hb
and-left false b ha hb = cc

pub or_left : (a b : Bool) → a ≡ true → (a || b) ≡ true
or_left true b h = refl
or_left false b h = cc

pub or_right : (a b : Bool) → b ≡ true → (a || b) ≡ true
or_right true b h = refl
or_right false b h = h

pub and_parts : (a b : Bool) → (a && b) ≡ true → (a ≡ true) × (b ≡ true)
and_parts true b h = (refl, h)
and_parts false b h = cc

pub both_braces : (g : Class → Bool → Bool) (c : Class) (b : Bool) → (g c true && g c false) ≡ true → g c b ≡ true
both_braces g c true h = (and_parts (g c true) (g c false) h).0
both_braces g c false h = (and_parts (g c true) (g c false) h).1

-- an operator's look at the next token is the same with what follows its operand
pub brace_front : (us r : List Item) → (us ≡ [] → ⊥) → brace_next (us ++ r) ≡ brace_next us
brace_front [] r h = absurd (h refl)
brace_front (u ∷ us) r h = refl

module _ (W : Rel) (Wnull : (n : Part) (a : Of n) → W n [] a → nul n ≡ true) where
  pub null_sound : {A : Type 0} (P : Form A) (a : A) → whole W P [] a → nullable P ≡ true
  null_sound (Tok p) a w = cc (w.0)
  null_sound (Empty d) a w = refl
  null_sound (Call n) a w = Wnull n a w
  null_sound (Map f P) b (a, e, w) = null_sound P a w
  null_sound (Then f P Q) c (xs, ys, a, b, e, ec, wa, wb) =
      let n : (xs ≡ []) × (ys ≡ []) = nil_parts xs ys e in
      and-left (nullable P) (nullable Q) (null_sound P a (rw n.0 at wa)) (null_sound Q b (rw n.1 at wb))
  null_sound (Or P Q) a (inl w) = or_left (nullable P) (nullable Q) (null_sound P a w)
  null_sound (Or P Q) a (inr w) = or_right (nullable P) (nullable Q) (null_sound Q a w)
  null_sound (Until P k) a (xs, t, e, h, w) = let n : (xs ≡ []) × (t ∷ [] ≡ []) = nil_parts xs (t ∷ []) e in cc (n.1)
  null_sound (Op g Q) c (us, e, h, w) = cc
  null_sound (Chain f P Q) c (xs, ys, a, k, e, wa, l) =
      let n : (xs ≡ []) × (ys ≡ []) = nil_parts xs ys e in null_sound P a (rw n.0 at wa)

  module _ (R R2 : Reader) (Rfound : (n : Part) (ts : List Item) (a : Of n) (r : List Item) → R n ts ≡ Done a r → Found (sens_of n) (R2 n) (W n) ts a r) where
    abbrev FoundBy : {A : Type 0} → Form A → List Item → A → List Item → Type 0
    FoundBy P ts a r = Found (sens P) (read R2 P) (whole W P) ts a r

    same_start : {A : Type 0} (P : Form A) (s : Class → Bool) (xs r r2 ts : List Item) (b : Bool) → Closed (first P) → ts ≡ xs ++ r → Near s r r2 → starts (first P) ts ≡ b → starts (first P) (xs ++ r2) ≡ b
    same_start P s xs r r2 ts b closed e n h =
        starts_near (first P) never (xs ++ r) (xs ++ r2) (λ c d. let q : differs (first P) c ≡ false = closed c in cc (q, d))
        (Near-append s never xs r r2 n (λ _. Near-weaker s never r r2 (λ c x. cc) n)) ∙ ap (starts (first P)) (sym e) ∙ h

    pub found : {A : Type 0} (link : Bool) (P : Form A) → FineAt link P → (ts : List Item) (a : A) (r : List Item) → read R P ts ≡ Done a r → FoundBy P ts a r
    found link (Tok p) ok ts a r e =
        let i : Found never (token_at (λ c _. p c)) (λ xs t. (xs ≡ t ∷ []) × (p t.class ≡ true)) ts a r = token_found never (λ c _. p c) ts a r e in
        record { xs = i.xs; is = i.is; whole = i.whole; again = i.again }
    found link (Empty d) ok ts a r e =
        let ed : d ≡ a = cc in
        record { xs = []; is = cc; whole = (refl, sym ed); again = λ r2 s. rw ed refl }
    found link (Call n) ok ts a r e = Rfound n ts a r e
    found link (Map f P) ok ts b r e =
        let m : DoneBoth (read R P ts) (λ a r. Done (f a) r) b r = and_then-done _ _ b r e in
        let eb : f m.a ≡ b = cc (m.back) in
        let er : m.r1 ≡ r = cc (m.back) in
        let i : FoundBy P ts m.a m.r1 = found false P ok ts m.a m.r1 m.front in
        record {
          xs = i.xs;
          is = i.is ∙ ap (λ z. i.xs ++ z) er;
          whole = (m.a, sym eb, i.whole);
          again = λ r2 s. rw (i.again r2 (subst (λ z. Near (sens P) z r2) (sym er) s), eb) refl;
        }
    found link (Then f P Q) ok ts c r e =
        let m : DoneBoth (read R P ts) (λ a r. and_then (read R Q r) (λ b r'. Done (f a b) r')) c r = and_then-done _ _ c r e in
        let n : DoneBoth (read R Q m.r1) (λ b r'. Done (f m.a b) r') c r = and_then-done _ _ c r m.back in
        let ec : f m.a n.a ≡ c = cc (n.back) in
        let er : n.r1 ≡ r = cc (n.back) in
        let i : FoundBy P ts m.a m.r1 = found false P ok.0 ts m.a m.r1 m.front in
        let j : FoundBy Q m.r1 n.a n.r1 = found false Q ok.1 m.r1 n.a n.r1 n.front in
        let r1_is : m.r1 ≡ j.xs ++ r = j.is ∙ ap (λ z. j.xs ++ z) er in
        record {
          xs = i.xs ++ j.xs;
          is = i.is ∙ ap (λ z. i.xs ++ z) r1_is ∙ sym (append_assoc i.xs j.xs r);
          whole = (i.xs, j.xs, m.a, n.a, refl, sym ec, i.whole, j.whole);
          again = λ r2 s.
              let s1 : Near (sens P) m.r1 (j.xs ++ r2) = subst (λ z. Near (sens P) z (j.xs ++ r2)) (sym r1_is)
              (Near-append (sens (Then f P Q)) (sens P) j.xs r r2 s (λ _. Near-weaker (sens (Then f P Q)) (sens P) r r2 (λ c x. or_left (sens P c) (sens Q c) x) s)) in
              let s2 : Near (sens Q) n.r1 r2 = subst (λ z. Near (sens Q) z r2) (sym er) (Near-weaker (sens (Then f P Q)) (sens Q) r r2 (λ c x. or_right (sens P c) (sens Q c) x) s) in
              rw (append_assoc i.xs j.xs r2, i.again (j.xs ++ r2) s1, j.again r2 s2, ec) refl;
        }
    found link (Or P Q) ok ts a r e = elim (cases (starts (first P) ts)) [
      | inl h ↦ (let i : FoundBy P ts a r = found false P ok.0 ts a r (rw h at e) in
          record {
            xs = i.xs;
            is = i.is;
            whole = inl i.whole;
            again = λ r2 s. rw (same_start P (sens (Or P Q)) i.xs r r2 ts true ok.4 i.is s h) (i.again r2 (Near-weaker (sens (Or P Q)) (sens P) r r2 (λ c x. or_left (sens P c) (sens Q c) x) s));
          })
      | inr h ↦ (let i : FoundBy Q ts a r = found false Q ok.1 ts a r (rw h at e) in
          record {
            xs = i.xs;
            is = i.is;
            whole = inr i.whole;
            again = λ r2 s. rw (same_start P (sens (Or P Q)) i.xs r r2 ts false ok.4 i.is s h) (i.again r2 (Near-weaker (sens (Or P Q)) (sens Q) r r2 (λ c x. or_right (sens P c) (sens Q c) x) s));
          })
    ]
    found link (Until P k) ok ts a r e =
        let m : DoneBoth (read R P ts) (λ a r. and_then (token_at (λ c _. is k c) r) (λ _ r'. Done a r')) a r = and_then-done _ _ a r e in
        let n : DoneBoth (token_at (λ c _. is k c) m.r1) (λ _ r'. Done m.a r') a r = and_then-done _ _ a r m.back in
        let ec : m.a ≡ a = cc (n.back) in
        let er : n.r1 ≡ r = cc (n.back) in
        let i : FoundBy P ts m.a m.r1 = found false P ok.0 ts m.a m.r1 m.front in
        let j : Found never (token_at (λ c _. is k c)) (λ xs t. (xs ≡ t ∷ []) × (is k t.class ≡ true)) m.r1 n.a n.r1 = token_found never (λ c _. is k c) m.r1 n.a n.r1 n.front in
        let r1_is : m.r1 ≡ (n.a ∷ []) ++ r = j.is ∙ ap (λ z. j.xs ++ z) er ∙ ap (λ z. z ++ r) j.whole.0 in
        record {
          xs = i.xs ++ n.a ∷ [];
          is = i.is ∙ ap (λ z. i.xs ++ z) r1_is ∙ sym (append_assoc i.xs (n.a ∷ []) r);
          whole = (i.xs, n.a, refl, is_same k n.a.class j.whole.1, subst (λ z. whole W P i.xs z) ec i.whole);
          again = λ r2 s.
              let s1 : Near (sens P) m.r1 ((n.a ∷ []) ++ r2) = subst (λ z. Near (sens P) z ((n.a ∷ []) ++ r2)) (sym r1_is) (Near-append never (sens P) (n.a ∷ []) r r2 s (λ x. cc (x))) in
              let h : is k n.a.class ≡ true = j.whole.1 in
              rw (append_assoc i.xs (n.a ∷ []) r2, i.again ((n.a ∷ []) ++ r2) s1, h, ec) refl;
        }
    found link (Op g Q) ok ts c r e =
        let m : DoneBoth (token_at g ts) (λ t r. and_then (read R Q r) (λ b r'. Done (t, b) r')) c r = and_then-done _ _ c r e in
        let n : DoneBoth (read R Q m.r1) (λ b r'. Done (m.a, b) r') c r = and_then-done _ _ c r m.back in
        let ec : (m.a, n.a) ≡ c = cc (n.back) in
        let er : n.r1 ≡ r = cc (n.back) in
        let i : Found never (token_at g) (λ xs t. (xs ≡ t ∷ []) × (g t.class (brace_next m.r1) ≡ true)) ts m.a m.r1 = token_found never g ts m.a m.r1 m.front in
        let j : FoundBy Q m.r1 n.a n.r1 = found false Q ok.0 m.r1 n.a n.r1 n.front in
        let some : j.xs ≡ [] → ⊥ = λ z. let h : nullable Q ≡ true = null_sound Q n.a (subst (λ x. whole W Q x n.a) z j.whole) in cc (h, ok.1) in
        let r1_is : m.r1 ≡ j.xs ++ r = j.is ∙ ap (λ z. j.xs ++ z) er in
        let g_is : g m.a.class (brace_next j.xs) ≡ true = ap (g m.a.class) (sym (brace_front j.xs r some) ∙ ap brace_next (sym r1_is)) ∙ i.whole.1 in
        record {
          xs = m.a ∷ j.xs;
          is = i.is ∙ ap (λ z. z ++ m.r1) i.whole.0 ∙ ap (λ z. m.a ∷ z) r1_is;
          whole = subst (λ z. whole W (Op g Q) (m.a ∷ j.xs) z) ec (j.xs, refl, g_is, j.whole);
          again = λ r2 s.
              let h : g m.a.class (brace_next (j.xs ++ r2)) ≡ true = ap (g m.a.class) (brace_front j.xs r2 some) ∙ g_is in
              let s2 : Near (sens Q) n.r1 r2 = subst (λ z. Near (sens Q) z r2) (sym er) s in
              rw (h, j.again r2 s2, ec) refl;
        }
    found link (Chain f P Q) ok ts c r e =
        let m : DoneBoth (read R P ts) (λ a r. loop f (first Q) (read R Q) (suc (length r)) a r) c r = and_then-done _ _ c r e in
        let i : FoundBy P ts m.a m.r1 = found false P ok.0 ts m.a m.r1 m.front in
        let none : (b : _) → whole W Q [] b → ⊥ = λ b w. let h : nullable Q ≡ true = null_sound Q b w in cc (h, ok.2) in
        let j : LoopFound (sens (Chain f P Q)) f (first Q) (read R2 Q) (whole W Q) m.a m.r1 c r =
        loop_found f (first Q) (sens Q) (sens (Chain f P Q)) (λ c d. or_left (differs (first Q) c) (sens P c || sens Q c) d) (λ c d. or_right (differs (first Q) c) _ (or_right (sens P c) (sens Q c) d))
        (read R Q) (read R2 Q) (whole W Q) (found true Q ok.1) none (suc (length m.r1)) m.a m.r1 c r m.back in
        record {
          xs = i.xs ++ j.ys;
          is = i.is ∙ ap (λ z. i.xs ++ z) j.is ∙ sym (append_assoc i.xs j.ys r);
          whole = (i.xs, j.ys, m.a, j.count, refl, i.whole, j.linked);
          again = λ r2 s.
              let s1 : Near (sens P) m.r1 (j.ys ++ r2) = subst (λ z. Near (sens P) z (j.ys ++ r2)) (sym j.is)
              (Near-append (sens (Chain f P Q)) (sens P) j.ys r r2 s (λ _. Near-weaker (sens (Chain f P Q)) (sens P) r r2 (λ c x. or_right (differs (first Q) c) _ (or_left (sens P c) (sens Q c) x)) s)) in
              rw (append_assoc i.xs j.ys r2, i.again (j.ys ++ r2) s1) (j.again r2 (suc (length (j.ys ++ r2))) s (omega arith));
        }

    self_closed : (x : Bool) → (if x then not x else x) ≡ false
    self_closed true = refl
    self_closed false = refl

    pub starts_at : (p : Class → Bool → Bool) (ts r z : List Item) (t : Item) (b : Bool) → starts p ts ≡ b → ts ≡ r → r ≡ t ∷ z → p t.class (brace_next z) ≡ b
    starts_at p ts r z t b h e q = ap (starts p) (sym (e ∙ q)) ∙ h

    chosen_first : (x a b : Bool) → x ≡ true → (if x then a else b) ≡ true → a ≡ true
    chosen_first true a b h e = e
    chosen_first false a b h e = cc (h)

    chosen_second : (x a b : Bool) → x ≡ false → (if x then a else b) ≡ true → b ≡ true
    chosen_second true a b h e = cc (h)
    chosen_second false a b h e = e

    op_again : (link : Bool) (g : Class → Bool → Bool) → WhenNot link (Closed g) → (ts r r2 : List Item) → token_at g ts ≡ Refused r → Same r r2 → (link ≡ true → Unit {0} → ◌≡◌ {A = List Item} [] [] → ⊥) → token_at g r2 ≡ Refused r2
    op_again true g c ts r r2 q s not_here = absurd (not_here refl tt refl)
    op_again false g c ts r r2 q s not_here = token_again g ts r r2 c q s

    op_front : (g : Class → Bool → Bool) (c : Class) → (g c true ≡ true → g c false ≡ true) → (us r : List Item) → g c (brace_next (us ++ r)) ≡ true → g c (brace_next us) ≡ true
    op_front g c down (u ∷ us) r h = h
    op_front g c down [] r h = lowered (brace_next r) h
      where
        lowered : (b : Bool) → g c b ≡ true → g c false ≡ true
        lowered true h = down h
        lowered false h = h

    module _ (B : Front) (Rrefused : (n : Part) (ts r : List Item) → R n ts ≡ Refused r → Stuck false never ⊥ (λ _ _. false) (R2 n) (B n) ts r) where
      abbrev StuckBy : {A : Type 0} → Bool → Form A → List Item → List Item → Type 0
      StuckBy link P ts r = Stuck link (takes P) (Led P) (first P) (read R2 P) (begins W B P) ts r

      pub refused : {A : Type 0} (link : Bool) (P : Form A) → FineAt link P → (ts r : List Item) → read R P ts ≡ Refused r → StuckBy link P ts r
      refused link (Tok p) ok ts r e =
          let n : (starts (λ c _. p c) ts ≡ false) × (ts ≡ r) = token_not (λ c _. p c) ts r e in
          record {
            xs = [];
            is = n.1;
            begun = inl refl;
            again = λ r2 s _. token_again (λ c _. p c) ts r r2 (λ c. self_closed (p c)) e s;
            moved = λ t z q h _. let f : p t.class ≡ false = starts_at (λ c _. p c) ts r z t false n.0 n.1 q in cc (f, h);
            led = λ l. absurd l;
          }
      refused link (Empty d) ok ts r e = cc
      refused link (Call n) ok ts r e =
          let s : Stuck false never ⊥ (λ _ _. false) (R2 n) (B n) ts r = Rrefused n ts r e in
          record { xs = s.xs; is = s.is; begun = s.begun; again = λ r2 n _. s.again r2 n (λ x. cc (x)); moved = λ t z q h. cc (h); led = λ l. absurd l }
      refused link (Map f P) ok ts r e = elim (and_then-refused (read R P ts) _ r e) [
        | inl q ↦ (let s : StuckBy false P ts r = refused false P ok ts r q in
            record { xs = s.xs; is = s.is; begun = s.begun; again = λ r2 same _. rw (s.again r2 same (λ x. cc (x))) refl; moved = s.moved; led = λ l. absurd l })
        | inr m ↦ cc (m.back)
      ]
      refused link (Then f P Q) ok ts r e = elim (and_then-refused (read R P ts) _ r e) [
        | inl q ↦ (let s : StuckBy false P ts r = refused false P ok.0 ts r q in
            record { xs = s.xs; is = s.is; begun = inl s.begun; again = λ r2 same _. rw (s.again r2 same (λ x. cc (x))) refl; moved = λ t z q h. cc (h); led = λ l. absurd l })
        | inr m ↦ elim (and_then-refused (read R Q m.r1) _ r m.back) [
          | inr n ↦ cc (n.back)
          | inl q ↦ (let i : FoundBy P ts m.a m.r1 = found false P ok.0 ts m.a m.r1 m.front in
              let s : StuckBy false Q m.r1 r = refused false Q ok.1 m.r1 r q in
              record {
                xs = i.xs ++ s.xs;
                is = i.is ∙ ap (λ z. i.xs ++ z) s.is ∙ sym (append_assoc i.xs s.xs r);
                begun = inr (i.xs, s.xs, m.a, refl, i.whole, s.begun);
                again = λ r2 same _.
                    let s1 : Near (sens P) m.r1 (s.xs ++ r2) = subst (λ z. Near (sens P) z (s.xs ++ r2)) (sym s.is)
                    (Near-append never (sens P) s.xs r r2 same (λ z. Near-calm (sens P) r r2 (λ t z' q x. s.moved t z' q (ok.3 t.class x) z) same)) in
                    rw (append_assoc i.xs s.xs r2, i.again (s.xs ++ r2) s1, s.again r2 same (λ x. cc (x))) refl;
                moved = λ t z q h. cc (h);
                led = λ l. absurd l;
              })
        ]
      ]
      refused link (Or P Q) ok ts r e = elim (cases (starts (first P) ts)) [
        | inl h ↦ (let i : StuckBy false P ts r = refused false P ok.0 ts r (rw h at e) in
            record {
              xs = i.xs;
              is = i.is;
              begun = inl i.begun;
              again = λ r2 s _. rw (same_start P never i.xs r r2 ts true ok.4 i.is s h) (i.again r2 s (λ x. cc (x)));
              moved = λ t z q k n.
                  let f : first P t.class (brace_next z) ≡ true = starts_at (first P) ts r z t true h (i.is ∙ ap (λ x. x ++ r) n) q in
                  let f' : first P t.class true ≡ true = either_way (first P) t.class (brace_next z) true (ok.4 t.class) ∙ f in
                  i.moved t z q (chosen_first (first P t.class true) _ _ f' k) n;
              led = λ l. absurd l;
            })
        | inr h ↦ (let i : StuckBy false Q ts r = refused false Q ok.1 ts r (rw h at e) in
            record {
              xs = i.xs;
              is = i.is;
              begun = inr i.begun;
              again = λ r2 s _. rw (same_start P never i.xs r r2 ts false ok.4 i.is s h) (i.again r2 s (λ x. cc (x)));
              moved = λ t z q k n.
                  let f : first P t.class (brace_next z) ≡ false = starts_at (first P) ts r z t false h (i.is ∙ ap (λ x. x ++ r) n) q in
                  let f' : first P t.class true ≡ false = either_way (first P) t.class (brace_next z) true (ok.4 t.class) ∙ f in
                  i.moved t z q (chosen_second (first P t.class true) _ _ f' k) n;
              led = λ l. absurd l;
            })
      ]
      refused link (Until P k) ok ts r e = elim (and_then-refused (read R P ts) _ r e) [
        | inl q ↦ (let s : StuckBy false P ts r = refused false P ok.0 ts r q in
            record { xs = s.xs; is = s.is; begun = inl s.begun; again = λ r2 same _. rw (s.again r2 same (λ x. cc (x))) refl; moved = λ t z q h. cc (h); led = λ l. absurd l })
        | inr m ↦ elim (and_then-refused (token_at (λ c _. is k c) m.r1) _ r m.back) [
          | inr n ↦ cc (n.back)
          | inl q ↦ (let i : FoundBy P ts m.a m.r1 = found false P ok.0 ts m.a m.r1 m.front in
              let n : (starts (λ c _. is k c) m.r1 ≡ false) × (m.r1 ≡ r) = token_not (λ c _. is k c) m.r1 r q in
              record {
                xs = i.xs;
                is = i.is ∙ ap (λ z. i.xs ++ z) n.1;
                begun = inr (i.xs, [], m.a, sym (append-nil i.xs), i.whole, inl refl);
                again = λ r2 same _.
                    let s1 : Near (sens P) m.r1 r2 = subst (λ z. Near (sens P) z r2) (sym n.1)
                    (Near-calm (sens P) r r2 (λ t z' y x. let f : is k t.class ≡ false = starts_at (λ c _. is k c) m.r1 r z' t false n.0 n.1 y in let g : is k t.class ≡ true = ok.1 t.class x in cc (f, g)) same) in
                    rw (i.again r2 s1, token_again (λ c _. is k c) m.r1 r r2 (λ c. self_closed (is k c)) q same) refl;
                moved = λ t z q h. cc (h);
                led = λ l. absurd l;
              })
        ]
      ]
      refused link (Op g Q) ok ts r e = elim (and_then-refused (token_at g ts) _ r e) [
        | inl q ↦ (let n : (starts g ts ≡ false) × (ts ≡ r) = token_not g ts r q in
            record {
              xs = [];
              is = n.1;
              begun = inl refl;
              again = λ r2 same here. rw (op_again link g ok.4 ts r r2 q same here) refl;
              moved = λ t z y h _. let f : g t.class (brace_next z) ≡ false = starts_at g ts r z t false n.0 n.1 y in let f' : g t.class (brace_next z) ≡ true = both_braces g t.class (brace_next z) h in cc (f, f');
              led = λ l h _. cc (h, n.0);
            })
        | inr m ↦ elim (and_then-refused (read R Q m.r1) _ r m.back) [
          | inr n ↦ cc (n.back)
          | inl q ↦ (let i : Found never (token_at g) (λ xs t. (xs ≡ t ∷ []) × (g t.class (brace_next m.r1) ≡ true)) ts m.a m.r1 = token_found never g ts m.a m.r1 m.front in
              let s : StuckBy false Q m.r1 r = refused false Q ok.0 m.r1 r q in
              let whole_g : g m.a.class (brace_next (s.xs ++ r)) ≡ true = ap (λ z. g m.a.class (brace_next z)) (sym s.is) ∙ i.whole.1 in
              record {
                xs = m.a ∷ s.xs;
                is = i.is ∙ ap (λ z. z ++ m.r1) i.whole.0 ∙ ap (λ z. m.a ∷ z) s.is;
                begun = inr (m.a, s.xs, refl, op_front g m.a.class (ok.3 m.a.class) s.xs r whole_g, s.begun);
                again = λ r2 same _.
                    let h : g m.a.class (brace_next (s.xs ++ r2)) ≡ true = ap (g m.a.class) (brace_append never s.xs r r2 same) ∙ whole_g in
                    rw (h, s.again r2 same (λ x. cc (x))) refl;
                moved = λ t z y h x. cc (x);
                led = λ l h x. cc (x);
              })
        ]
      ]
      refused link (Chain {A = A} {B = X} f P Q) ok ts r e = elim (and_then-refused (read R P ts) _ r e) [
        | inl q ↦ (let s : StuckBy false P ts r = refused false P ok.0 ts r q in
            record { xs = s.xs; is = s.is; begun = inl s.begun; again = λ r2 same _. rw (s.again r2 same (λ x. cc (x))) refl; moved = λ t z q h. cc (h); led = λ l. absurd l })
        | inr m ↦
            (let i : FoundBy P ts m.a m.r1 = found false P ok.0 ts m.a m.r1 m.front in
            let none : (b : X) → whole W Q [] b → ⊥ = λ b w. let h : nullable Q ≡ true = null_sound Q b w in cc (h, ok.2) in
            let C : Type 0 = (c : Class) → (sens P c ≡ false) × (sens Q c ≡ false) × (differs (first Q) c ≡ false) in
            let j : LoopStuck C f (first Q) (read R2 Q) (whole W Q) (begins W B Q) m.a m.r1 r =
            loop_refused f (first Q) (sens Q) (sens (Chain f P Q)) (λ c d. or_left (differs (first Q) c) (sens P c || sens Q c) d) (λ c d. or_right (differs (first Q) c) _ (or_right (sens P c) (sens Q c) d))
            (read R Q) (read R2 Q) (whole W Q) (found true Q ok.1) none (begins W B Q) C (λ y c. ((y c).1, (y c).2)) (takes Q) (Led Q) (refused true Q ok.1) ok.5 (suc (length m.r1)) m.a m.r1 r m.back in
            let ys : List Item = j.us ++ j.vs in
            record {
              xs = i.xs ++ ys;
              is = i.is ∙ ap (λ z. i.xs ++ z) j.is ∙ sym (append_assoc i.xs ys r);
              begun = inr (i.xs, j.us, j.vs, m.a, j.c, j.count, refl, i.whole, j.linked, j.begun);
              again = λ r2 s _.
                  let s1 : Near (sens P) m.r1 (ys ++ r2) = subst (λ z. Near (sens P) z (ys ++ r2)) (sym j.is)
                  (Near-append never (sens P) ys r r2 s (λ z. Near-calm (sens P) r r2 (λ t z' _ x. let q : sens P t.class ≡ false = (j.calm z t.class).0 in cc (q, x)) s)) in
                  rw (append_assoc i.xs ys r2, i.again (ys ++ r2) s1) (j.again r2 (suc (length (ys ++ r2))) s (omega arith));
              moved = λ t z q h. cc (h);
              led = λ l. absurd l;
            })
      ]
