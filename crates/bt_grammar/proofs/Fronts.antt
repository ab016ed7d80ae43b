-- A front of what is whole begins it.
use Rattle.std.proofs.Common.{◌≡◌, ℕ, zero, suc, ◌+◌, Bool, true, false, List, [], ◌∷◌, ◌++◌, refl, sym, ◌∙◌, ap, subst, inl, inr, ◌⊎◌, append_assoc, arith}
use Rattle.std.proofs.lemmas.List.{append-nil}
use Rattle.bt_ast.specs.declared.probe.Script.{Script}
use Rattle.bt_grammar.specs.declared.class.Class.{Class}
use Rattle.bt_grammar.specs.Fine.{FineAt}
use Rattle.bt_grammar.specs.Form.{brace_next, Item, Part, WholeScript, Of, Form, Tok, Empty, Call, Map, Then, Or, Until, Op, Chain, Rel, links, whole, Front, begins}
use Rattle.bt_grammar.specs.Grammar.{whole_at, begins_at, Begins, IsTreeOf}
use Rattle.bt_grammar.specs.Rules.{rule}
use Rattle.bt_grammar.proofs.Checked.{fine_rule}
use Rattle.bt_grammar.proofs.Depth.{deepest, completes_at}
use Rattle.bt_grammar.proofs.Viable.{Completed}

-- a front of two lists, one behind the other, is a front of the first, or the first and a front of the second
pub split : (front rest xs ys : List Item) → front ++ rest ≡ xs ++ ys
    → ((more : List Item) × (xs ≡ front ++ more)) ⊎ ((more : List Item) × (front ≡ xs ++ more) × (ys ≡ more ++ rest))
split [] rest xs ys e = inl (xs, refl)
split (t ∷ front) rest [] ys e = inr (t ∷ front, refl, sym e)
split (t ∷ front) rest (x ∷ xs) ys e =
    let head : t ≡ x = cc (e) in
    let tail : front ++ rest ≡ xs ++ ys = cc (e) in
    elim (split front rest xs ys tail) [
      | inl (more, is) ↦ inl (more, (let q : x ∷ xs ≡ t ∷ (front ++ more) = cc in q))
      | inr (more, is, rest_is) ↦ inr (more, (let q : t ∷ front ≡ x ∷ (xs ++ more) = cc in q), rest_is)
    ]

nothing_left : (front rest : List Item) → front ++ rest ≡ [] → front ≡ []
nothing_left [] rest e = refl
nothing_left (t ∷ front) rest e = cc (e)

-- where an opening brace may come next, another token or none may
without_brace : (g : Class → Bool → Bool) (c : Class) (b : Bool) → (g c true ≡ true → g c false ≡ true) → g c b ≡ true → g c false ≡ true
without_brace g c true weaker h = weaker h
without_brace g c false weaker h = h

brace_kept : (g : Class → Bool → Bool) (c : Class) (front rest : List Item) → (g c true ≡ true → g c false ≡ true) → g c (brace_next (front ++ rest)) ≡ true → g c (brace_next front) ≡ true
brace_kept g c [] rest weaker h = without_brace g c (brace_next rest) weaker h
brace_kept g c (t ∷ front) rest weaker h = h

-- a front of a chain's links: some whole links, and a list that begins another
pub record LinksFront {A X : Type 0} (f : A → X → A) (L : List Item → X → Type 0) (F : List Item → Type 0) (a : A) (front : List Item) : Type 0 where
  pub links_of : List Item
  pub last : List Item
  pub count : ℕ
  pub value : A
  pub is : front ≡ links_of ++ last
  pub linked : links f L count a links_of value
  pub begun : F last

module _ (W : Rel) (B : Front) (front_of : (n : Part) (front rest : List Item) (a : Of n) → W n (front ++ rest) a → B n front) where
  links_front : {A X : Type 0} (f : A → X → A) (Q : Form X) → ((front rest : List Item) (b : X) → whole W Q (front ++ rest) b → begins W B Q front)
      → (k : ℕ) (a : A) (front rest : List Item) (c : A) → links f (whole W Q) k a (front ++ rest) c → (front ≡ []) ⊎ LinksFront f (whole W Q) (begins W B Q) a front
  links_front f Q front_q zero a front rest c l = inl (nothing_left front rest l.0)
  links_front f Q front_q (suc k) a front rest c (us, vs, b, e, w, l) = elim (split front rest us vs e) [
    | inl (more, is) ↦ inr (record { links_of = []; last = front; count = 0; value = a; is = refl; linked = (refl, refl); begun = front_q front more b (subst (λ z. whole W Q z b) is w) })
    | inr (more, is, rest_is) ↦ elim (links_front f Q front_q k (f a b) more rest c (subst (λ z. links f (whole W Q) k (f a b) z c) rest_is l)) [
      | inl none ↦ (let here : front ≡ us = is ∙ ap (λ z. us ++ z) none ∙ append-nil us in
          inr (record { links_of = []; last = front; count = 0; value = a; is = refl; linked = (refl, refl); begun = front_q front [] b (subst (λ z. whole W Q z b) (sym (append-nil front ∙ here)) w) }))
      | inr r ↦ inr (record { links_of = us ++ r.links_of; last = r.last; count = suc r.count; value = r.value; is = is ∙ ap (λ z. us ++ z) r.is ∙ sym (append_assoc us r.links_of r.last); linked = (us, r.links_of, b, refl, w, r.linked); begun = r.begun })
    ]
  ]

  pub front_begins : {A : Type 0} (link : Bool) (P : Form A) → FineAt link P → (front rest : List Item) (a : A) → whole W P (front ++ rest) a → begins W B P front
  front_begins link (Tok p) fine [] rest a w = inl refl
  front_begins link (Tok p) fine (t ∷ front) rest a w =
      let one : t ≡ a = cc (w.0) in
      let none : front ++ rest ≡ [] = cc (w.0) in
      inr (a, ap (λ z. z ∷ front) one ∙ ap (λ z. a ∷ z) (nothing_left front rest none), w.1)
  front_begins link (Empty d) fine front rest a w = nothing_left front rest w.0
  front_begins link (Call n) fine front rest a w = front_of n front rest a w
  front_begins link (Map f P) fine front rest b (a, e, w) = front_begins false P fine front rest a w
  front_begins link (Then f P Q) fine front rest c (xs, ys, a, b, e, ec, wa, wb) = elim (split front rest xs ys e) [
    | inl (more, is) ↦ inl (front_begins false P fine.0 front more a (subst (λ z. whole W P z a) is wa))
    | inr (more, is, rest_is) ↦ inr (xs, more, a, is, wa, front_begins false Q fine.1 more rest b (subst (λ z. whole W Q z b) rest_is wb))
  ]
  front_begins link (Or P Q) fine front rest a (inl w) = inl (front_begins false P fine.0 front rest a w)
  front_begins link (Or P Q) fine front rest a (inr w) = inr (front_begins false Q fine.1 front rest a w)
  front_begins link (Until P k) fine front rest a (xs, t, e, h, w) = elim (split front rest xs (t ∷ []) e) [
    | inl (more, is) ↦ inl (front_begins false P fine.0 front more a (subst (λ z. whole W P z a) is w))
    | inr (more, is, rest_is) ↦ inr (xs, more, a, is, w, ended t h more rest rest_is)
  ]
    where
      ended : (t : Item) → t.class ≡ k → (more rest : List Item) → t ∷ [] ≡ more ++ rest → (more ≡ []) ⊎ ((u : Item) × (more ≡ u ∷ []) × (u.class ≡ k))
      ended t h [] rest e = inl refl
      ended t h (u ∷ more) rest e =
          let one : t ≡ u = cc (e) in
          let none : more ++ rest ≡ [] = cc (e) in
          inr (u, ap (λ z. u ∷ z) (nothing_left more rest none), subst (λ z. z.class ≡ k) one h)
  front_begins link (Op g Q) fine [] rest c w = inl refl
  front_begins link (Op g Q) fine (t ∷ front) rest c (us, e, h, w) =
      let one : t ≡ c.0 = cc (e) in
      let us_is : us ≡ front ++ rest = cc (e) in
      inr (
        c.0,
        front,
        ap (λ z. z ∷ front) one,
        brace_kept g c.0.class front rest (fine.3 c.0.class) (subst (λ z. g c.0.class (brace_next z) ≡ true) us_is h),
        front_begins false Q fine.0 front rest c.1 (subst (λ z. whole W Q z c.1) us_is w),
      )
  front_begins link (Chain f P Q) fine front rest c (xs, ys, a, k, e, wa, l) = elim (split front rest xs ys e) [
    | inl (more, is) ↦ inl (front_begins false P fine.0 front more a (subst (λ z. whole W P z a) is wa))
    | inr (more, is, rest_is) ↦ elim (links_front f Q (front_begins true Q fine.1) k a more rest c (subst (λ z. links f (whole W Q) k a z c) rest_is l)) [
      | inl none ↦ (let here : front ≡ xs = is ∙ ap (λ z. xs ++ z) none ∙ append-nil xs in inl (front_begins false P fine.0 front [] a (subst (λ z. whole W P z a) (sym (append-nil front ∙ here)) wa)))
      | inr r ↦ inr (xs, r.links_of, r.last, a, r.value, r.count, is ∙ ap (λ z. xs ++ z) r.is, wa, r.linked, r.begun)
    ]
  ]

front_at : (d : ℕ) (n : Part) (front rest : List Item) (a : Of n) → whole_at d n (front ++ rest) a → begins_at d n front
front_at zero n front rest a w = absurd w
front_at (suc d) n front rest a w = front_begins (whole_at d) (begins_at d) (front_at d) false (rule n) (fine_rule n) front rest a w

-- a front of a script begins a script
pub front_of_tree : (front rest : List Item) (script : Script) → IsTreeOf (front ++ rest) script → Begins front
front_of_tree front rest script (d, w) = (d, front_at d WholeScript front rest script.probes w)

-- what begins a script is a front of some script
pub tree_of_front : (front : List Item) → Begins front → (rest : List Item) × (script : Script) × IsTreeOf (front ++ rest) script
tree_of_front front (d, b) =
    let c : Completed (whole_at (d + deepest) WholeScript) front = completes_at d (d + deepest) (omega arith) WholeScript front b in
    (c.rest, record { probes = c.value }, (d + deepest, c.whole))
