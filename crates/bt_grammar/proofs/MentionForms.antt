-- What a form was read of mentions what its value does: by the forms.
use Rattle.std.proofs.Common.{◌≡◌, ℕ, zero, suc, Bool, true, ◌||◌, List, [], ◌∷◌, ◌++◌, Option, Some, None, refl, ap, sym, subst, ◌∙◌, inl, inr, append_assoc}
use Rattle.std.specs.Prelude.{not}
use Rattle.std.proofs.lemmas.List.{append-nil}
use Rattle.bt_grammar.specs.declared.class.Class.{Class}
use Rattle.bt_grammar.specs.declared.class.Class.TheVariants.{MapName, TextLiteral, OpenParen, CloseParen, Comma}
use Rattle.bt_grammar.specs.Classes.{is}
use Rattle.bt_grammar.specs.Form.{Item, Form, Tok, Empty, Map, Then, Or, Until, Op, Chain, Rel, links, whole}
use Rattle.bt_grammar.specs.Mentions.{OfMap, OfText, Mentions, item_mentions, token_mentions}
use Rattle.bt_grammar.specs.Rules.{mark, optional, in_parens, after_comma}
use Rattle.bt_grammar.specs.Trees.{second, bytes_at}
use Rattle.bt_grammar.proofs.AllClasses.{is_same}

-- what holds of a value and of what the tokens mention that it was read of
abbrev pub Telling : Type 0 → Type 1
Telling A = A → Mentions → Type 0

pub record Tells (R : Rel) {A : Type 0} (P : Form A) (V : Telling A) : Type 0 where
  pub tell : (ts : List Item) (a : A) → whole R P ts a → V a (token_mentions ts)

abbrev pub Nothing : {A : Type 0} → Telling A
Nothing a m = m ≡ []

abbrev pub Maybe : {A : Type 0} → Telling A → Telling (Option A)
Maybe V None m = m ≡ []
Maybe V (Some a) m = V a m

-- ---- tokens

token_append : (xs ys : List Item) → token_mentions (xs ++ ys) ≡ token_mentions xs ++ token_mentions ys
token_append [] ys = refl
token_append (t ∷ xs) ys = ap (λ (m : Mentions). item_mentions t.class t ++ m) (token_append xs ys) ∙ sym (append_assoc (item_mentions t.class t) (token_mentions xs) (token_mentions ys))

-- a class whose tokens are neither maps nor strings
abbrev pub is_silent : Class → Bool
is_silent c = not (is MapName c || is TextLiteral c)

silent_item : (c : Class) (t : Item) → is_silent c ≡ true → item_mentions c t ≡ []
silent_item MapName t h = cc (h)
silent_item TextLiteral t h = cc (h)
silent_item _ t h = refl

silent_one : (t : Item) → is_silent t.class ≡ true → token_mentions (t ∷ []) ≡ []
silent_one t h = ap (λ (m : Mentions). m ++ []) (silent_item t.class t h)

class_silent : (c d : Class) → is_silent c ≡ true → d ≡ c → is_silent d ≡ true
class_silent c d h e = ap is_silent e ∙ h

-- ---- forms

module _ (R : Rel) where
  pub tells_silent : (p : Class → Bool) → ((c : Class) → p c ≡ true → is_silent c ≡ true) → Tells R (Tok p) Nothing
  tells_silent p all = record { tell = λ ts a w. ap token_mentions w.0 ∙ silent_one a (all a.class w.1) }

  pub tells_map_name : Tells R (Tok (is MapName)) (λ t m. m ≡ OfMap (bytes_at t) t.place ∷ [])
  tells_map_name = record { tell = λ ts a w. ap token_mentions w.0 ∙ ap (λ (c : Class). item_mentions c a ++ []) (is_same MapName a.class w.1) }

  pub tells_text : Tells R (Tok (is TextLiteral)) (λ t m. m ≡ OfText (bytes_at t) t.place ∷ [])
  tells_text = record { tell = λ ts a w. ap token_mentions w.0 ∙ ap (λ (c : Class). item_mentions c a ++ []) (is_same TextLiteral a.class w.1) }

  pub tells_mark : (c : Class) → is_silent c ≡ true → Tells R (mark c) Nothing
  tells_mark c h = record { tell = λ ts a w. let (t, e, (is, q)) = w in ap token_mentions is ∙ silent_one t (class_silent c t.class h (is_same c t.class q)) }

  pub tells_empty : {A : Type 0} (d : A) {V : Telling A} → V d [] → Tells R (Empty d) V
  tells_empty {A} d {V} v = record { tell = go }
    where
      go : (ts : List Item) (a : A) → whole R (Empty d) ts a → V a (token_mentions ts)
      go ts a (e, q) = subst (λ (l : List Item). V a (token_mentions l)) (sym e) (subst (λ (z : A). V z []) (sym q) v)

  pub tells_map : {A B : Type 0} {f : A → B} {P : Form A} {V : Telling A} {W : Telling B} → Tells R P V
      → ((a : A) (m : Mentions) → V a m → W (f a) m) → Tells R (Map f P) W
  tells_map {A} {B} {f} {P} {V} {W} p step = record { tell = go }
    where
      go : (ts : List Item) (b : B) → whole R (Map f P) ts b → W b (token_mentions ts)
      go ts b (a, e, w) = subst (λ (z : B). W z (token_mentions ts)) (sym e) (step a (token_mentions ts) (p.tell ts a w))

  pub tells_then : {A B C : Type 0} {f : A → B → C} {P : Form A} {Q : Form B} {V : Telling A} {W : Telling B} {X : Telling C} → Tells R P V → Tells R Q W
      → ((a : A) (b : B) (x y : Mentions) → V a x → W b y → X (f a b) (x ++ y)) → Tells R (Then f P Q) X
  tells_then {A} {B} {C} {f} {P} {Q} {V} {W} {X} p q step = record { tell = go }
    where
      go : (ts : List Item) (c : C) → whole R (Then f P Q) ts c → X c (token_mentions ts)
      go ts c (xs, ys, a, b, e, ec, wa, wb) =
          subst (λ (m : Mentions). X c m) (sym (ap token_mentions e ∙ token_append xs ys))
          (subst (λ (z : C). X z (token_mentions xs ++ token_mentions ys)) (sym ec) (step a b (token_mentions xs) (token_mentions ys) (p.tell xs a wa) (q.tell ys b wb)))

  pub tells_or : {A : Type 0} {P Q : Form A} {V : Telling A} → Tells R P V → Tells R Q V → Tells R (Or P Q) V
  tells_or {A} {P} {Q} {V} p q = record { tell = go }
    where
      go : (ts : List Item) (a : A) → whole R (Or P Q) ts a → V a (token_mentions ts)
      go ts a (inl w) = p.tell ts a w
      go ts a (inr w) = q.tell ts a w

  pub tells_until : {A : Type 0} {P : Form A} {V : Telling A} (c : Class) → is_silent c ≡ true → Tells R P V → Tells R (Until P c) V
  tells_until {A} {P} {V} c h p = record { tell = go }
    where
      go : (ts : List Item) (a : A) → whole R (Until P c) ts a → V a (token_mentions ts)
      go ts a (xs, t, e, ec, w) =
          let behind : token_mentions ts ≡ token_mentions xs = ap token_mentions e ∙ token_append xs (t ∷ []) ∙ ap (λ (m : Mentions). token_mentions xs ++ m) (silent_one t (class_silent c t.class h ec)) ∙ append-nil (token_mentions xs) in
          subst (λ (m : Mentions). V a m) (sym behind) (p.tell xs a w)

  pub tells_op : {B : Type 0} {g : Class → Bool → Bool} {Q : Form B} {W : Telling B} → ((c : Class) (b : Bool) → g c b ≡ true → is_silent c ≡ true) → Tells R Q W
      → Tells R (Op g Q) (λ a m. W a.1 m)
  tells_op {B} {g} {Q} {W} all q = record { tell = go }
    where
      go : (ts : List Item) (a : Item × B) → whole R (Op g Q) ts a → W a.1 (token_mentions ts)
      go ts a (us, e, h, w) =
          let behind : token_mentions ts ≡ token_mentions us = ap token_mentions e ∙ ap (λ (m : Mentions). m ++ token_mentions us) (silent_item a.0.class a.0 (all a.0.class _ h)) in
          subst (λ (m : Mentions). W a.1 m) (sym behind) (q.tell us a.1 w)

  tells_links : {A B : Type 0} (f : A → B → A) (Q : Form B) (V : Telling A) (W : Telling B) → Tells R Q W
      → ((a : A) (b : B) (x y : Mentions) → V a x → W b y → V (f a b) (x ++ y))
      → (k : ℕ) (ts : List Item) (a c : A) → links f (whole R Q) k a ts c → (x : Mentions) → V a x → V c (x ++ token_mentions ts)
  tells_links {A = A} f Q V W q step zero ts a c (e, e') x v =
      subst (λ (z : A). V z (x ++ token_mentions ts)) (sym e') (subst (λ (m : Mentions). V a m) (sym (append-nil x) ∙ ap (λ (l : List Item). x ++ token_mentions l) (sym e)) v)
  tells_links f Q V W q step (suc k) ts a c (us, vs, b, e, w, l) x v =
      subst (λ (m : Mentions). V c m) (append_assoc x (token_mentions us) (token_mentions vs) ∙ ap (λ (m : Mentions). x ++ m) (sym (ap token_mentions e ∙ token_append us vs)))
      (tells_links f Q V W q step k vs (f a b) c l (x ++ token_mentions us) (step a b x (token_mentions us) v (q.tell us b w)))

  pub tells_chain : {A B : Type 0} {f : A → B → A} {P : Form A} {Q : Form B} {V : Telling A} {W : Telling B} → Tells R P V → Tells R Q W
      → ((a : A) (b : B) (x y : Mentions) → V a x → W b y → V (f a b) (x ++ y)) → Tells R (Chain f P Q) V
  tells_chain {A} {B} {f} {P} {Q} {V} {W} p q step = record { tell = go }
    where
      go : (ts : List Item) (c : A) → whole R (Chain f P Q) ts c → V c (token_mentions ts)
      go ts c (xs, ys, a, k, e, w, l) =
          subst (λ (m : Mentions). V c m) (sym (ap token_mentions e ∙ token_append xs ys)) (tells_links f Q V W q step k ys a c l (token_mentions xs) (p.tell xs a w))

  -- ---- forms with marks

  pub tells_second : {B : Type 0} {Q : Form B} {W : Telling B} (c : Class) → is_silent c ≡ true → Tells R Q W → Tells R (Then second (mark c) Q) W
  tells_second {B} {Q} {W} c h q = tells_then (tells_mark c h) q (λ a b x y ex v. subst (λ (m : Mentions). W b m) (sym (ap (λ (z : Mentions). z ++ y) ex)) v)

  pub tells_parens : {A : Type 0} {P : Form A} {V : Telling A} → Tells R P V → Tells R (in_parens P) V
  tells_parens p = tells_second OpenParen refl (tells_until CloseParen refl p)

  pub tells_comma : {A : Type 0} {P : Form A} {V : Telling A} → Tells R P V → Tells R (after_comma P) V
  tells_comma p = tells_second Comma refl p

  pub tells_optional : {A : Type 0} {P : Form A} {V : Telling A} → Tells R P V → Tells R (optional P) (Maybe V)
  tells_optional {A} {P} {V} p = tells_or (tells_map p (λ a m v. v)) (tells_empty None {V = Maybe V} refl)
