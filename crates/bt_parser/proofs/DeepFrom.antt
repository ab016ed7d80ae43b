-- The first token that is too deep.
use Rattle.std.proofs.Common.{◌≡◌, ℕ, zero, suc, ◌+◌, ◌<◌, ◌≤◌, Bool, true, false, List, [], ◌∷◌, ◌++◌, length, map, reverse, take, drop, Option, Some, None, refl, sym, ◌∙◌, ap, subst, inl, inr, ◌⊎◌, arith}
use Rattle.std.specs.Prelude.{nat_lt, if◌then◌else◌}
use Rattle.std.specs.List.{sum}
use Rattle.std.proofs.lemmas.List.{drop_all, length-reverse, reverse-append}
use Rattle.std.proofs.lemmas.List.Sums.{sum_by-append}
use Rattle.std.proofs.lemmas.Bool.Decides.{leb_tells}
use Rattle.bt_core.specs.declared.limits.TheConstants.{NESTING}
use Rattle.bt_parser.specs.declared.nesting.Levels.{Levels}
use Rattle.bt_lexer.specs.declared.token.Token.{Token}
use Rattle.bt_grammar.specs.declared.class.Class.{Class}
use Rattle.bt_parser.specs.ClassLists.{classes_of}
use Rattle.bt_grammar.specs.Tokens.{class_of, items}
use Rattle.bt_grammar.specs.Form.{Item}
use Rattle.bt_parser.specs.Levels.{deep_from, levels_of, IsWeighed}
use Rattle.bt_grammar.specs.Weights.{levels_behind, levels_from, level_weight, weight}
use Rattle.bt_grammar.specs.Refusals.{IsDepthFault, NoDepthFault}

abbrev pub item_classes : List Item → List Class
item_classes ts = map (λ t. t.class) ts

pub classes_are : (tokens : List Token) → classes_of tokens ≡ item_classes (items tokens)
classes_are [] = refl
classes_are (t ∷ tokens) = ap (λ z. class_of t.kind ∷ z) (classes_are tokens)

-- a place that is found, and what stands before it
pub record Deep (i : ℕ) (levels : List ℕ) (ts : List Item) (d : ℕ) : Type 0 where
  pub n : ℕ
  pub is : d ≡ i + n
  pub within : n < length ts
  pub deep : NESTING < level_weight (levels_from levels (take (n + 1) ts))
  pub first : (m : ℕ) → m < n → level_weight (levels_from levels (take (m + 1) ts)) ≤ NESTING

tell : (w : ℕ) → ((nat_lt NESTING w ≡ true) × (NESTING < w)) ⊎ ((nat_lt NESTING w ≡ false) × (w ≤ NESTING))
tell w = elim (leb_tells 65 w) [ inl h ↦ inl (h.0, omega (arith, h.1)) | inr h ↦ inr (h.0, omega (arith, h.1)) ]

pub found_deep : (i : ℕ) (levels : List ℕ) (ts : List Item) (d : ℕ) → deep_from i levels (item_classes ts) ≡ Some d → Deep i levels ts d
found_deep i levels [] d e = cc (e)
found_deep i levels (t ∷ ts) d e = elim (tell (level_weight (levels_behind t.class levels))) [
  | inl h ↦ (let q : Some i ≡ Some d = rw (h.0) at e in
      let q' : i ≡ d = cc (q) in
      record { n = 0; is = omega (arith, q'); within = omega arith; deep = h.1; first = λ m short. absurd (omega arith) })
  | inr h ↦ (let r : Deep (i + 1) (levels_behind t.class levels) ts d = found_deep (i + 1) (levels_behind t.class levels) ts d (rw (h.0) at e) in
      record {
        n = suc r.n;
        is = omega (arith, r.is);
        within = omega (arith, r.within);
        deep = subst (λ z. NESTING < level_weight (levels_from levels (take z (t ∷ ts)))) (next r.n) r.deep;
        first = λ m short. before m (h.1) r.n r.first short;
      })
]
  where
    next : (n : ℕ) → suc (n + 1) ≡ suc n + 1
    next n = omega arith

    before : (m : ℕ) → level_weight (levels_behind t.class levels) ≤ NESTING → (n : ℕ) → ((m : ℕ) → m < n → level_weight (levels_from (levels_behind t.class levels) (take (m + 1) ts)) ≤ NESTING)
        → m < suc n → level_weight (levels_from levels (take (m + 1) (t ∷ ts))) ≤ NESTING
    before zero light n first short = light
    before (suc m) light n first short = subst (λ z. level_weight (levels_from levels (take z (t ∷ ts))) ≤ NESTING) (next m) (first m (omega arith))

pub none_deep : (i : ℕ) (levels : List ℕ) (ts : List Item) → deep_from i levels (item_classes ts) ≡ None → (m : ℕ) → m < length ts → level_weight (levels_from levels (take (m + 1) ts)) ≤ NESTING
none_deep i levels [] e m within = absurd (omega arith)
none_deep i levels (t ∷ ts) e m within = elim (tell (level_weight (levels_behind t.class levels))) [
  | inl h ↦ (let q : ◌≡◌ {A = Option ℕ} (Some i) None = rw (h.0) at e in cc (q))
  | inr h ↦ at_place m (h.1) (none_deep (i + 1) (levels_behind t.class levels) ts (rw (h.0) at e)) within
]
  where
    at_place : (m : ℕ) → level_weight (levels_behind t.class levels) ≤ NESTING → ((m : ℕ) → m < length ts → level_weight (levels_from (levels_behind t.class levels) (take (m + 1) ts)) ≤ NESTING)
        → m < suc (length ts) → level_weight (levels_from levels (take (m + 1) (t ∷ ts))) ≤ NESTING
    at_place zero light first short = light
    at_place (suc m) light first short = let e : suc (m + 1) ≡ suc m + 1 = omega arith in subst (λ z. level_weight (levels_from levels (take z (t ∷ ts))) ≤ NESTING) e (first m (omega arith))

pub some_depth : (ts : List Item) (d : ℕ) → deep_from 0 (0 ∷ []) (item_classes ts) ≡ Some d → IsDepthFault ts d
unfolding weight
some_depth ts d e =
    let r : Deep 0 (0 ∷ []) ts d = found_deep 0 (0 ∷ []) ts d e in
    let q : r.n ≡ d = omega (arith, r.is) in
    subst (IsDepthFault ts) q (record { within = r.within; deep = r.deep; first = r.first })

pub no_depth : (ts : List Item) → deep_from 0 (0 ∷ []) (item_classes ts) ≡ None → NoDepthFault ts
unfolding weight
no_depth ts e n f =
    let h : level_weight (levels_from (0 ∷ []) (take (n + 1) ts)) ≤ NESTING = none_deep 0 (0 ∷ []) ts e n f.within in
    let g : NESTING < level_weight (levels_from (0 ∷ []) (take (n + 1) ts)) = f.deep in
    absurd (omega (arith, h, g))

-- ---- the weight that is kept

sum-append : (xs ys : List ℕ) → sum (xs ++ ys) ≡ sum xs + sum ys
sum-append xs ys = sum_by-append (λ x. x) xs ys

sum-cons : (x : ℕ) (xs : List ℕ) → sum (x ∷ xs) ≡ x + sum xs
sum-cons x xs = sum-append (x ∷ []) xs ∙ omega arith

sum-reverse : (xs : List ℕ) → sum (reverse xs) ≡ sum xs
sum-reverse [] = refl
sum-reverse (x ∷ xs) = ap sum (reverse-append (x ∷ []) xs) ∙ sum-append (reverse xs) (x ∷ []) ∙ omega (arith, sum-reverse xs, sum-cons x xs)

pub weighs : (l : Levels) → IsWeighed l → level_weight (levels_of l) ≡ l.weight
weighs l w = omega (arith, w, sum-cons l.inner (reverse l.around.items), sum-reverse l.around.items, length-reverse l.around.items)

-- ---- one token of the loop

heavy : (levels : List ℕ) (l : Levels) (k : Class) → levels_of l ≡ levels_behind k levels → IsWeighed l → (b : Bool) → nat_lt NESTING l.weight ≡ b
    → nat_lt NESTING (level_weight (levels_behind k levels)) ≡ b
heavy levels l k e w b h = ap (λ z. nat_lt NESTING (level_weight z)) (sym e) ∙ ap (nat_lt NESTING) (weighs l w) ∙ h

pub stop_at : (i : ℕ) (levels : List ℕ) (l : Levels) (classes : List Class) (k : Class) → drop i classes ≡ k ∷ drop (i + 1) classes
    → levels_of l ≡ levels_behind k levels → IsWeighed l → NESTING < l.weight → Some i ≡ deep_from i levels (drop i classes)
stop_at i levels l classes k d e w h = elim (tell l.weight) [
  | inr n ↦ (let light : l.weight ≤ NESTING = n.1 in absurd (omega (arith, h, light)))
  | inl y ↦ sym (ap (deep_from i levels) d
      ∙ ap (λ b. if b then Some i else deep_from (i + 1) (levels_behind k levels) (drop (i + 1) classes)) (heavy levels l k e w true y.0))
]

pub go_on : (i : ℕ) (levels : List ℕ) (l : Levels) (classes : List Class) (k : Class) → drop i classes ≡ k ∷ drop (i + 1) classes
    → levels_of l ≡ levels_behind k levels → IsWeighed l → l.weight ≤ NESTING → deep_from (i + 1) (levels_of l) (drop (i + 1) classes) ≡ deep_from i levels (drop i classes)
go_on i levels l classes k d e w h = elim (tell l.weight) [
  | inl y ↦ (let big : NESTING < l.weight = y.1 in absurd (omega (arith, h, big)))
  | inr n ↦ ap (λ z. deep_from (i + 1) z (drop (i + 1) classes)) e ∙ sym (ap (deep_from i levels) d
      ∙ ap (λ b. if b then Some i else deep_from (i + 1) (levels_behind k levels) (drop (i + 1) classes)) (heavy levels l k e w false n.0))
]

-- no class is left
pub past_end : (i : ℕ) (levels : List ℕ) (classes : List Class) → length classes ≤ i → None ≡ deep_from i levels (drop i classes)
past_end i levels classes h = sym (ap (deep_from i levels) (drop_all i classes h))
