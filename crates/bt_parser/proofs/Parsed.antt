-- The answer of the parser is right.
use Rattle.std.proofs.Common.{◌≡◌, ℕ, suc, ◌+◌, ◌<◌, ◌≤◌, true, false, List, [], ◌∷◌, ◌++◌, length, take, drop, Option, Some, None, Result, Ok, Err, refl, sym, ◌∙◌, ap, subst, inl, inr, ◌⊎◌, arith}
use Rattle.std.specs.Prelude.{◌≢◌, IfOk, IfErr, nat_lt, nat_le, if◌then◌else◌}
use Rattle.std.proofs.lemmas.List.{append-nil, take-append-drop, take_all, length-take-le}
use Rattle.std.proofs.lemmas.Bool.Decides.{leb_tells}
use Rattle.bt_lexer.specs.declared.token.Token.{Token}
use Rattle.bt_ast.specs.declared.probe.Script.{Script}
use Rattle.bt_grammar.specs.declared.error.ParseError.{ParseError}
use Rattle.bt_grammar.specs.declared.error.ParseError.TheVariants.{Syntax, TooDeep, TooMany, Memory}
use Rattle.bt_parser.specs.declared.script.Outcome.{Outcome}
use Rattle.bt_parser.specs.declared.script.Outcome.TheVariants as outcomes
use Rattle.bt_grammar.specs.Form.{Item}
use Rattle.bt_grammar.specs.Tokens.{items, item}
use Rattle.bt_grammar.specs.Grammar.{Begins, RefusedAt}
use Rattle.bt_parser.specs.ClassLists.{classes_of}
use Rattle.bt_parser.specs.Levels.{deep_from}
use Rattle.bt_grammar.specs.Refusals.{IsDepthFault, IsCountFault, NoDepthFault, NoCountFault, IsAccepted, IsRefusal}
use Rattle.bt_parser.specs.Outcomes.{Gives, answer_of, IsRight, Answers}
use Rattle.bt_grammar.proofs.Steps.{length-items}
use Rattle.bt_parser.proofs.DeepFrom.{classes_are, some_depth, no_depth}
use Rattle.bt_grammar.proofs.Decide.{accepted, refused_whole, refused_front, too_many, too_deep, begun_end, tree_begins, depth_least, count_begins, count_one, count_place, few_tree}

items-append : (xs ys : List Token) → items (xs ++ ys) ≡ items xs ++ items ys
items-append [] ys = refl
items-append (t ∷ xs) ys = ap (λ z. item t ∷ z) (items-append xs ys)

-- all tokens were read
none_of : (old left : List Token) (outcome : Outcome) (place : ℕ) → Gives old left outcome → place + length left ≡ length old → NoDepthFault (items old)
    → IsRight (items old) (answer_of outcome place None)
none_of old left (outcomes.Whole probes) place g at shallow = accepted (items old) (record { probes = probes }) g.0 g.1 shallow
none_of old left outcomes.Refused place g at shallow =
    refused_whole (items old) (items left) place g.0 (omega (arith, at, length-items old, length-items left)) shallow g.1
none_of old left outcomes.Full place g at shallow =
    too_many (items old) (items old) [] place (sym (append-nil (items old))) (g place at) (λ m f. absurd (shallow m f))

pub right_none : (tokens : List Token) (answer : Result Script ParseError) → deep_from 0 (0 ∷ []) (classes_of tokens) ≡ None → Answers tokens None answer → IsRight (items tokens) answer
right_none tokens answer e a = subst (IsRight (items tokens)) (sym a.is) (none_of tokens a.left a.outcome a.place a.gives a.at (no_depth (items tokens) (ap (deep_from 0 (0 ∷ [])) (sym (classes_are tokens)) ∙ e)))

tells_le : (a b : ℕ) → ((nat_le a b ≡ true) × (a ≤ b)) ⊎ ((nat_le a b ≡ false) × (b < a))
tells_le a b = leb_tells a b

tells_lt : (a b : ℕ) → ((nat_lt a b ≡ true) × (a < b)) ⊎ ((nat_lt a b ≡ false) × (b ≤ a))
tells_lt a b = elim (leb_tells (suc a) b) [ inl h ↦ inl (h.0, omega (arith, h.1)) | inr h ↦ inr (h.0, omega (arith, h.1)) ]

-- a front was read that ends behind the first token that is too deep
module _ (ts after : List Item) (cut : List Token) (d : ℕ) (e : ts ≡ items cut ++ after) (len : length cut ≡ d + 1) (deep : IsDepthFault ts d) where
  len-items : length (items cut) ≡ d + 1
  len-items = length-items cut ∙ len

  behind : (m : ℕ) → IsDepthFault ts m → length (items cut) ≤ m + 1
  behind m f = let h : d ≤ m = depth_least ts d m deep f in omega (arith, h, len-items)

  front_refused : (left : List Token) (place : ℕ) → RefusedAt (items cut) (items left) → NoCountFault (items cut) → place + length left ≡ length cut → place ≤ d → IsRefusal ts (Syntax place)
  front_refused [] place r few at h = absurd (omega (arith, at, h, len))
  front_refused (t ∷ left) place r few at h =
      refused_front ts (items cut) after (item t) (items left) place e r (omega (arith, at, length-items (t ∷ left), length-items cut)) behind few

  all_begun : (left : List Token) (place : ℕ) → RefusedAt (items cut) (items left) → NoCountFault (items cut) → place + length left ≡ length cut → d < place → IsRefusal ts (TooDeep d)
  all_begun [] place r few at h = too_deep ts (items cut) after d e len-items deep (begun_end (items cut) r) (λ m f. absurd (few m f))
  all_begun (t ∷ left) place r few at h = absurd (omega (arith, at, h, len))

  some_of : (left : List Token) (outcome : Outcome) (place : ℕ) → Gives cut left outcome → place + length left ≡ length cut → IsRight ts (answer_of outcome place (Some d))
  some_of left (outcomes.Whole probes) place g at =
      too_deep ts (items cut) after d e len-items deep (tree_begins (items cut) probes g.0) (λ m f. absurd (few_tree (items cut) probes g.0 g.1 m f))
  some_of left outcomes.Refused place g at = elim (tells_le place d) [
    | inl h ↦ subst (λ b. IsRight ts (if b then Err (Syntax place) else Err (TooDeep d))) (sym h.0) (front_refused left place g.0 g.1 at h.1)
    | inr h ↦ subst (λ b. IsRight ts (if b then Err (Syntax place) else Err (TooDeep d))) (sym h.0) (all_begun left place g.0 g.1 at h.1)
  ]
  some_of left outcomes.Full place g at = elim (tells_lt place d) [
    | inl h ↦ subst (λ b. IsRight ts (if b then Err (TooMany place) else Err (TooDeep d))) (sym h.0)
        (too_many ts (items cut) after place e (g place at) (λ m f. let le : d ≤ m = depth_least ts d m deep f in before place m h.1 le))
    | inr h ↦ subst (λ b. IsRight ts (if b then Err (TooMany place) else Err (TooDeep d))) (sym h.0)
        (too_deep ts (items cut) after d e len-items deep (begun (g place at) h.1) (λ m f. let q : place ≡ m = count_one (items cut) place m (g place at) f in last m q h.1))
  ]
    where
      before : (a m : ℕ) → a < d → d ≤ m → a < m
      before a m h le = omega (arith, h, le)

      last : (m : ℕ) → place ≡ m → d ≤ place → d ≤ m
      last m q h = omega (arith, q, h)

      begun : (c : IsCountFault (items cut) place) → d ≤ place → Begins (items cut)
      begun c h =
          let p : place + length (c.next ∷ c.rest) ≡ length (items cut) = count_place (items cut) place c in
          let all : take (place + 1) (items cut) ≡ items cut = take_all (place + 1) (items cut) (omega (arith, h, len-items)) in
          subst Begins all (count_begins (items cut) place c)

pub right_some : (tokens : List Token) (d : ℕ) (answer : Result Script ParseError) → deep_from 0 (0 ∷ []) (classes_of tokens) ≡ Some d → Answers (take (d + 1) tokens) (Some d) answer
    → IsRight (items tokens) answer
right_some tokens d answer e a =
    let deep : IsDepthFault (items tokens) d = some_depth (items tokens) d (ap (deep_from 0 (0 ∷ [])) (sym (classes_are tokens)) ∙ e) in
    let within : d < length (items tokens) = deep.within in
    let split : items tokens ≡ items (take (d + 1) tokens) ++ items (drop (d + 1) tokens) =
    ap items (sym (take-append-drop (d + 1) tokens)) ∙ items-append (take (d + 1) tokens) (drop (d + 1) tokens) in
    let len : length (take (d + 1) tokens) ≡ d + 1 = length-take-le (d + 1) tokens (omega (arith, within, length-items tokens)) in
    subst (IsRight (items tokens)) (sym a.is) (some_of (items tokens) (items (drop (d + 1) tokens)) (take (d + 1) tokens) d split len deep a.left a.outcome a.place a.gives a.at)

-- ---- an answer or want of memory

pub err_of : (front : List Token) (deep : Option ℕ) (r : Result Script ParseError) → Answers front deep r → IfErr r (λ fault. fault ≢ Memory → Answers front deep (Err fault))
err_of front deep (Ok script) a = tt
err_of front deep (Err fault) a = λ _. a

pub accepted_by : (ts : List Item) (front : List Token) (deep : Option ℕ) (r : Result Script ParseError) → ((answer : Result Script ParseError) → Answers front deep answer → IsRight ts answer)
    → IfOk r (λ script. Answers front deep (Ok script)) → IfOk r (λ script. IsAccepted ts script)
accepted_by ts front deep (Ok script) right a = right (Ok script) a
accepted_by ts front deep (Err fault) right a = tt

pub refused_by : (ts : List Item) (front : List Token) (deep : Option ℕ) (r : Result Script ParseError) → ((answer : Result Script ParseError) → Answers front deep answer → IsRight ts answer)
    → IfErr r (λ fault. fault ≢ Memory → Answers front deep (Err fault)) → IfErr r (λ fault. fault ≢ Memory → IsRefusal ts fault)
refused_by ts front deep (Ok script) right a = tt
refused_by ts front deep (Err fault) right a = λ n. right (Err fault) (a n)
