-- What is written again is nested no deeper.
use Rattle.std.proofs.Common.{◌≡◌, ℕ, zero, suc, ◌+◌, ◌<◌, ◌≤◌, Bool, true, false, List, [], ◌∷◌, ◌++◌, length, take, refl, ap, sym, subst, ◌∙◌, inl, inr, arith}
use Rattle.std.specs.Prelude.{nat_le, ◌⊎◌, if◌then◌else◌}
use Rattle.std.specs.List.{sum}
use Rattle.std.proofs.lemmas.Bool.{false≢true}
use Rattle.std.proofs.lemmas.Bool.Decides.{nat_tests}
use Rattle.std.proofs.lemmas.List.Sums.{sum_by-cons}
use Rattle.bt_core.specs.declared.limits.TheConstants.{NESTING}
use Rattle.bt_lexer.specs.declared.token.TokenKind.{TokenKind}
use Rattle.bt_grammar.specs.declared.class.Class.{Class}
use Rattle.bt_core.specs.declared.operator.BinOp.TheVariants.{Sub}
use Rattle.bt_grammar.specs.declared.class.Class.TheVariants.{OpenBrace, CloseBrace, OpenParen, CloseParen, OpenBracket, CloseBracket, Comma, Semicolon, Dot, Arrow, Operator, NumberLiteral}
use Rattle.bt_grammar.specs.Classes.{is_dot}
use Rattle.bt_grammar.specs.Form.{Item}
use Rattle.bt_grammar.specs.Tokens.{class_of}
use Rattle.bt_grammar.specs.Weights.{is_operator, reset, counted, opened, closed, levels_behind, levels_from, level_weight, weight}
use Rattle.bt_grammar.specs.Refusals.{NoDepthFault}
use Rattle.read_back_laws.proofs.Lexemes.{Are}

-- ---- levels with no more operators

abbrev pub NoMore : List ℕ → List ℕ → Type 0
NoMore [] [] = Unit {0}
NoMore [] (n ∷ ns) = ⊥
NoMore (m ∷ ms) [] = ⊥
NoMore (m ∷ ms) (n ∷ ns) = (m ≤ n) × NoMore ms ns

no_more_same : (ms : List ℕ) → NoMore ms ms
no_more_same [] = tt
no_more_same (m ∷ ms) = (omega arith, no_more_same ms)

no_more_reset : (ms ns : List ℕ) → NoMore ms ns → NoMore (reset ms) (reset ns)
no_more_reset [] [] h = tt
no_more_reset [] (n ∷ ns) h = absurd h
no_more_reset (m ∷ ms) [] h = absurd h
no_more_reset (m ∷ ms) (n ∷ ns) h = (omega arith, h.1)

-- an empty count is no more than any
reset_no_more : (ms ns : List ℕ) → NoMore ms ns → NoMore (reset ms) ns
reset_no_more [] [] h = tt
reset_no_more [] (n ∷ ns) h = absurd h
reset_no_more (m ∷ ms) [] h = absurd h
reset_no_more (m ∷ ms) (n ∷ ns) h = (omega arith, h.1)

no_more_counted : (ms ns : List ℕ) → NoMore ms ns → NoMore (counted ms) (counted ns)
no_more_counted [] [] h = tt
no_more_counted [] (n ∷ ns) h = absurd h
no_more_counted (m ∷ ms) [] h = absurd h
no_more_counted (m ∷ ms) (n ∷ ns) h = (let k = h.0 in omega arith, h.1)

counted_more : (ms ns : List ℕ) → NoMore ms ns → NoMore ms (counted ns)
counted_more [] [] h = tt
counted_more [] (n ∷ ns) h = absurd h
counted_more (m ∷ ms) [] h = absurd h
counted_more (m ∷ ms) (n ∷ ns) h = (let k = h.0 in omega arith, h.1)

no_more_opened : (ms ns : List ℕ) → NoMore ms ns → NoMore (opened ms) (opened ns)
no_more_opened ms ns h = (omega arith, h)

no_more_closed : (ms ns : List ℕ) → NoMore ms ns → NoMore (closed ms) (closed ns)
no_more_closed [] [] h = tt
no_more_closed [] (n ∷ ns) h = absurd h
no_more_closed (m ∷ ms) [] h = absurd h
no_more_closed (m ∷ []) (n ∷ []) h = h
no_more_closed (m ∷ []) (n ∷ n' ∷ ns) h = absurd h.1
no_more_closed (m ∷ m' ∷ ms) (n ∷ []) h = absurd h.1
no_more_closed (m ∷ m' ∷ ms) (n ∷ n' ∷ ns) h = h.1

by_operator : (b : Bool) (ms ns : List ℕ) → NoMore ms ns → NoMore (if b then counted ms else ms) (if b then counted ns else ns)
by_operator true ms ns h = no_more_counted ms ns h
by_operator false ms ns h = h

no_more_behind : (c : Class) (ms ns : List ℕ) → NoMore ms ns → NoMore (levels_behind c ms) (levels_behind c ns)
no_more_behind OpenBrace ms ns h = no_more_opened (reset ms) (reset ns) (no_more_reset ms ns h)
no_more_behind CloseBrace ms ns h = no_more_reset (closed ms) (closed ns) (no_more_closed ms ns h)
no_more_behind OpenParen ms ns h = no_more_opened ms ns h
no_more_behind OpenBracket ms ns h = no_more_opened ms ns h
no_more_behind CloseParen ms ns h = no_more_closed ms ns h
no_more_behind CloseBracket ms ns h = no_more_closed ms ns h
no_more_behind Comma ms ns h = no_more_reset ms ns h
no_more_behind Semicolon ms ns h = no_more_reset ms ns h
no_more_behind c ms ns h = by_operator (is_operator c) ms ns h

same_length : (ms ns : List ℕ) → NoMore ms ns → length ms ≡ length ns
same_length [] [] h = refl
same_length [] (n ∷ ns) h = absurd h
same_length (m ∷ ms) [] h = absurd h
same_length (m ∷ ms) (n ∷ ns) h = ap suc (same_length ms ns h.1)

less_sum : (ms ns : List ℕ) → NoMore ms ns → sum ms ≤ sum ns
less_sum [] [] h = omega arith
less_sum [] (n ∷ ns) h = absurd h
less_sum (m ∷ ms) [] h = absurd h
less_sum (m ∷ ms) (n ∷ ns) h =
    let rest = less_sum ms ns h.1 in
    let k = h.0 in
    let here : sum (m ∷ ms) ≡ m + sum ms = sum_by-cons (λ (x : ℕ). x) m ms in
    let there : sum (n ∷ ns) ≡ n + sum ns = sum_by-cons (λ (x : ℕ). x) n ns in
    omega arith

lighter_weight : (ms ns : List ℕ) → NoMore ms ns → level_weight ms ≤ level_weight ns
lighter_weight ms ns h = let l = same_length ms ns h in let s = less_sum ms ns h in omega arith

-- ---- tokens that are not too deep

abbrev pub Light : List ℕ → List Class → Type 0
Light levels [] = Unit {0}
Light levels (c ∷ cs) = (level_weight (levels_behind c levels) ≤ NESTING) × Light (levels_behind c levels) cs

abbrev pub behind : List ℕ → List Class → List ℕ
behind levels [] = levels
behind levels (c ∷ cs) = behind (levels_behind c levels) cs

abbrev pub item_classes : List Item → List Class
item_classes [] = []
item_classes (t ∷ ts) = t.class ∷ item_classes ts

abbrev pub kind_classes : List TokenKind → List Class
kind_classes [] = []
kind_classes (k ∷ ks) = class_of k ∷ kind_classes ks

-- from levels with no more operators the second classes are not too deep where the first are not, and end in such levels
abbrev pub NoDeeper : List Class → List Class → Type 0
NoDeeper cs ds = (ns ms : List ℕ) → NoMore ms ns → level_weight ns ≤ NESTING → Light ns cs
    → Light ms ds × NoMore (behind ms ds) (behind ns cs) × (level_weight (behind ns cs) ≤ NESTING)

-- the kinds, than the items
abbrev pub Shallow : List Item → List TokenKind → Type 0
Shallow ts ks = NoDeeper (item_classes ts) (kind_classes ks)

light_front : (levels : List ℕ) (cs ds : List Class) → Light levels (cs ++ ds) → Light levels cs
light_front levels [] ds h = tt
light_front levels (c ∷ cs) ds h = (h.0, light_front (levels_behind c levels) cs ds h.1)

light_back : (levels : List ℕ) (cs ds : List Class) → Light levels (cs ++ ds) → Light (behind levels cs) ds
light_back levels [] ds h = h
light_back levels (c ∷ cs) ds h = light_back (levels_behind c levels) cs ds h.1

light_both : (levels : List ℕ) (cs ds : List Class) → Light levels cs → Light (behind levels cs) ds → Light levels (cs ++ ds)
light_both levels [] ds h k = k
light_both levels (c ∷ cs) ds h k = (h.0, light_both (levels_behind c levels) cs ds h.1 k)

behind_both : (levels : List ℕ) (cs ds : List Class) → behind levels (cs ++ ds) ≡ behind (behind levels cs) ds
behind_both levels [] ds = refl
behind_both levels (c ∷ cs) ds = behind_both (levels_behind c levels) cs ds

no_deeper_both : (cs ds cs' ds' : List Class) → NoDeeper cs ds → NoDeeper cs' ds' → NoDeeper (cs ++ cs') (ds ++ ds')
no_deeper_both cs ds cs' ds' f g = λ ns ms h w light.
    let (l, b, w') = f ns ms h w (light_front ns cs cs' light) in
    let (l', b', w2) = g (behind ns cs) (behind ms ds) b w' (light_back ns cs cs' light) in (
      light_both ms ds ds' l l',
      subst (λ (z : List ℕ). NoMore z (behind ns (cs ++ cs'))) (sym (behind_both ms ds ds')) (subst (λ (z : List ℕ). NoMore (behind (behind ms ds) ds') z) (sym (behind_both ns cs cs')) b'),
      subst (λ (z : List ℕ). level_weight z ≤ NESTING) (sym (behind_both ns cs cs')) w2,
    )

items_both : (ts us : List Item) → item_classes (ts ++ us) ≡ item_classes ts ++ item_classes us
items_both [] us = refl
items_both (t ∷ ts) us = ap (λ (l : List Class). t.class ∷ l) (items_both ts us)

kinds_both : (ks ls : List TokenKind) → kind_classes (ks ++ ls) ≡ kind_classes ks ++ kind_classes ls
kinds_both [] ls = refl
kinds_both (k ∷ ks) ls = ap (λ (l : List Class). class_of k ∷ l) (kinds_both ks ls)

pub shallow_nothing : Shallow [] []
shallow_nothing = λ ns ms h w light. (tt, h, w)

pub shallow_both : (ts us vs : List Item) (ks ls : List TokenKind) → vs ≡ ts ++ us → Shallow ts ks → Shallow us ls → Shallow vs (ks ++ ls)
shallow_both ts us vs ks ls e f g =
    subst (λ (l : List Class). NoDeeper (item_classes vs) l) (sym (kinds_both ks ls))
    (subst (λ (l : List Class). NoDeeper l (kind_classes ks ++ kind_classes ls)) (sym (ap item_classes e ∙ items_both ts us))
    (no_deeper_both (item_classes ts) (kind_classes ks) (item_classes us) (kind_classes ls) f g))

-- ---- tokens

same_class : (c : Class) → NoDeeper (c ∷ []) (c ∷ [])
same_class c = λ ns ms h w light.
    let b = no_more_behind c ms ns h in
    let small : level_weight (levels_behind c ms) ≤ NESTING = (let l = lighter_weight (levels_behind c ms) (levels_behind c ns) b in let k = light.0 in omega arith) in
    ((small, tt), b, light.0)

-- a token of the same class
pub shallow_token : (t : Item) (k : TokenKind) → class_of k ≡ t.class → Shallow (t ∷ []) (k ∷ [])
shallow_token t k e = subst (λ (c : Class). NoDeeper (t.class ∷ []) (c ∷ [])) (sym e) (same_class t.class)

pub shallow_one : (t : Item) (ts : List Item) (k : TokenKind) → ts ≡ t ∷ [] → class_of k ≡ t.class → Shallow ts (k ∷ [])
shallow_one t ts k e ec = subst (λ (l : List Item). Shallow l (k ∷ [])) (sym e) (shallow_token t k ec)

-- `.` in place of `->`
pub dot_shallow : (c : Class) → is_dot c ≡ true → NoDeeper (c ∷ []) (Dot ∷ [])
dot_shallow Dot h = same_class Dot
dot_shallow Arrow h = λ ns ms b w light. ((let l = lighter_weight ms ns b in omega arith, tt), b, w)
dot_shallow _ h = absurd (false≢true h)

-- a number without its sign
pub number_shallow : NoDeeper (Operator Sub ∷ NumberLiteral ∷ []) (NumberLiteral ∷ [])
number_shallow = λ ns ms b w light. ((let l = lighter_weight ms ns b in omega arith, tt), counted_more ms ns b, light.0)

-- a semicolon before a brace
pub semicolon_shallow : NoDeeper (CloseBrace ∷ []) (Semicolon ∷ CloseBrace ∷ [])
semicolon_shallow = λ ns ms b w light.
    let b1 = reset_no_more ms ns b in
    let b2 = no_more_behind CloseBrace (reset ms) ns b1 in
    ((let l = lighter_weight (reset ms) ns b1 in omega arith, (let l = lighter_weight (levels_behind CloseBrace (reset ms)) (levels_behind CloseBrace ns) b2 in let k = light.0 in omega arith, tt)), b2, light.0)

-- ---- the depth fault

pub limit : (m n : ℕ) → (m ≤ n) ⊎ (n < m)
limit m n = by_test (nat_le m n) refl
  where
    by_test : (b : Bool) → nat_le m n ≡ b → (m ≤ n) ⊎ (n < m)
    by_test true h = inl (first_of (omega arith, grind (arith, nat_tests)))
    by_test false h = inr (first_of (omega arith, grind (arith, nat_tests)))

-- where the tokens before are not too deep, a token is not, since it would be the first one
next_within : (ts : List Item) → NoDepthFault ts → (k : ℕ) → suc k ≤ length ts → ((m : ℕ) → m < k → weight (take (m + 1) ts) ≤ NESTING)
    → (weight (take (k + 1) ts) ≤ NESTING) ⊎ (NESTING < weight (take (k + 1) ts)) → weight (take (k + 1) ts) ≤ NESTING
next_within ts none k le before (inl h) = h
next_within ts none k le before (inr h) = absurd (none k (record { within = omega arith; deep = h; first = before }))

within_next : (ts : List Item) (k : ℕ) → ((m : ℕ) → m < k → weight (take (m + 1) ts) ≤ NESTING) → weight (take (k + 1) ts) ≤ NESTING
    → (m : ℕ) → m < suc k → (suc m ≤ k) ⊎ (k < suc m) → weight (take (m + 1) ts) ≤ NESTING
within_next ts k before here m less (inl h) = before m (omega arith)
within_next ts k before here m less (inr h) = let e : k ≡ m = omega arith in subst (λ (j : ℕ). weight (take (j + 1) ts) ≤ NESTING) e here

all_within : (ts : List Item) → NoDepthFault ts → (k : ℕ) → k ≤ length ts → (m : ℕ) → m < k → weight (take (m + 1) ts) ≤ NESTING
all_within ts none zero le m less = absurd (omega arith)
all_within ts none (suc k) le m less =
    let before : (j : ℕ) → j < k → weight (take (j + 1) ts) ≤ NESTING = all_within ts none k (omega arith) in
    within_next ts k before (next_within ts none k le before (limit (weight (take (k + 1) ts)) NESTING)) m less (limit (suc m) k)

light_by : (levels : List ℕ) (ts : List Item) → ((m : ℕ) → m < length ts → level_weight (levels_from levels (take (m + 1) ts)) ≤ NESTING) → Light levels (item_classes ts)
light_by levels [] h = tt
light_by levels (t ∷ ts) h = (
  h 0 (omega arith),
  light_by (levels_behind t.class levels) ts (λ m l. let e : suc m + 1 ≡ suc (m + 1) = omega arith in
      subst (λ (k : ℕ). level_weight (levels_from levels (take k (t ∷ ts))) ≤ NESTING) e (h (suc m) (omega arith))),
)

pub light_items : (ts : List Item) → NoDepthFault ts → Light (0 ∷ []) (item_classes ts)
unfolding weight
light_items ts none = light_by (0 ∷ []) ts (all_within ts none (length ts) (omega arith))

light_take : (levels : List ℕ) (ts : List Item) → Light levels (item_classes ts) → (m : ℕ) → m < length ts → level_weight (levels_from levels (take (m + 1) ts)) ≤ NESTING
light_take levels [] h m l = absurd (omega arith)
light_take levels (t ∷ ts) h zero l = h.0
light_take levels (t ∷ ts) h (suc m) l = let e : suc m + 1 ≡ suc (m + 1) = omega arith in
    subst (λ (k : ℕ). level_weight (levels_from levels (take k (t ∷ ts))) ≤ NESTING) (sym e) (light_take (levels_behind t.class levels) ts h.1 m (omega arith))

pub light_no_fault : (ts : List Item) → Light (0 ∷ []) (item_classes ts) → NoDepthFault ts
unfolding weight
light_no_fault ts h n f = absurd (let d = f.deep in let l = light_take (0 ∷ []) ts h n f.within in omega arith)

are_classes : (ks : List TokenKind) (ts : List Item) → Are ks ts → item_classes ts ≡ kind_classes ks
are_classes [] ts e = ap item_classes e
are_classes (k ∷ ks) ts (t, r, e, ek, ec, are) = ap item_classes e ∙ ((λ i. ec i ∷ are_classes ks r are i))

-- so what is written again has no token that is too deep
pub shallow_no_fault : (ts us : List Item) (ks : List TokenKind) → Shallow ts ks → Are ks us → NoDepthFault ts → NoDepthFault us
shallow_no_fault ts us ks s are none =
    let (l, b, w) = s (0 ∷ []) (0 ∷ []) (no_more_same (0 ∷ [])) (omega arith) (light_items ts none) in
    light_no_fault us (subst (Light (0 ∷ [])) (sym (are_classes ks us are)) l)
