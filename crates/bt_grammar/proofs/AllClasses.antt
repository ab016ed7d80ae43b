-- Tests of all classes.
use Rattle.std.proofs.Common.{◌≡◌, Bool, true, false, ◌&&◌, List, [], ◌∷◌, Option, Some, None, refl, sym, ◌∙◌, ap, inl, inr}
use Rattle.std.specs.Prelude.{ℕ, zero, suc, nat_lt, nat_eq, not, option_map, if◌then◌else◌}
use denote.Struct.Field.{Field}
use denote.Enum.Enum.{tag}
use denote.Enum.Bare.{Bare}
use denote.Enum.Declared.{Record, Choice, rowss, intoss}
use Rattle.std.proofs.lemmas.Bool.{eqb-true, eq-eqb}
use Rattle.bt_grammar.specs.Classes.{class_number, carried_number, is}
use Rattle.bt_core.specs.contracts.operator.BinOp.{enum as operators}
use Rattle.bt_ast.specs.contracts.expr.Builtin.{enum as builtins}
use Rattle.bt_ast.specs.contracts.gathering.Gathering.{enum as gatherings}
use Rattle.bt_grammar.specs.declared.class.Class.{Class}
use Rattle.bt_grammar.specs.declared.class.Class.TheVariants.{BeginWord, EndWord, IfWord, ElseWord, WhileWord, UnrollWord, CountWord, LhistWord, PrintfWord, PrintWord, ClearWord, ZeroWord, DeleteWord, ExitWord, BreakWord, ContinueWord, ReturnWord, ArgsWord, OtherWord, TracepointPoint, IntervalPoint, MapName, VarName, NumberLiteral, TextLiteral, Increment, Decrement, AndAnd, OrOr, Arrow, OpenBrace, CloseBrace, OpenParen, CloseParen, OpenBracket, CloseBracket, Comma, Semicolon, Dot, Assign, Tilde, Bang, Question, Colon, Foreign, BuiltinWord, GatherWord, Operator, UpdateMark}

pub and_first : (a b : Bool) → (a && b) ≡ true → a ≡ true
and_first true b h = refl
and_first false b h = cc

pub and_second : (a b : Bool) → (a && b) ≡ true → b ≡ true
and_second true b h = h
and_second false b h = cc

abbrev pub both_ways : (Class → Bool → Bool) → Class → Bool
both_ways f c = f c true && f c false

-- the classes that carry nothing, by their numbers
abbrev pub classes : List Class
classes = BeginWord ∷ EndWord ∷ IfWord ∷ ElseWord ∷ WhileWord ∷ UnrollWord ∷ CountWord ∷ LhistWord ∷ PrintfWord ∷ PrintWord ∷ ClearWord ∷ ZeroWord ∷ DeleteWord ∷ ExitWord ∷ BreakWord ∷ ContinueWord ∷ ReturnWord ∷ ArgsWord ∷ OtherWord ∷ TracepointPoint ∷ IntervalPoint ∷ MapName ∷ VarName ∷ NumberLiteral ∷ TextLiteral ∷ Increment ∷ Decrement ∷ AndAnd ∷ OrOr ∷ Arrow ∷ OpenBrace ∷ CloseBrace ∷ OpenParen ∷ CloseParen ∷ OpenBracket ∷ CloseBracket ∷ Comma ∷ Semicolon ∷ Dot ∷ Assign ∷ Tilde ∷ Bang ∷ Question ∷ Colon ∷ Foreign ∷ []

-- ---- the values of an enum whose variants carry nothing

abbrev choices_pass : (Fss : List (List Field)) → Bare Fss → (Choice Fss → Bool) → Bool
choices_pass [] bare g = true
choices_pass ([] ∷ Fss) bare g = g (inl tt) && choices_pass Fss bare (λ c. g (inr c))
choices_pass ((F ∷ Fs) ∷ Fss) bare g = absurd bare

each_choice : (Fss : List (List Field)) (bare : Bare Fss) (g : Choice Fss → Bool) → choices_pass Fss bare g ≡ true → (c : Choice Fss) → g c ≡ true
each_choice [] bare g h c = absurd c
each_choice ([] ∷ Fss) bare g h (inl x) = and_first (g (inl tt)) (choices_pass Fss bare (λ d. g (inr d))) h
each_choice ([] ∷ Fss) bare g h (inr c) = each_choice Fss bare (λ d. g (inr d)) (and_second (g (inl tt)) (choices_pass Fss bare (λ d. g (inr d))) h) c
each_choice ((F ∷ Fs) ∷ Fss) bare g h c = absurd bare

-- a test of all values
abbrev pub values_pass : (N : Record) → Bare N.parts → (N.D → Bool) → Bool
values_pass N bare g = choices_pass N.parts bare (λ c. g (N.make c))

each_value : (N : Record) (bare : Bare N.parts) (g : N.D → Bool) → values_pass N bare g ≡ true → (x : N.D) → g x ≡ true
each_value N bare g h x = ap g (sym (N.eta x)) ∙ each_choice N.parts bare (λ c. g (N.make c)) h (N.as_values x)

-- the variant at a place
abbrev choice_at : (Fss : List (List Field)) → Bare Fss → ℕ → Option (Choice Fss)
choice_at [] bare n = None
choice_at ([] ∷ Fss) bare zero = Some (inl tt)
choice_at ([] ∷ Fss) bare (suc n) = option_map inr (choice_at Fss bare n)
choice_at ((F ∷ Fs) ∷ Fss) bare n = absurd bare

choice_number : (Fss : List (List Field)) (bare : Bare Fss) (c : Choice Fss) → choice_at Fss bare (tag (rowss Fss) (intoss Fss c)) ≡ Some c
choice_number [] bare c = absurd c
choice_number ([] ∷ Fss) bare (inl x) = refl
choice_number ([] ∷ Fss) bare (inr c) = ap (option_map inr) (choice_number Fss bare c)
choice_number ((F ∷ Fs) ∷ Fss) bare c = absurd bare

-- ---- a test of all classes

abbrev pub at : List Class → ℕ → Option Class
at [] n = None
at (c ∷ cs) zero = Some c
at (c ∷ cs) (suc n) = at cs n

abbrev pub passes_all : {A : Type 0} → (A → Bool) → List A → Bool
passes_all g [] = true
passes_all g (x ∷ xs) = g x && passes_all g xs

pass_at : (g : Class → Bool) (cs : List Class) (n : ℕ) (c : Class) → passes_all g cs ≡ true → at cs n ≡ Some c → g c ≡ true
pass_at g [] n c h e = cc (e)
pass_at g (d ∷ cs) zero c h e = let same : d ≡ c = cc in ap g (sym same) ∙ and_first (g d) (passes_all g cs) h
pass_at g (d ∷ cs) (suc n) c h e = pass_at g cs n c (and_second (g d) (passes_all g cs) h) e

abbrev pub builtins_pass : (Class → Bool) → Bool
builtins_pass g = values_pass builtins tt (λ x. g (BuiltinWord x))

abbrev pub gatherings_pass : (Class → Bool) → Bool
gatherings_pass g = values_pass gatherings tt (λ x. g (GatherWord x))

abbrev pub operators_pass : (Class → Bool) → Bool
operators_pass g = values_pass operators tt (λ x. g (Operator x))

abbrev pub updates_pass : (Class → Bool) → Bool
updates_pass g = values_pass operators tt (λ x. g (UpdateMark x))

abbrev pub every : (Class → Bool) → Bool
every g = passes_all g classes && (builtins_pass g && (gatherings_pass g && (operators_pass g && updates_pass g)))

pub every_is : (g : Class → Bool) → every g ≡ true → (c : Class) → g c ≡ true
every_is g h c = by c
  where
    behind_classes : (builtins_pass g && (gatherings_pass g && (operators_pass g && updates_pass g))) ≡ true
    behind_classes = and_second (passes_all g classes) _ h

    behind_builtins : (gatherings_pass g && (operators_pass g && updates_pass g)) ≡ true
    behind_builtins = and_second (builtins_pass g) _ behind_classes

    behind_gatherings : (operators_pass g && updates_pass g) ≡ true
    behind_gatherings = and_second (gatherings_pass g) _ behind_builtins

    single : (n : ℕ) (k : Class) → at classes n ≡ Some k → g k ≡ true
    single n k = pass_at g classes n k (and_first (passes_all g classes) _ h)

    by : (k : Class) → g k ≡ true
    by (BuiltinWord x) = each_value builtins tt (λ y. g (BuiltinWord y)) (and_first (builtins_pass g) _ behind_classes) x
    by (GatherWord x) = each_value gatherings tt (λ y. g (GatherWord y)) (and_first (gatherings_pass g) _ behind_builtins) x
    by (Operator x) = each_value operators tt (λ y. g (Operator y)) (and_first (operators_pass g) _ behind_gatherings) x
    by (UpdateMark x) = each_value operators tt (λ y. g (UpdateMark y)) (and_second (operators_pass g) _ behind_gatherings) x
    by BeginWord = single (class_number BeginWord) BeginWord refl
    by k = single (class_number k) k refl

pub both : (f : Class → Bool → Bool) → every (both_ways f) ≡ true → (c : Class) (b : Bool) → f c b ≡ true
both f h c true = and_first (f c true) (f c false) (every_is (both_ways f) h c)
both f h c false = and_second (f c true) (f c false) (every_is (both_ways f) h c)

passes : (a b : Bool) → not (a && not b) ≡ true → a ≡ true → b ≡ true
passes true true h ha = refl
passes true false h ha = cc (h)
passes false b h ha = cc (ha)

not_both : (a b : Bool) → not (a && b) ≡ true → a ≡ true → b ≡ true → ⊥
not_both true true h ha hb = cc (h)
not_both true false h ha hb = cc (hb)
not_both false b h ha hb = cc (ha)

is_false : (a : Bool) → not a ≡ true → a ≡ false
is_false true h = cc (h)
is_false false h = refl

pub implies2 : (p q : Class → Bool → Bool) → every (both_ways (λ c b. not (p c b && not (q c b)))) ≡ true → (c : Class) (b : Bool) → p c b ≡ true → q c b ≡ true
implies2 p q h c b hp = passes (p c b) (q c b) (both (λ c b. not (p c b && not (q c b))) h c b) hp

pub implies1 : (p q : Class → Bool) → every (λ c. not (p c && not (q c))) ≡ true → (c : Class) → p c ≡ true → q c ≡ true
implies1 p q h c hp = passes (p c) (q c) (every_is (λ c. not (p c && not (q c))) h c) hp

pub disjoint2 : (p q : Class → Bool → Bool) → every (both_ways (λ c b. not (p c b && q c b))) ≡ true → (c : Class) (b : Bool) → p c b ≡ true → q c b ≡ true → ⊥
disjoint2 p q h c b hp hq = not_both (p c b) (q c b) (both (λ c b. not (p c b && q c b)) h c b) hp hq

pub never1 : (p : Class → Bool) → every (λ c. not (p c)) ≡ true → (c : Class) → p c ≡ false
never1 p h c = is_false (p c) (every_is (λ c. not (p c)) h c)

-- the same with no token
pub implies_end : (p q : Option Class → Bool → Bool) → (not (p None true && not (q None true)) && (not (p None false && not (q None false)) && every (both_ways (λ c b. not (p (Some c) b && not (q (Some c) b)))))) ≡ true
    → (h : Option Class) (b : Bool) → p h b ≡ true → q h b ≡ true
implies_end p q h None true hp = passes (p None true) (q None true) (and_first _ _ h) hp
implies_end p q h None false hp = passes (p None false) (q None false) (and_first _ (every (both_ways (λ c b. not (p (Some c) b && not (q (Some c) b))))) (and_second (not (p None true && not (q None true))) _ h)) hp
implies_end p q h (Some c) b hp = implies2 (λ c b. p (Some c) b) (λ c b. q (Some c) b) (and_second (not (p None false && not (q None false))) _ (and_second (not (p None true && not (q None true))) _ h)) c b hp

pub never3 : (p q r : Class → Bool) → every (λ c. not (p c)) ≡ true → every (λ c. not (q c)) ≡ true → every (λ c. not (r c)) ≡ true → (c : Class) → (p c ≡ false) × (q c ≡ false) × (r c ≡ false)
never3 p q r hp hq hr c = (never1 p hp c, never1 q hq c, never1 r hr c)

-- ---- which classes are equal

or_foreign : Option Class → Class
or_foreign (Some c) = c
or_foreign None = Foreign

made_at : (N : Record) → Bare N.parts → (N.D → Class) → ℕ → Class
made_at N bare f n = or_foreign (option_map (λ c. f (N.make c)) (choice_at N.parts bare n))

made_number : (N : Record) (bare : Bare N.parts) (f : N.D → Class) (x : N.D) → made_at N bare f (tag (rowss N.parts) (intoss N.parts (N.as_values x))) ≡ f x
unfolding made_at or_foreign
made_number N bare f x = ap (λ o. or_foreign (option_map (λ c. f (N.make c)) o)) (choice_number N.parts bare (N.as_values x)) ∙ ap f (N.eta x)

class_at : ℕ → ℕ → Class
class_at n carried =
    if nat_lt n 45 then or_foreign (at classes n) else
    if nat_eq n 45 then made_at builtins tt BuiltinWord carried else
    if nat_eq n 46 then made_at gatherings tt GatherWord carried else
    if nat_eq n 47 then made_at operators tt Operator carried else
    made_at operators tt UpdateMark carried

at_number : (c : Class) → class_at (class_number c) (carried_number c) ≡ c
unfolding class_at or_foreign
at_number (BuiltinWord x) = made_number builtins tt BuiltinWord x
at_number (GatherWord x) = made_number gatherings tt GatherWord x
at_number (Operator x) = made_number operators tt Operator x
at_number (UpdateMark x) = made_number operators tt UpdateMark x
at_number BeginWord = refl
at_number _ = refl

-- a class that passes for another is it
pub is_same : (k c : Class) → is k c ≡ true → c ≡ k
is_same k c h =
    let one : class_number k ≡ class_number c = eqb-true (class_number k) (class_number c) (and_first _ (nat_eq (carried_number k) (carried_number c)) h) in
    let two : carried_number k ≡ carried_number c = eqb-true (carried_number k) (carried_number c) (and_second (nat_eq (class_number k) (class_number c)) _ h) in
    sym (at_number c) ∙ ap (λ n. class_at n (carried_number c)) (sym one) ∙ ap (class_at (class_number k)) (sym two) ∙ at_number k

both_true : (a b : Bool) → a ≡ true → b ≡ true → (a && b) ≡ true
both_true true b h k = k
both_true false b h k = h

pub is_refl : (k c : Class) → c ≡ k → is k c ≡ true
is_refl k c e = both_true (nat_eq (class_number k) (class_number c)) (nat_eq (carried_number k) (carried_number c))
    (eq-eqb (class_number k) (class_number c) (ap class_number (sym e))) (eq-eqb (carried_number k) (carried_number c) (ap carried_number (sym e)))
