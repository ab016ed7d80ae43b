-- Each rule may be empty, begins and looks ahead as its line of the tables says.
use Rattle.std.proofs.Common.{◌≡◌, Bool, true, false, refl}
use Rattle.bt_grammar.specs.declared.class.Class.{Class}
use Rattle.bt_grammar.specs.declared.class.Tier.TheVariants.{Products, Sums, Shifts, Orders, Equalities, BitAnds, BitXors, BitOrs, AndThens, OrElses}
use Rattle.bt_grammar.specs.Form.{Part, Primary, Unary, Level, Expression, Values, Keyed, Assignable, Int, Aggregation, Update, AfterMap, AfterVar, Printf, Print, Delete, CallOrJump, Simple, Arm, Tail, Control, Body, Braced, Points, OneProbe, WholeScript}
use Rattle.bt_grammar.specs.Rules.{rule}
use Rattle.bt_grammar.specs.Tables.{nul, fst_of, sens_of}
use Rattle.bt_grammar.specs.Reading.{nullable, first, sens}
use Rattle.bt_grammar.proofs.AllClasses.{implies1, implies2}

pub null_rule : (n : Part) → nullable (rule n) ≡ true → nul n ≡ true
null_rule Primary h = cc (h)
null_rule Unary h = cc (h)
null_rule (Level true Products) h = cc (h)
null_rule (Level false Products) h = cc (h)
null_rule (Level true Sums) h = cc (h)
null_rule (Level false Sums) h = cc (h)
null_rule (Level true Shifts) h = cc (h)
null_rule (Level false Shifts) h = cc (h)
null_rule (Level true Orders) h = cc (h)
null_rule (Level false Orders) h = cc (h)
null_rule (Level true Equalities) h = cc (h)
null_rule (Level false Equalities) h = cc (h)
null_rule (Level true BitAnds) h = cc (h)
null_rule (Level false BitAnds) h = cc (h)
null_rule (Level true BitXors) h = cc (h)
null_rule (Level false BitXors) h = cc (h)
null_rule (Level true BitOrs) h = cc (h)
null_rule (Level false BitOrs) h = cc (h)
null_rule (Level true AndThens) h = cc (h)
null_rule (Level false AndThens) h = cc (h)
null_rule (Level true OrElses) h = cc (h)
null_rule (Level false OrElses) h = cc (h)
null_rule (Expression true) h = cc (h)
null_rule (Expression false) h = cc (h)
null_rule Values h = cc (h)
null_rule Keyed h = cc (h)
null_rule Assignable h = cc (h)
null_rule Int h = cc (h)
null_rule Aggregation h = cc (h)
null_rule Update h = cc (h)
null_rule AfterMap h = cc (h)
null_rule AfterVar h = cc (h)
null_rule Printf h = cc (h)
null_rule Print h = cc (h)
null_rule Delete h = cc (h)
null_rule CallOrJump h = cc (h)
null_rule Simple h = cc (h)
null_rule Arm h = cc (h)
null_rule Tail h = refl
null_rule Control h = cc (h)
null_rule Body h = cc (h)
null_rule Braced h = cc (h)
null_rule Points h = cc (h)
null_rule OneProbe h = cc (h)
null_rule WholeScript h = cc (h)

pub first_rule : (n : Part) (c : Class) (b : Bool) → first (rule n) c b ≡ true → fst_of n c ≡ true
first_rule Primary = implies2 (first (rule Primary)) (λ c b. fst_of Primary c) refl
first_rule Unary = implies2 (first (rule Unary)) (λ c b. fst_of Unary c) refl
first_rule (Level true Products) = implies2 (first (rule (Level true Products))) (λ c b. fst_of (Level true Products) c) refl
first_rule (Level false Products) = implies2 (first (rule (Level false Products))) (λ c b. fst_of (Level false Products) c) refl
first_rule (Level true Sums) = implies2 (first (rule (Level true Sums))) (λ c b. fst_of (Level true Sums) c) refl
first_rule (Level false Sums) = implies2 (first (rule (Level false Sums))) (λ c b. fst_of (Level false Sums) c) refl
first_rule (Level true Shifts) = implies2 (first (rule (Level true Shifts))) (λ c b. fst_of (Level true Shifts) c) refl
first_rule (Level false Shifts) = implies2 (first (rule (Level false Shifts))) (λ c b. fst_of (Level false Shifts) c) refl
first_rule (Level true Orders) = implies2 (first (rule (Level true Orders))) (λ c b. fst_of (Level true Orders) c) refl
first_rule (Level false Orders) = implies2 (first (rule (Level false Orders))) (λ c b. fst_of (Level false Orders) c) refl
first_rule (Level true Equalities) = implies2 (first (rule (Level true Equalities))) (λ c b. fst_of (Level true Equalities) c) refl
first_rule (Level false Equalities) = implies2 (first (rule (Level false Equalities))) (λ c b. fst_of (Level false Equalities) c) refl
first_rule (Level true BitAnds) = implies2 (first (rule (Level true BitAnds))) (λ c b. fst_of (Level true BitAnds) c) refl
first_rule (Level false BitAnds) = implies2 (first (rule (Level false BitAnds))) (λ c b. fst_of (Level false BitAnds) c) refl
first_rule (Level true BitXors) = implies2 (first (rule (Level true BitXors))) (λ c b. fst_of (Level true BitXors) c) refl
first_rule (Level false BitXors) = implies2 (first (rule (Level false BitXors))) (λ c b. fst_of (Level false BitXors) c) refl
first_rule (Level true BitOrs) = implies2 (first (rule (Level true BitOrs))) (λ c b. fst_of (Level true BitOrs) c) refl
first_rule (Level false BitOrs) = implies2 (first (rule (Level false BitOrs))) (λ c b. fst_of (Level false BitOrs) c) refl
first_rule (Level true AndThens) = implies2 (first (rule (Level true AndThens))) (λ c b. fst_of (Level true AndThens) c) refl
first_rule (Level false AndThens) = implies2 (first (rule (Level false AndThens))) (λ c b. fst_of (Level false AndThens) c) refl
first_rule (Level true OrElses) = implies2 (first (rule (Level true OrElses))) (λ c b. fst_of (Level true OrElses) c) refl
first_rule (Level false OrElses) = implies2 (first (rule (Level false OrElses))) (λ c b. fst_of (Level false OrElses) c) refl
first_rule (Expression true) = implies2 (first (rule (Expression true))) (λ c b. fst_of (Expression true) c) refl
first_rule (Expression false) = implies2 (first (rule (Expression false))) (λ c b. fst_of (Expression false) c) refl
first_rule Values = implies2 (first (rule Values)) (λ c b. fst_of Values c) refl
first_rule Keyed = implies2 (first (rule Keyed)) (λ c b. fst_of Keyed c) refl
first_rule Assignable = implies2 (first (rule Assignable)) (λ c b. fst_of Assignable c) refl
first_rule Int = implies2 (first (rule Int)) (λ c b. fst_of Int c) refl
first_rule Aggregation = implies2 (first (rule Aggregation)) (λ c b. fst_of Aggregation c) refl
first_rule Update = implies2 (first (rule Update)) (λ c b. fst_of Update c) refl
first_rule AfterMap = implies2 (first (rule AfterMap)) (λ c b. fst_of AfterMap c) refl
first_rule AfterVar = implies2 (first (rule AfterVar)) (λ c b. fst_of AfterVar c) refl
first_rule Printf = implies2 (first (rule Printf)) (λ c b. fst_of Printf c) refl
first_rule Print = implies2 (first (rule Print)) (λ c b. fst_of Print c) refl
first_rule Delete = implies2 (first (rule Delete)) (λ c b. fst_of Delete c) refl
first_rule CallOrJump = implies2 (first (rule CallOrJump)) (λ c b. fst_of CallOrJump c) refl
first_rule Simple = implies2 (first (rule Simple)) (λ c b. fst_of Simple c) refl
first_rule Arm = implies2 (first (rule Arm)) (λ c b. fst_of Arm c) refl
first_rule Tail = implies2 (first (rule Tail)) (λ c b. fst_of Tail c) refl
first_rule Control = implies2 (first (rule Control)) (λ c b. fst_of Control c) refl
first_rule Body = implies2 (first (rule Body)) (λ c b. fst_of Body c) refl
first_rule Braced = implies2 (first (rule Braced)) (λ c b. fst_of Braced c) refl
first_rule Points = implies2 (first (rule Points)) (λ c b. fst_of Points c) refl
first_rule OneProbe = implies2 (first (rule OneProbe)) (λ c b. fst_of OneProbe c) refl
first_rule WholeScript = implies2 (first (rule WholeScript)) (λ c b. fst_of WholeScript c) refl

pub sens_rule : (n : Part) (c : Class) → sens (rule n) c ≡ true → sens_of n c ≡ true
sens_rule Primary = implies1 (sens (rule Primary)) (sens_of Primary) refl
sens_rule Unary = implies1 (sens (rule Unary)) (sens_of Unary) refl
sens_rule (Level true Products) = implies1 (sens (rule (Level true Products))) (sens_of (Level true Products)) refl
sens_rule (Level false Products) = implies1 (sens (rule (Level false Products))) (sens_of (Level false Products)) refl
sens_rule (Level true Sums) = implies1 (sens (rule (Level true Sums))) (sens_of (Level true Sums)) refl
sens_rule (Level false Sums) = implies1 (sens (rule (Level false Sums))) (sens_of (Level false Sums)) refl
sens_rule (Level true Shifts) = implies1 (sens (rule (Level true Shifts))) (sens_of (Level true Shifts)) refl
sens_rule (Level false Shifts) = implies1 (sens (rule (Level false Shifts))) (sens_of (Level false Shifts)) refl
sens_rule (Level true Orders) = implies1 (sens (rule (Level true Orders))) (sens_of (Level true Orders)) refl
sens_rule (Level false Orders) = implies1 (sens (rule (Level false Orders))) (sens_of (Level false Orders)) refl
sens_rule (Level true Equalities) = implies1 (sens (rule (Level true Equalities))) (sens_of (Level true Equalities)) refl
sens_rule (Level false Equalities) = implies1 (sens (rule (Level false Equalities))) (sens_of (Level false Equalities)) refl
sens_rule (Level true BitAnds) = implies1 (sens (rule (Level true BitAnds))) (sens_of (Level true BitAnds)) refl
sens_rule (Level false BitAnds) = implies1 (sens (rule (Level false BitAnds))) (sens_of (Level false BitAnds)) refl
sens_rule (Level true BitXors) = implies1 (sens (rule (Level true BitXors))) (sens_of (Level true BitXors)) refl
sens_rule (Level false BitXors) = implies1 (sens (rule (Level false BitXors))) (sens_of (Level false BitXors)) refl
sens_rule (Level true BitOrs) = implies1 (sens (rule (Level true BitOrs))) (sens_of (Level true BitOrs)) refl
sens_rule (Level false BitOrs) = implies1 (sens (rule (Level false BitOrs))) (sens_of (Level false BitOrs)) refl
sens_rule (Level true AndThens) = implies1 (sens (rule (Level true AndThens))) (sens_of (Level true AndThens)) refl
sens_rule (Level false AndThens) = implies1 (sens (rule (Level false AndThens))) (sens_of (Level false AndThens)) refl
sens_rule (Level true OrElses) = implies1 (sens (rule (Level true OrElses))) (sens_of (Level true OrElses)) refl
sens_rule (Level false OrElses) = implies1 (sens (rule (Level false OrElses))) (sens_of (Level false OrElses)) refl
sens_rule (Expression true) = implies1 (sens (rule (Expression true))) (sens_of (Expression true)) refl
sens_rule (Expression false) = implies1 (sens (rule (Expression false))) (sens_of (Expression false)) refl
sens_rule Values = implies1 (sens (rule Values)) (sens_of Values) refl
sens_rule Keyed = implies1 (sens (rule Keyed)) (sens_of Keyed) refl
sens_rule Assignable = implies1 (sens (rule Assignable)) (sens_of Assignable) refl
sens_rule Int = implies1 (sens (rule Int)) (sens_of Int) refl
sens_rule Aggregation = implies1 (sens (rule Aggregation)) (sens_of Aggregation) refl
sens_rule Update = implies1 (sens (rule Update)) (sens_of Update) refl
sens_rule AfterMap = implies1 (sens (rule AfterMap)) (sens_of AfterMap) refl
sens_rule AfterVar = implies1 (sens (rule AfterVar)) (sens_of AfterVar) refl
sens_rule Printf = implies1 (sens (rule Printf)) (sens_of Printf) refl
sens_rule Print = implies1 (sens (rule Print)) (sens_of Print) refl
sens_rule Delete = implies1 (sens (rule Delete)) (sens_of Delete) refl
sens_rule CallOrJump = implies1 (sens (rule CallOrJump)) (sens_of CallOrJump) refl
sens_rule Simple = implies1 (sens (rule Simple)) (sens_of Simple) refl
sens_rule Arm = implies1 (sens (rule Arm)) (sens_of Arm) refl
sens_rule Tail = implies1 (sens (rule Tail)) (sens_of Tail) refl
sens_rule Control = implies1 (sens (rule Control)) (sens_of Control) refl
sens_rule Body = implies1 (sens (rule Body)) (sens_of Body) refl
sens_rule Braced = implies1 (sens (rule Braced)) (sens_of Braced) refl
sens_rule Points = implies1 (sens (rule Points)) (sens_of Points) refl
sens_rule OneProbe = implies1 (sens (rule OneProbe)) (sens_of OneProbe) refl
sens_rule WholeScript = implies1 (sens (rule WholeScript)) (sens_of WholeScript) refl
