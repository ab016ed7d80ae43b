-- Each rule ends where its line of the tables says.
use Rattle.std.proofs.Common.{◌≡◌, Bool, true, false, Option, refl}
use Rattle.bt_grammar.specs.declared.class.Class.{Class}
use Rattle.bt_grammar.specs.declared.class.Tier.TheVariants.{Products, Sums, Shifts, Orders, Equalities, BitAnds, BitXors, BitOrs, AndThens, OrElses}
use Rattle.bt_grammar.specs.Form.{Part, Primary, Unary, Level, Expression, Values, Keyed, Assignable, Int, Aggregation, Update, AfterMap, AfterVar, Printf, Print, Delete, CallOrJump, Simple, Arm, Tail, Control, Body, Braced, Points, OneProbe, WholeScript}
use Rattle.bt_grammar.specs.Rules.{rule}
use Rattle.bt_grammar.specs.Tables.{stops_of}
use Rattle.bt_grammar.specs.Reading.{stops}
use Rattle.bt_grammar.proofs.AllClasses.{implies_end}

pub stops_rule : (n : Part) (h : Option Class) (b : Bool) → stops_of n h b ≡ true → stops (rule n) h b ≡ true
stops_rule Primary = implies_end (stops_of Primary) (stops (rule Primary)) refl
stops_rule Unary = implies_end (stops_of Unary) (stops (rule Unary)) refl
stops_rule (Level true Products) = implies_end (stops_of (Level true Products)) (stops (rule (Level true Products))) refl
stops_rule (Level false Products) = implies_end (stops_of (Level false Products)) (stops (rule (Level false Products))) refl
stops_rule (Level true Sums) = implies_end (stops_of (Level true Sums)) (stops (rule (Level true Sums))) refl
stops_rule (Level false Sums) = implies_end (stops_of (Level false Sums)) (stops (rule (Level false Sums))) refl
stops_rule (Level true Shifts) = implies_end (stops_of (Level true Shifts)) (stops (rule (Level true Shifts))) refl
stops_rule (Level false Shifts) = implies_end (stops_of (Level false Shifts)) (stops (rule (Level false Shifts))) refl
stops_rule (Level true Orders) = implies_end (stops_of (Level true Orders)) (stops (rule (Level true Orders))) refl
stops_rule (Level false Orders) = implies_end (stops_of (Level false Orders)) (stops (rule (Level false Orders))) refl
stops_rule (Level true Equalities) = implies_end (stops_of (Level true Equalities)) (stops (rule (Level true Equalities))) refl
stops_rule (Level false Equalities) = implies_end (stops_of (Level false Equalities)) (stops (rule (Level false Equalities))) refl
stops_rule (Level true BitAnds) = implies_end (stops_of (Level true BitAnds)) (stops (rule (Level true BitAnds))) refl
stops_rule (Level false BitAnds) = implies_end (stops_of (Level false BitAnds)) (stops (rule (Level false BitAnds))) refl
stops_rule (Level true BitXors) = implies_end (stops_of (Level true BitXors)) (stops (rule (Level true BitXors))) refl
stops_rule (Level false BitXors) = implies_end (stops_of (Level false BitXors)) (stops (rule (Level false BitXors))) refl
stops_rule (Level true BitOrs) = implies_end (stops_of (Level true BitOrs)) (stops (rule (Level true BitOrs))) refl
stops_rule (Level false BitOrs) = implies_end (stops_of (Level false BitOrs)) (stops (rule (Level false BitOrs))) refl
stops_rule (Level true AndThens) = implies_end (stops_of (Level true AndThens)) (stops (rule (Level true AndThens))) refl
stops_rule (Level false AndThens) = implies_end (stops_of (Level false AndThens)) (stops (rule (Level false AndThens))) refl
stops_rule (Level true OrElses) = implies_end (stops_of (Level true OrElses)) (stops (rule (Level true OrElses))) refl
stops_rule (Level false OrElses) = implies_end (stops_of (Level false OrElses)) (stops (rule (Level false OrElses))) refl
stops_rule (Expression true) = implies_end (stops_of (Expression true)) (stops (rule (Expression true))) refl
stops_rule (Expression false) = implies_end (stops_of (Expression false)) (stops (rule (Expression false))) refl
stops_rule Values = implies_end (stops_of Values) (stops (rule Values)) refl
stops_rule Keyed = implies_end (stops_of Keyed) (stops (rule Keyed)) refl
stops_rule Assignable = implies_end (stops_of Assignable) (stops (rule Assignable)) refl
stops_rule Int = implies_end (stops_of Int) (stops (rule Int)) refl
stops_rule Aggregation = implies_end (stops_of Aggregation) (stops (rule Aggregation)) refl
stops_rule Update = implies_end (stops_of Update) (stops (rule Update)) refl
stops_rule AfterMap = implies_end (stops_of AfterMap) (stops (rule AfterMap)) refl
stops_rule AfterVar = implies_end (stops_of AfterVar) (stops (rule AfterVar)) refl
stops_rule Printf = implies_end (stops_of Printf) (stops (rule Printf)) refl
stops_rule Print = implies_end (stops_of Print) (stops (rule Print)) refl
stops_rule Delete = implies_end (stops_of Delete) (stops (rule Delete)) refl
stops_rule CallOrJump = implies_end (stops_of CallOrJump) (stops (rule CallOrJump)) refl
stops_rule Simple = implies_end (stops_of Simple) (stops (rule Simple)) refl
stops_rule Arm = implies_end (stops_of Arm) (stops (rule Arm)) refl
stops_rule Tail = implies_end (stops_of Tail) (stops (rule Tail)) refl
stops_rule Control = implies_end (stops_of Control) (stops (rule Control)) refl
stops_rule Body = implies_end (stops_of Body) (stops (rule Body)) refl
stops_rule Braced = implies_end (stops_of Braced) (stops (rule Braced)) refl
stops_rule Points = implies_end (stops_of Points) (stops (rule Points)) refl
stops_rule OneProbe = implies_end (stops_of OneProbe) (stops (rule OneProbe)) refl
stops_rule WholeScript = implies_end (stops_of WholeScript) (stops (rule WholeScript)) refl
