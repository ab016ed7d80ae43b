-- In each rule one token ahead decides.
use Rattle.std.proofs.Common.{true, false, refl, inl, inr}
use Rattle.bt_grammar.specs.declared.class.Tier.TheVariants.{Products, Sums, Shifts, Orders, Equalities, BitAnds, BitXors, BitOrs, AndThens, OrElses}
use Rattle.bt_grammar.specs.Form.{Part, Primary, Unary, Level, Expression, Values, Keyed, Assignable, Int, Aggregation, Update, AfterMap, AfterVar, Printf, Print, Delete, CallOrJump, Simple, Arm, Tail, Control, Body, Braced, Points, OneProbe, WholeScript}
use Rattle.bt_grammar.specs.Rules.{rule}
use Rattle.bt_grammar.specs.Fine.{Fine}
use Rattle.bt_grammar.proofs.AllClasses.{implies1, implies2, disjoint2, never1, never3}

fine-Primary : Fine (rule Primary)
fine-Primary = (tt, (tt, (tt, ((tt, (tt, tt, implies2 _ _ refl, implies1 _ _ refl), implies2 _ _ refl, implies1 _ _ refl), ((tt, (tt, implies1 _ _ refl), implies2 _ _ refl, implies1 _ _ refl), ((tt, tt, implies2 _ _ refl, implies1 _ _ refl), ((tt, (tt, tt, refl, disjoint2 _ _ refl, never1 _ refl), implies2 _ _ refl, implies1 _ _ refl), (tt, (tt, tt, refl, disjoint2 _ _ refl, never1 _ refl), implies2 _ _ refl, implies1 _ _ refl), refl, disjoint2 _ _ refl, never1 _ refl), refl, disjoint2 _ _ refl, never1 _ refl), refl, disjoint2 _ _ refl, never1 _ refl), refl, disjoint2 _ _ refl, never1 _ refl), refl, disjoint2 _ _ refl, never1 _ refl), refl, disjoint2 _ _ refl, never1 _ refl), refl, disjoint2 _ _ refl, never1 _ refl)

fine-Unary : Fine (rule Unary)
fine-Unary = ((tt, tt, implies2 _ _ refl, implies1 _ _ refl), tt, refl, disjoint2 _ _ refl, never1 _ refl)

fine-Level-true-Products : Fine (rule (Level true Products))
fine-Level-true-Products = (tt, (tt, refl, (λ b. refl), implies1 _ _ refl, tt), refl, implies2 _ _ refl, implies2 _ _ refl, inl tt)

fine-Level-false-Products : Fine (rule (Level false Products))
fine-Level-false-Products = (tt, (tt, refl, (λ b. refl), implies1 _ _ refl, tt), refl, implies2 _ _ refl, implies2 _ _ refl, inl tt)

fine-Level-true-Sums : Fine (rule (Level true Sums))
fine-Level-true-Sums = (tt, (tt, refl, (λ b. refl), implies1 _ _ refl, tt), refl, implies2 _ _ refl, implies2 _ _ refl, inl tt)

fine-Level-false-Sums : Fine (rule (Level false Sums))
fine-Level-false-Sums = (tt, (tt, refl, (λ b. refl), implies1 _ _ refl, tt), refl, implies2 _ _ refl, implies2 _ _ refl, inl tt)

fine-Level-true-Shifts : Fine (rule (Level true Shifts))
fine-Level-true-Shifts = (tt, (tt, refl, (λ b. refl), implies1 _ _ refl, tt), refl, implies2 _ _ refl, implies2 _ _ refl, inl tt)

fine-Level-false-Shifts : Fine (rule (Level false Shifts))
fine-Level-false-Shifts = (tt, (tt, refl, (λ b. refl), implies1 _ _ refl, tt), refl, implies2 _ _ refl, implies2 _ _ refl, inl tt)

fine-Level-true-Orders : Fine (rule (Level true Orders))
fine-Level-true-Orders = (tt, (tt, refl, (λ b. refl), implies1 _ _ refl, tt), refl, implies2 _ _ refl, implies2 _ _ refl, inl tt)

fine-Level-false-Orders : Fine (rule (Level false Orders))
fine-Level-false-Orders = (tt, (tt, refl, (λ b. refl), implies1 _ _ refl, tt), refl, implies2 _ _ refl, implies2 _ _ refl, inl tt)

fine-Level-true-Equalities : Fine (rule (Level true Equalities))
fine-Level-true-Equalities = (tt, (tt, refl, (λ b. refl), implies1 _ _ refl, tt), refl, implies2 _ _ refl, implies2 _ _ refl, inl tt)

fine-Level-false-Equalities : Fine (rule (Level false Equalities))
fine-Level-false-Equalities = (tt, (tt, refl, (λ b. refl), implies1 _ _ refl, tt), refl, implies2 _ _ refl, implies2 _ _ refl, inl tt)

fine-Level-true-BitAnds : Fine (rule (Level true BitAnds))
fine-Level-true-BitAnds = (tt, (tt, refl, (λ b. refl), implies1 _ _ refl, tt), refl, implies2 _ _ refl, implies2 _ _ refl, inl tt)

fine-Level-false-BitAnds : Fine (rule (Level false BitAnds))
fine-Level-false-BitAnds = (tt, (tt, refl, (λ b. refl), implies1 _ _ refl, tt), refl, implies2 _ _ refl, implies2 _ _ refl, inl tt)

fine-Level-true-BitXors : Fine (rule (Level true BitXors))
fine-Level-true-BitXors = (tt, (tt, refl, (λ b. refl), implies1 _ _ refl, tt), refl, implies2 _ _ refl, implies2 _ _ refl, inl tt)

fine-Level-false-BitXors : Fine (rule (Level false BitXors))
fine-Level-false-BitXors = (tt, (tt, refl, (λ b. refl), implies1 _ _ refl, tt), refl, implies2 _ _ refl, implies2 _ _ refl, inl tt)

fine-Level-true-BitOrs : Fine (rule (Level true BitOrs))
fine-Level-true-BitOrs = (tt, (tt, refl, (λ b. refl), implies1 _ _ refl, tt), refl, implies2 _ _ refl, implies2 _ _ refl, inl tt)

fine-Level-false-BitOrs : Fine (rule (Level false BitOrs))
fine-Level-false-BitOrs = (tt, (tt, refl, (λ b. refl), implies1 _ _ refl, tt), refl, implies2 _ _ refl, implies2 _ _ refl, inl tt)

fine-Level-true-AndThens : Fine (rule (Level true AndThens))
fine-Level-true-AndThens = (tt, (tt, refl, (λ b. refl), implies1 _ _ refl, tt), refl, implies2 _ _ refl, implies2 _ _ refl, inl tt)

fine-Level-false-AndThens : Fine (rule (Level false AndThens))
fine-Level-false-AndThens = (tt, (tt, refl, (λ b. refl), implies1 _ _ refl, tt), refl, implies2 _ _ refl, implies2 _ _ refl, inl tt)

fine-Level-true-OrElses : Fine (rule (Level true OrElses))
fine-Level-true-OrElses = (tt, (tt, refl, (λ b. refl), implies1 _ _ refl, tt), refl, implies2 _ _ refl, implies2 _ _ refl, inl tt)

fine-Level-false-OrElses : Fine (rule (Level false OrElses))
fine-Level-false-OrElses = (tt, (tt, refl, (λ b. refl), implies1 _ _ refl, tt), refl, implies2 _ _ refl, implies2 _ _ refl, inl tt)

fine-Expression-true : Fine (rule (Expression true))
fine-Expression-true = (tt, ((((tt, implies1 _ _ refl), tt, implies2 _ _ refl, implies1 _ _ refl), refl, (λ b. refl), implies1 _ _ refl, never1 _ refl), tt, refl, disjoint2 _ _ refl, never1 _ refl), implies2 _ _ refl, implies1 _ _ refl)

fine-Expression-false : Fine (rule (Expression false))
fine-Expression-false = (tt, ((((tt, implies1 _ _ refl), tt, implies2 _ _ refl, implies1 _ _ refl), refl, (λ b. refl), implies1 _ _ refl, never1 _ refl), tt, refl, disjoint2 _ _ refl, never1 _ refl), implies2 _ _ refl, implies1 _ _ refl)

fine-Values : Fine (rule Values)
fine-Values = (tt, (tt, tt, implies2 _ _ refl, implies1 _ _ refl), refl, implies2 _ _ refl, implies2 _ _ refl, inr (never3 _ _ _ refl refl refl))

fine-Keyed : Fine (rule Keyed)
fine-Keyed = (tt, ((tt, (tt, implies1 _ _ refl), implies2 _ _ refl, implies1 _ _ refl), tt, refl, disjoint2 _ _ refl, never1 _ refl), implies2 _ _ refl, implies1 _ _ refl)

fine-Assignable : Fine (rule Assignable)
fine-Assignable = (tt, tt, refl, disjoint2 _ _ refl, never1 _ refl)

fine-Int : Fine (rule Int)
fine-Int = (tt, (tt, tt, implies2 _ _ refl, implies1 _ _ refl), refl, disjoint2 _ _ refl, never1 _ refl)

fine-Aggregation : Fine (rule Aggregation)
fine-Aggregation = ((tt, (tt, tt, implies2 _ _ refl, implies1 _ _ refl), implies2 _ _ refl, implies1 _ _ refl), ((tt, (tt, (tt, implies1 _ _ refl), implies2 _ _ refl, implies1 _ _ refl), implies2 _ _ refl, implies1 _ _ refl), (tt, (tt, (((tt, implies1 _ _ refl), ((tt, implies1 _ _ refl), ((tt, implies1 _ _ refl), tt, implies2 _ _ refl, implies1 _ _ refl), implies2 _ _ refl, implies1 _ _ refl), implies2 _ _ refl, implies1 _ _ refl), implies1 _ _ refl), implies2 _ _ refl, implies1 _ _ refl), implies2 _ _ refl, implies1 _ _ refl), refl, disjoint2 _ _ refl, never1 _ refl), refl, disjoint2 _ _ refl, never1 _ refl)

fine-Update : Fine (rule Update)
fine-Update = ((tt, tt, implies2 _ _ refl, implies1 _ _ refl), tt, refl, disjoint2 _ _ refl, never1 _ refl)

fine-AfterMap : Fine (rule AfterMap)
fine-AfterMap = ((tt, (tt, tt, refl, disjoint2 _ _ refl, never1 _ refl), implies2 _ _ refl, implies1 _ _ refl), tt, refl, disjoint2 _ _ refl, never1 _ refl)

fine-AfterVar : Fine (rule AfterVar)
fine-AfterVar = ((tt, tt, implies2 _ _ refl, implies1 _ _ refl), tt, refl, disjoint2 _ _ refl, never1 _ refl)

fine-Printf : Fine (rule Printf)
fine-Printf = (tt, ((tt, (tt, (tt, tt, implies2 _ _ refl, implies1 _ _ refl), refl, implies2 _ _ refl, implies2 _ _ refl, inr (never3 _ _ _ refl refl refl)), implies2 _ _ refl, implies1 _ _ refl), implies1 _ _ refl), implies2 _ _ refl, implies1 _ _ refl)

fine-Print : Fine (rule Print)
fine-Print = (tt, ((tt, (((tt, tt, implies2 _ _ refl, implies1 _ _ refl), ((tt, tt, implies2 _ _ refl, implies1 _ _ refl), tt, refl, disjoint2 _ _ refl, never1 _ refl), implies2 _ _ refl, implies1 _ _ refl), tt, refl, disjoint2 _ _ refl, never1 _ refl), implies2 _ _ refl, implies1 _ _ refl), implies1 _ _ refl), implies2 _ _ refl, implies1 _ _ refl)

fine-Delete : Fine (rule Delete)
fine-Delete = (tt, (tt, (tt, ((tt, ((tt, implies1 _ _ refl), implies1 _ _ refl), implies2 _ _ refl, implies1 _ _ refl), (tt, (tt, implies1 _ _ refl), implies2 _ _ refl, implies1 _ _ refl), refl, disjoint2 _ _ refl, never1 _ refl), refl, disjoint2 _ _ refl, never1 _ refl), implies2 _ _ refl, implies1 _ _ refl), implies2 _ _ refl, implies1 _ _ refl)

fine-CallOrJump : Fine (rule CallOrJump)
fine-CallOrJump = ((tt, tt, implies2 _ _ refl, implies1 _ _ refl), ((tt, tt, implies2 _ _ refl, implies1 _ _ refl), ((tt, (tt, (tt, implies1 _ _ refl), implies2 _ _ refl, implies1 _ _ refl), implies2 _ _ refl, implies1 _ _ refl), ((tt, (tt, (tt, implies1 _ _ refl), implies2 _ _ refl, implies1 _ _ refl), implies2 _ _ refl, implies1 _ _ refl), ((tt, tt, implies2 _ _ refl, implies1 _ _ refl), ((tt, (tt, tt, implies2 _ _ refl, implies1 _ _ refl), implies2 _ _ refl, implies1 _ _ refl), (tt, (tt, tt, refl, disjoint2 _ _ refl, never1 _ refl), refl, disjoint2 _ _ refl, never1 _ refl), refl, disjoint2 _ _ refl, never1 _ refl), refl, disjoint2 _ _ refl, never1 _ refl), refl, disjoint2 _ _ refl, never1 _ refl), refl, disjoint2 _ _ refl, never1 _ refl), refl, disjoint2 _ _ refl, never1 _ refl), refl, disjoint2 _ _ refl, never1 _ refl)

fine-Simple : Fine (rule Simple)
fine-Simple = ((tt, tt, implies2 _ _ refl, implies1 _ _ refl), ((tt, tt, implies2 _ _ refl, implies1 _ _ refl), ((tt, tt, implies2 _ _ refl, implies1 _ _ refl), tt, refl, disjoint2 _ _ refl, never1 _ refl), refl, disjoint2 _ _ refl, never1 _ refl), refl, disjoint2 _ _ refl, never1 _ refl)

fine-Arm : Fine (rule Arm)
fine-Arm = ((tt, (tt, implies1 _ _ refl), implies2 _ _ refl, implies1 _ _ refl), tt, implies2 _ _ refl, implies1 _ _ refl)

fine-Tail : Fine (rule Tail)
fine-Tail = ((tt, (((tt, tt, implies2 _ _ refl, implies1 _ _ refl), tt, implies2 _ _ refl, implies1 _ _ refl), tt, refl, disjoint2 _ _ refl, never1 _ refl), implies2 _ _ refl, implies1 _ _ refl), tt, refl, disjoint2 _ _ refl, never1 _ refl)

fine-Control : Fine (rule Control)
fine-Control = ((tt, (tt, tt, implies2 _ _ refl, implies1 _ _ refl), implies2 _ _ refl, implies1 _ _ refl), ((tt, tt, implies2 _ _ refl, implies1 _ _ refl), (tt, ((tt, (tt, implies1 _ _ refl), implies2 _ _ refl, implies1 _ _ refl), tt, implies2 _ _ refl, implies1 _ _ refl), implies2 _ _ refl, implies1 _ _ refl), refl, disjoint2 _ _ refl, never1 _ refl), refl, disjoint2 _ _ refl, never1 _ refl)

fine-Body : Fine (rule Body)
fine-Body = (tt, ((tt, tt, implies2 _ _ refl, implies1 _ _ refl), (tt, ((tt, tt, implies2 _ _ refl, implies1 _ _ refl), tt, refl, disjoint2 _ _ refl, never1 _ refl), implies2 _ _ refl, implies1 _ _ refl), refl, disjoint2 _ _ refl, never1 _ refl), refl, disjoint2 _ _ refl, never1 _ refl)

fine-Braced : Fine (rule Braced)
fine-Braced = (tt, tt, implies2 _ _ refl, implies1 _ _ refl)

fine-Points : Fine (rule Points)
fine-Points = (tt, (tt, tt, implies2 _ _ refl, implies1 _ _ refl), refl, implies2 _ _ refl, implies2 _ _ refl, inr (never3 _ _ _ refl refl refl))

fine-OneProbe : Fine (rule OneProbe)
fine-OneProbe = (tt, (((tt, (tt, implies1 _ _ refl), implies2 _ _ refl, implies1 _ _ refl), tt, refl, disjoint2 _ _ refl, never1 _ refl), tt, implies2 _ _ refl, implies1 _ _ refl), implies2 _ _ refl, implies1 _ _ refl)

fine-WholeScript : Fine (rule WholeScript)
fine-WholeScript = (tt, tt, refl, implies2 _ _ refl, implies2 _ _ refl, inr (never3 _ _ _ refl refl refl))

pub fine_rule : (n : Part) → Fine (rule n)
fine_rule Primary = fine-Primary
fine_rule Unary = fine-Unary
fine_rule (Level true Products) = fine-Level-true-Products
fine_rule (Level false Products) = fine-Level-false-Products
fine_rule (Level true Sums) = fine-Level-true-Sums
fine_rule (Level false Sums) = fine-Level-false-Sums
fine_rule (Level true Shifts) = fine-Level-true-Shifts
fine_rule (Level false Shifts) = fine-Level-false-Shifts
fine_rule (Level true Orders) = fine-Level-true-Orders
fine_rule (Level false Orders) = fine-Level-false-Orders
fine_rule (Level true Equalities) = fine-Level-true-Equalities
fine_rule (Level false Equalities) = fine-Level-false-Equalities
fine_rule (Level true BitAnds) = fine-Level-true-BitAnds
fine_rule (Level false BitAnds) = fine-Level-false-BitAnds
fine_rule (Level true BitXors) = fine-Level-true-BitXors
fine_rule (Level false BitXors) = fine-Level-false-BitXors
fine_rule (Level true BitOrs) = fine-Level-true-BitOrs
fine_rule (Level false BitOrs) = fine-Level-false-BitOrs
fine_rule (Level true AndThens) = fine-Level-true-AndThens
fine_rule (Level false AndThens) = fine-Level-false-AndThens
fine_rule (Level true OrElses) = fine-Level-true-OrElses
fine_rule (Level false OrElses) = fine-Level-false-OrElses
fine_rule (Expression true) = fine-Expression-true
fine_rule (Expression false) = fine-Expression-false
fine_rule Values = fine-Values
fine_rule Keyed = fine-Keyed
fine_rule Assignable = fine-Assignable
fine_rule Int = fine-Int
fine_rule Aggregation = fine-Aggregation
fine_rule Update = fine-Update
fine_rule AfterMap = fine-AfterMap
fine_rule AfterVar = fine-AfterVar
fine_rule Printf = fine-Printf
fine_rule Print = fine-Print
fine_rule Delete = fine-Delete
fine_rule CallOrJump = fine-CallOrJump
fine_rule Simple = fine-Simple
fine_rule Arm = fine-Arm
fine_rule Tail = fine-Tail
fine_rule Control = fine-Control
fine_rule Body = fine-Body
fine_rule Braced = fine-Braced
fine_rule Points = fine-Points
fine_rule OneProbe = fine-OneProbe
fine_rule WholeScript = fine-WholeScript
