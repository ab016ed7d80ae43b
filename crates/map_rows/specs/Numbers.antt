-- The numbers of aggregates.
use Rattle.std.specs.Prelude.{ℤ, pos, Option, Some, None}
use Rattle.bt_core.specs.declared.agg.Agg.{Agg}
use Rattle.bt_core.specs.declared.map.AggKind.{AggKind}
use Rattle.bt_core.specs.declared.map.AggKind.TheVariants.{Count, Sum, Min, Max, Avg, Hist, Lhist}
use Rattle.bt_core.specs.declared.operator.BinOp.TheVariants.{Div}
use Rattle.bt_core.specs.Arithmetic.{binary_value}

-- what the operator `/` of scripts gives: truncated, and 0 where the divisor is 0
abbrev pub whole_quotient : ℤ → ℤ → ℤ
whole_quotient a b = binary_value Div a b

-- a number, or 0 where there is none
abbrev pub number_or_zero : Option ℤ → ℤ
number_or_zero None = pos 0
number_or_zero (Some n) = n

-- an average is the sum divided by the count
abbrev pub number_by : AggKind → Agg → ℤ
number_by Count a = a.count
number_by Sum a = a.sum
number_by Min a = number_or_zero a.least
number_by Max a = number_or_zero a.greatest
number_by Avg a = whole_quotient a.sum a.count
number_by Hist a = pos 0
number_by (Lhist min max step) a = pos 0

-- the value of an aggregate that is no histogram
abbrev pub number_of : Agg → ℤ
number_of a = number_by a.kind a
