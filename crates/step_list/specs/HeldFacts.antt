-- That replies are as a program holds them is a fact: it has one proof at most.
use Rattle.std.specs.Prelude.{◌<◌, ◌≤◌, ◌≢◌, ℕ, ℤ, FitsSigned, List, Option, Some, None, length}
use Rattle.std.specs.Coded.{Unit-prop}
use Rattle.std.specs.Int.{w64}
use Rattle.std.specs.List.{AllByRecursion, AllByRecursion-prop}
use Rattle.std.proofs.Props.{props}
use Rattle.bt_core.specs.declared.limits.TheConstants.{STRING_BYTES}
use Rattle.bt_core.specs.declared.agg.Agg.{Agg}
use Rattle.bt_core.specs.declared.step.Reply.{Reply}
use Rattle.bt_core.specs.declared.step.Reply.TheVariants.{Value as ValueReply, Aggs as AggsReply}
use Rattle.bt_core.specs.declared.step.Step.{Step}
use Rattle.bt_core.specs.declared.value.Value.{Value}
use Rattle.bt_core.specs.declared.value.Value.TheVariants.{Int, Str}
use Rattle.bt_core.specs.Text.{IsShortText}
use Rattle.step_list.specs.HeldReplies.{IsHeldValue, OptionFits, IsHeldAgg, AreHeldAggs, IsHeldReply, AreHeldReplies}

text_prop : (text : List ℕ) → IsProp (IsShortText text)
text_prop text = λ one other i. record { short = short_prop one.short other.short i; no_zero = zero_prop one.no_zero other.no_zero i }
  where
    short_prop : IsProp (length text ≤ STRING_BYTES)
    short_prop = hlevel props

    zero_prop : IsProp (AllByRecursion (λ b. b ≢ 0) text)
    zero_prop = hlevel props

bytes_prop : (text : List ℕ) → IsProp (AllByRecursion (λ b. b < 256) text)
bytes_prop text = hlevel props

number_prop : (number : ℤ) → IsProp (FitsSigned w64 number)
number_prop number = hlevel props

value_prop : (value : Value) → IsProp (IsHeldValue value)
value_prop (Int number) = number_prop number
value_prop (Str text) = λ one other i. (text_prop text one.0 other.0 i, bytes_prop text one.1 other.1 i)

option_prop : (number : Option ℤ) → IsProp (OptionFits number)
option_prop None = Unit-prop
option_prop (Some number) = number_prop number

agg_prop : (agg : Agg) → IsProp (IsHeldAgg agg)
agg_prop agg = λ one other i. record {
  count = number_prop agg.count one.count other.count i;
  sum = number_prop agg.sum one.sum other.sum i;
  least = option_prop agg.least one.least other.least i;
  greatest = option_prop agg.greatest one.greatest other.greatest i;
}

aggs_prop : (rows : List (List Value × Agg)) → IsProp (AreHeldAggs rows)
aggs_prop rows = AllByRecursion-prop (λ (row : List Value × Agg). IsHeldAgg row.1) (λ row. agg_prop row.1) rows

reply_prop : (reply : Reply) → IsProp (IsHeldReply reply)
reply_prop (ValueReply value) = value_prop value
reply_prop (AggsReply rows) = aggs_prop rows
reply_prop _ = Unit-prop

pub held_prop : (steps : List Step) → IsProp (AreHeldReplies steps)
held_prop steps = AllByRecursion-prop (λ (s : Step). IsHeldReply s.reply) (λ s. reply_prop s.reply) steps
