-- Replies as a program holds them.
use Rattle.std.specs.Prelude.{◌<◌, ℤ, FitsSigned, List, Option, Some, None}
use Rattle.std.specs.Int.{w64}
use Rattle.std.specs.List.{AllByRecursion}
use Rattle.bt_core.specs.declared.agg.Agg.{Agg}
use Rattle.bt_core.specs.declared.step.Reply.{Reply}
use Rattle.bt_core.specs.declared.step.Reply.TheVariants.{Value as ValueReply, Aggs as AggsReply}
use Rattle.bt_core.specs.declared.step.Step.{Step}
use Rattle.bt_core.specs.declared.value.Value.{Value}
use Rattle.bt_core.specs.declared.value.Value.TheVariants.{Int, Str}
use Rattle.bt_core.specs.Text.{IsShortText}

-- a number of 64 bits, or a string of bytes
abbrev pub IsHeldValue : Value → Type 0
IsHeldValue (Int number) = FitsSigned w64 number
IsHeldValue (Str text) = IsShortText text × AllByRecursion (λ b. b < 256) text

-- a number that is there has 64 bits
abbrev pub OptionFits : Option ℤ → Type 0
OptionFits None = Unit {0}
OptionFits (Some number) = FitsSigned w64 number

-- the numbers of an aggregate have 64 bits
pub record IsHeldAgg (agg : Agg) : Type 0 where
  pub count : FitsSigned w64 agg.count
  pub sum : FitsSigned w64 agg.sum
  pub least : OptionFits agg.least
  pub greatest : OptionFits agg.greatest

abbrev pub AreHeldAggs : List (List Value × Agg) → Type 0
AreHeldAggs rows = AllByRecursion (λ (row : List Value × Agg). IsHeldAgg row.1) rows

-- so is what a shared map answers, and what a table does; of other replies it says nothing
abbrev pub IsHeldReply : Reply → Type 0
IsHeldReply (ValueReply value) = IsHeldValue value
IsHeldReply (AggsReply rows) = AreHeldAggs rows
IsHeldReply reply = Unit {0}

-- so is what is replied in each of these steps
abbrev pub AreHeldReplies : List Step → Type 0
AreHeldReplies steps = AllByRecursion (λ (s : Step). IsHeldReply s.reply) steps
