-- The first fault of mentions in their order.
use Rattle.std.specs.Prelude.{◌≡◌, List, [], ◌∷◌, Option, Some, None, Result, Ok, Err, MatchResult}
use Rattle.bt_core.specs.declared.place.Place.{Place}
use Rattle.expr_types.specs.declared.fault.Fault.{Fault}
use Rattle.expr_types.specs.declared.fault.Rule.{Rule}
use Rattle.expr_types.specs.declared.fault.TypeError.{TypeError}
use Rattle.expr_types.specs.declared.fault.TypeError.TheVariants.{Broken, Memory}
use Rattle.expr_types.specs.declared.known.Known.{Known}
use Rattle.expr_types.specs.Mentions.{Point}
use Rattle.expr_types.specs.Known.{learn}
use Rattle.expr_types.specs.Rules.{broken_at}

-- what is known where no rule is broken, or the fault
abbrev pub unless_broken : Option Rule → Place → Result Known Fault → Result Known Fault
unless_broken None place others = others
unless_broken (Some rule) place others = Err (record { rule = rule; place = place })

-- what is known after all, or the first fault
abbrev pub judged : List Point → Known → Result Known Fault
judged [] k = Ok k
judged (p ∷ ps) k = unless_broken (broken_at k p.mention) p.place (judged ps (learn k p.mention))

-- an error says what is judged, but for want of memory
abbrev pub SaysFault : Result Known Fault → TypeError → Type 0
SaysFault verdict (Broken fault) = verdict ≡ Err fault
SaysFault verdict Memory = Unit {0}

-- an answer says what is judged, and what is known now
abbrev pub Says : {A : Type 0} → Result Known Fault → Known → Result A TypeError → Type 0
Says verdict now r = MatchResult r (λ a. verdict ≡ Ok now) (λ e. SaysFault verdict e)

-- an error is the fault at this place, but for want of memory
abbrev pub IsBreach : Option Rule → Place → TypeError → Type 0
IsBreach rule place (Broken fault) = (rule ≡ Some fault.rule) × (fault.place ≡ place)
IsBreach rule place Memory = Unit {0}

-- an answer is a refusal exactly where a rule is broken
abbrev pub Refuses : {A : Type 0} → Option Rule → Place → Result A TypeError → Type 0
Refuses rule place r = MatchResult r (λ a. rule ≡ None) (λ e. IsBreach rule place e)
