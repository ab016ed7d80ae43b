-- What is judged of two lists of mentions, one behind the other.
use Rattle.std.proofs.Common.{◌≡◌, ◌++◌, List, [], ◌∷◌, Option, Some, None, Result, Ok, Err}
use Rattle.bt_core.specs.declared.place.Place.{Place}
use Rattle.expr_types.specs.declared.fault.Fault.{Fault}
use Rattle.expr_types.specs.declared.fault.Rule.{Rule}
use Rattle.expr_types.specs.declared.known.Known.{Known}
use Rattle.expr_types.specs.Mentions.{Point}
use Rattle.expr_types.specs.Known.{learn}
use Rattle.expr_types.specs.Rules.{broken_at}
use Rattle.expr_types.specs.Judge.{unless_broken, judged}

goes_on : (b : Option Rule) (place : Place) (u v w : Result Known Fault) (k : Known) → unless_broken b place u ≡ Ok k → (u ≡ Ok k → v ≡ w) → unless_broken b place v ≡ w
goes_on None place u v w k h f = f h
goes_on (Some rule) place u v w k h f = cc

stops : (b : Option Rule) (place : Place) (u v : Result Known Fault) (f : Fault) → unless_broken b place u ≡ Err f → (u ≡ Err f → v ≡ Err f) → unless_broken b place v ≡ Err f
stops None place u v f h go = go h
stops (Some rule) place u v f h go = h

pub judged_ok : (ps qs : List Point) (before k : Known) → judged ps before ≡ Ok k → judged (ps ++ qs) before ≡ judged qs k
judged_ok [] qs before k h = cc
judged_ok (p ∷ ps) qs before k h =
    goes_on (broken_at before p.mention) p.place (judged ps (learn before p.mention)) (judged (ps ++ qs) (learn before p.mention)) (judged qs k) k h
    (λ e. judged_ok ps qs (learn before p.mention) k e)

pub judged_err : (ps qs : List Point) (before : Known) (f : Fault) → judged ps before ≡ Err f → judged (ps ++ qs) before ≡ Err f
judged_err [] qs before f h = cc
judged_err (p ∷ ps) qs before f h =
    stops (broken_at before p.mention) p.place (judged ps (learn before p.mention)) (judged (ps ++ qs) (learn before p.mention)) f h
    (λ e. judged_err ps qs (learn before p.mention) f e)
