-- The steps of the first lists, with one list more.
use Rattle.std.proofs.Common.{◌≡◌, ℕ, zero, suc, ◌+◌, ◌<◌, ◌≤◌, List, [], ◌∷◌, ◌++◌, length, get_or, take, append-nil, sym, ap, ◌∙◌, add-one, arith}
use Rattle.std.proofs.Math.Seq.{take-suc}
use Rattle.std.proofs.lemmas.List.{length-append}
use Rattle.std.proofs.lemmas.List.Concat.{flat_map-append}
use Rattle.bt_core.specs.declared.step.Step.{Step}
use Rattle.step_list.specs.HeldReplies.{AreHeldReplies}
use Rattle.step_list.specs.declared.list.StepList.{StepList}
use Rattle.step_list.specs.Lists.{steps_in}
use Rattle.step_list.proofs.HeldLemmas.{held_append}
use Rattle.weave.specs.Listed.{listed}

pub listed_more : (ls : List StepList) (i : ℕ) (l : StepList) → i < length ls → l ≡ get_or ls i l → listed (take (i + 1) ls) ≡ listed (take i ls) ++ steps_in l
listed_more ls i l lt e =
    let t : take (i + 1) ls ≡ take i ls ++ l ∷ [] = ap (λ (n : ℕ). take n ls) (add-one i) ∙ (take-suc ls i l lt ∙ ap (λ (x : StepList). take i ls ++ x ∷ []) (sym e)) in
    ap listed t ∙ (flat_map-append steps_in (take i ls) (l ∷ []) ∙ ap (λ (z : List Step). listed (take i ls) ++ z) (append-nil (steps_in l)))

listed_part : (ls : List StepList) (i : ℕ) → length (listed (take i ls)) ≤ length (listed ls)
listed_part ls zero = omega arith
listed_part [] (suc i) = omega arith
listed_part (l ∷ ls) (suc i) =
    let rest = listed_part ls i in
    let part = length-append (steps_in l) (listed (take i ls)) in
    let whole = length-append (steps_in l) (listed ls) in
    omega (arith, rest, part, whole)

-- the steps of the first lists and those of the next are no more than those of all
pub listed_within : (ls : List StepList) (i : ℕ) (l : StepList) → i < length ls → l ≡ get_or ls i l → length (listed (take i ls)) + length (steps_in l) ≤ length (listed ls)
listed_within ls i l lt e =
    let most = listed_part ls (i + 1) in
    let more : length (listed (take (i + 1) ls)) ≡ length (listed (take i ls)) + length (steps_in l) =
    ap length (listed_more ls i l lt e) ∙ length-append (listed (take i ls)) (steps_in l) in
    omega (arith, most, more)

pub one_more_copied : (ls : List StepList) (i : ℕ) (l : StepList) (found news : List Step) → i < length ls → l ≡ get_or ls i l → found ≡ listed (take i ls)
    → news ≡ found ++ steps_in l → news ≡ listed (take (i + 1) ls)
one_more_copied ls i l found news lt e h f = f ∙ (ap (λ (z : List Step). z ++ steps_in l) h ∙ sym (listed_more ls i l lt e))

pub listed_held : (ls : List StepList) → AreHeldReplies (listed ls)
listed_held [] = tt
listed_held (l ∷ ls) = held_append (steps_in l) (listed ls) l.held (listed_held ls)
