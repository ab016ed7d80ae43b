use Rattle.std.proofs.Common.{rules, ◌≡◌, ◌++◌, [], ◌<◌, ◌-◌, length, take, sym, ap, ◌∙◌, subst}
use Rattle.std.proofs.lemmas.List.{append-nil}
use Rattle.bt_core.specs.declared.step.Step.{Step}
use Rattle.bt_core.specs.Interaction.{last_reply}
use Rattle.bt_core.specs.Steps.{of_actor}
use Rattle.std.proofs.Common.{List, get_or}
use Rattle.account_follow.proofs.FollowLemmas.{last_met, last_stray, not_empty}
use Rattle.account_follow.proofs.follow.last_of.Goals as goal

pub returns-then-is_empty : goal.returns-then-is_empty
returns-then-is_empty c =
    let w = c.args.walk.now in
    let none : w.strays ≡ [] = c.is_empty.ensures.0 c.if-is_empty.true in
    let all : of_actor w.actor (take w.at w.list) ++ w.strays ≡ of_actor w.actor (take w.at w.list) =
    ap (λ (l : List Step). of_actor w.actor (take w.at w.list) ++ l) none ∙ append-nil (of_actor w.actor (take w.at w.list)) in
    ap (λ (l : List Step). (get_or l (w.at - 1) c.index-as_slice-walk.result).reply) c.as_slice.ensures
    ∙ last_met w.actor w.list w.at c.index-as_slice-walk.result c.requires.follows.within c.requires.follows.last_own
    (subst (λ (l : List Step). 0 < length l) all c.requires.some)
    ∙ sym (ap last_reply all)

pub returns-else-is_empty : goal.returns-else-is_empty
returns-else-is_empty c =
    let w = c.args.walk.now in
    let some : 0 < length w.strays = not_empty w.strays (λ e. let t = c.is_empty.ensures.1 e in search rules) in
    let len : c.len.result ≡ length w.strays = search rules in
    ap (λ (l : List Step). (get_or l (c.len.result - 1) c.index-as_slice-len.result).reply) c.as_slice-else-is_empty.ensures
    ∙ ap (λ n. (get_or w.strays (n - 1) c.index-as_slice-len.result).reply) len
    ∙ last_stray (of_actor w.actor (take w.at w.list)) w.strays c.index-as_slice-len.result some
