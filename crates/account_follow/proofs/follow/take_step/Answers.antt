use Rattle.std.proofs.Common.{rules, ℕ, ◌≡◌, ◌++◌, ◌+◌, [], ◌<◌, suc, List, length, take, map, sym, refl, ap, ◌∙◌, subst, arith, get_or}
use Rattle.std.proofs.lemmas.List.{append_assoc}
use Rattle.bt_core.specs.declared.step.Step.{Step}
use Rattle.bt_core.specs.Interaction.{last_reply, call_of}
use Rattle.bt_core.specs.Ports.{IsReplyOf}
use Rattle.bt_core.specs.Steps.{of_actor}
use Rattle.bt_core.proofs.InteractionLaws.{last_reply-append}
use Rattle.step_entries.specs.Blank.{blank_of, blank_call}
use Rattle.account_follow.specs.Following.{setting_of}
use Rattle.account_follow.proofs.FollowLemmas.{met_blanks, met_reply, by_result}
use Rattle.account_follow.proofs.follow.take_step.Goals as goal

pub returns-then-is_next-clause-blanks : goal.returns-then-is_next-clause-blanks
returns-then-is_next-clause-blanks c =
    let w = c.args.walk.now in
    let d = c.index-as_slice-at.result in
    let lt : c.skip_others-at.result < length w.list = search rules in
    let same : d ≡ get_or w.list c.skip_others-at.result d = c.index-as_slice-at.is ∙ ap (λ (l : List Step). get_or l c.skip_others-at.result d) c.as_slice-then-at-len.ensures in
    let own = subst (λ (l : List Step). c.skip_others-at.result < length l → (get_or l c.skip_others-at.result d).actor ≡ w.actor) c.as_slice.ensures (c.skip_others-at.ensures.own d) lt in
    let next = c.if-is_next.ensures.0 refl in
    ap (map (blank_of w.actor)) (c.set_op.ensures d)
    ∙ met_blanks (setting_of w) w.list c.skip_others-at.result w.at c.args.object c.args.op.now d lt own
    (subst (λ (s : Step). blank_call (call_of s) ≡ blank_call (record { object = c.args.object; op = c.args.op.now })) same next)

pub returns-then-is_next-clause-replied : goal.returns-then-is_next-clause-replied
returns-then-is_next-clause-replied c =
    let w = c.args.walk.now in
    let d = c.index-as_slice-at.result in
    let lt : c.skip_others-at.result < length w.list = search rules in
    let same : d ≡ get_or w.list c.skip_others-at.result d = c.index-as_slice-at.is ∙ ap (λ (l : List Step). get_or l c.skip_others-at.result d) c.as_slice-then-at-len.ensures in
    let own = subst (λ (l : List Step). c.skip_others-at.result < length l → (get_or l c.skip_others-at.result d).actor ≡ w.actor) c.as_slice.ensures (c.skip_others-at.ensures.own d) lt in
    let next = c.if-is_next.ensures.0 refl in
    let none : w.strays ≡ [] = c.is_empty.ensures.0 c.if-is_empty.true in
    let one : c.skip_others-at.result + 1 ≡ suc c.skip_others-at.result = omega arith in
    subst (λ (z : (List Step × ℕ) × List Step). IsReplyOf w.maps c.args.object c.args.op.now (last_reply (of_actor w.actor (take z.0.1 z.0.0) ++ z.1)))
    (λ i. ((sym (c.set_op.ensures d) i, sym one i), sym none i))
    (met_reply (setting_of w) w.list c.skip_others-at.result w.at c.args.object c.args.op.now d lt own
    (subst (λ (s : Step). blank_call (call_of s) ≡ blank_call (record { object = c.args.object; op = c.args.op.now })) same next) c.requires.follows.replies)

pub returns-clause-replied : goal.returns-clause-replied
returns-clause-replied c =
    let w = c.args.walk.now in
    by_result c.push_with.result (λ ok.
    subst (IsReplyOf w.maps c.args.object c.args.op.now)
    (sym (ap (λ (l : List Step). last_reply (of_actor w.actor (take w.at w.list) ++ l)) ok
    ∙ ap last_reply (sym (append_assoc (of_actor w.actor (take w.at w.list)) w.strays _)) ∙ last_reply-append (of_actor w.actor (take w.at w.list) ++ w.strays) _))
    c.empty_reply-reply.ensures) c.push_with.ensures.ok
