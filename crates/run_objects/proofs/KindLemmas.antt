-- The operations at an object are its own, and its reply is of the operation's kind.
use Rattle.std.proofs.Common.{◌≡◌, ℕ, Bool, true, false, cond, List, [], ◌∷◌, ◌++◌, sym, refl, ap, ◌∙◌, subst}
use Rattle.std.specs.Prelude.{All}
use Rattle.std.specs.List.{AllByRecursion}
use Rattle.std.proofs.lemmas.List.Elements.{All-from_recursion}
use Rattle.bt_core.specs.declared.step.ObjectId.{ObjectId}
use Rattle.bt_core.specs.declared.step.ObjectId.TheVariants.{Shared, Cpu, Clock, Out}
use Rattle.bt_core.specs.declared.step.Op.{Op}
use Rattle.bt_core.specs.declared.step.Step.{Step}
use Rattle.bt_core.specs.Interaction.{last_reply}
use Rattle.bt_core.specs.Kinds.{IsFineDecl}
use Rattle.bt_core.specs.Ports.{CanStep, IsReplyOf}
use Rattle.bt_core.specs.Steps.{is_on, on_object, operations}
use Rattle.bt_core.proofs.InteractionLaws.{last_reply-append}
use Rattle.bt_core.proofs.StepLists.{is_same_object-true}
use Rattle.agg_core.proofs.KindLaws.{answer-kind}
use Rattle.turn_lock.specs.History.{Each}
use Rattle.run_objects.specs.Worlds.{World, setting_in, answers, IsOwn}

-- who makes an operation does not matter
pub can_any : (w : World) (a b : ℕ) (object : ObjectId) (op : Op) → CanStep (setting_in w a) object op → CanStep (setting_in w b) object op
can_any w a b (Shared m p) op h = h
can_any w a b (Cpu c) op h = h
can_any w a b Clock op h = h
can_any w a b Out op h = h

own_by : (w : World) (object : ObjectId) (s : Step) (rest : List Op) (b : Bool) → is_on object s ≡ b → IsOwn w s.object s.op → AllByRecursion (IsOwn w object) rest
    → AllByRecursion (IsOwn w object) (cond b (s.op ∷ rest) rest)
own_by w object s rest true e h all = (subst (λ o. IsOwn w o s.op) (is_same_object-true s.object object e) h, all)
own_by w object s rest false e h all = all

pub operations_by : (b : Bool) (s : Step) (steps : List Step) → operations (cond b (s ∷ steps) steps) ≡ cond b (s.op ∷ operations steps) (operations steps)
operations_by true s steps = refl
operations_by false s steps = refl

own_operations : (w : World) (object : ObjectId) (steps : List Step) → Each (λ (s : Step). IsOwn w s.object s.op) steps → AllByRecursion (IsOwn w object) (operations (on_object object steps))
own_operations w object [] h = tt
own_operations w object (s ∷ ss) h = subst (AllByRecursion (IsOwn w object)) (sym (operations_by (is_on object s) s (on_object object ss)))
    (own_by w object s (operations (on_object object ss)) (is_on object s) refl h.0 (own_operations w object ss h.1))

pub answer_is_of_its_kind : (w : World) (object : ObjectId) (op : Op) (steps : List Step) → All IsFineDecl w.maps → Each (λ (s : Step). IsOwn w s.object s.op) steps → IsOwn w object op
    → IsReplyOf w.maps object op (answers w object (operations (on_object object steps)) op)
answer_is_of_its_kind w object op steps fine possible own =
    answer-kind (setting_in w 0) w.cpus object (operations (on_object object steps)) op fine
    (All-from_recursion (IsOwn w object) (operations (on_object object steps)) (own_operations w object steps possible)) own

-- so is the reply of the last step
pub last_is_of_its_kind : (w : World) (object : ObjectId) (op : Op) (steps new : List Step) (s : Step) → All IsFineDecl w.maps → Each (λ (s : Step). IsOwn w s.object s.op) steps → IsOwn w object op
    → new ≡ steps ++ s ∷ [] → s.reply ≡ answers w object (operations (on_object object steps)) op → IsReplyOf w.maps object op (last_reply new)
last_is_of_its_kind w object op steps new s fine possible own grew is =
    subst (IsReplyOf w.maps object op) (sym (ap last_reply grew ∙ last_reply-append steps s ∙ is)) (answer_is_of_its_kind w object op steps fine possible own)
