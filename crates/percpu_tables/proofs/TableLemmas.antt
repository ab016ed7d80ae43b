-- The place of the tables of an actor, and the kind of their replies.
use Rattle.std.proofs.Common.{◌≡◌, ℕ, ◌+◌, ◌<◌, List, refl, sym, ap, ◌∙◌, subst, arith, Some}
use Rattle.std.specs.Prelude.{All, slice_get}
use Rattle.bt_core.specs.declared.map.MapDecl.{MapDecl}
use Rattle.bt_core.specs.declared.step.ObjectId.{ObjectId}
use Rattle.bt_core.specs.declared.step.ObjectId.TheVariants.{Shared, Cpu, Clock, Out}
use Rattle.bt_core.specs.declared.step.Op.{Op}
use Rattle.bt_core.specs.Interaction.{last_reply}
use Rattle.bt_core.specs.Kinds.{IsFineDecl}
use Rattle.bt_core.specs.Ports.{IsTableOp, IsReplyOf}
use Rattle.agg_core.specs.Answers.{table_answer}
use Rattle.agg_core.proofs.KindLaws.{table_answer-kind}
use Rattle.stamped.specs.declared.trace.Trace.{Trace}
use Rattle.stamped.specs.Numbered.{numbered}
use Rattle.stamped.specs.SetSteps.{AreDistinct, IsReplied}
use Rattle.stamped.specs.Traces.{steps_of}
use Rattle.stamped.proofs.NumberedLemmas.{numbered_get, numbered_distinct}
use Rattle.stamped.proofs.OutcomeLemmas.{each_all}
use Rattle.percpu_tables.specs.Objects.{IsTableStep}

pub at_table : (maps : List MapDecl) (n : ℕ) (object : ObjectId) (op : Op) (place : ℕ) → IsTableStep maps n object op → ((a : ℕ) → object ≡ Cpu a → place ≡ a)
    → (place < n) × (object ≡ Cpu place) × IsTableOp maps op
at_table maps n (Shared m p) op place h is = absurd h
at_table maps n (Cpu a) op place h is = let e = is a refl in (subst (λ k. k < n) (sym e) h.0, ap Cpu (sym e), h.1)
at_table maps n Clock op place h is = absurd h
at_table maps n Out op place h is = absurd h

pub id_at : (ids : List ObjectId) (n place : ℕ) (object : ObjectId) → ids ≡ numbered Cpu 0 n → place < n → object ≡ Cpu place → slice_get ids place ≡ Some object
id_at ids n place object is lt e = ap (λ l. slice_get l place) is ∙ numbered_get Cpu 0 n place lt
    ∙ ap Some (ap Cpu (let z : 0 + place ≡ place = omega arith in z) ∙ sym e)

pub kind_at : (kinds : List (List MapDecl)) (maps : List MapDecl) (n place : ℕ) → kinds ≡ numbered (λ _. maps) 0 n → place < n → slice_get kinds place ≡ Some maps
kind_at kinds maps n place is lt = ap (λ l. slice_get l place) is ∙ numbered_get (λ _. maps) 0 n place lt

pub tables_are_distinct : (n : ℕ) → AreDistinct (numbered Cpu 0 n)
tables_are_distinct n = numbered_distinct Cpu (λ a b lt e. let q : a ≡ b = cc in omega arith) 0 n

pub reply_kind : (maps : List MapDecl) (object : ObjectId) (op : Op) (place : ℕ) (trace : Trace) → All IsFineDecl maps → object ≡ Cpu place → IsTableOp maps op
    → IsReplied (IsTableOp maps) (table_answer maps) op trace → IsReplyOf maps object op (last_reply (steps_of trace))
reply_kind maps object op place trace fine is own r = subst (λ o. IsReplyOf maps o op (last_reply (steps_of trace))) (sym is)
    (subst (IsReplyOf maps (Cpu place) op) (sym r.replied) (table_answer-kind maps r.before op fine (each_all (IsTableOp maps) r.before r.own) own))
