use Rattle.std.proofs.Common.{◌≡◌, ℕ, false, true, pos, [], ◌∷◌, refl, ap, inl, arith}
use Rattle.std.specs.Int.{int_wrap}
use Rattle.std.specs.Prelude.{nat_abs}
use Rattle.bt_core.specs.declared.item.Item.TheVariants.{Printf}
use Rattle.bt_core.specs.declared.step.ObjectId.{ObjectId}
use Rattle.bt_core.specs.declared.step.ObjectId.TheVariants.{Clock, Out}
use Rattle.bt_core.specs.declared.step.Op.TheVariants.{Emit, Stop}
use Rattle.bt_core.specs.declared.step.Reply.{Reply}
use Rattle.bt_core.specs.declared.step.Reply.TheVariants.{Aggs, Done}
use Rattle.bt_core.specs.Interaction.{Call}
use Rattle.actor_plan.specs.Agendas.{agenda_of}
use Rattle.map_rows.specs.Merged.{merged}
use Rattle.meaning_tests.specs.Intervals.{printing, prints_of}
use Rattle.meaning_tests.specs.Refused.{cut_short, early_end, one_left_out, too_early}
use Rattle.meaning_tests.specs.Serial.{checks, get, set, stopped_by_count}
use Rattle.meaning_tests.specs.Written.{adds, crosses, emits, reads, step}
use Rattle.meaning_tests.proofs.Refusing.{none_late, whole_of}
use Rattle.meaning_tests.proofs.refused.these_are_none.Goals as goal

-- how many ones a reply tells
abbrev told : Reply → ℕ
told (Aggs (row ∷ rows)) = nat_abs row.1.count
told reply = 0

abbrev is_clock : ObjectId → ℕ
is_clock Clock = 1
is_clock object = 0

pub returns-clause-from_the_future : goal.returns-clause-from_the_future
unfolding int_wrap
returns-clause-from_the_future c it =
    let says : ◌≡◌ {A = ℕ} 2 1 = ap told (it.replies (adds 0 ∷ adds 1 ∷ crosses 0 0 false ∷ crosses 1 0 true ∷ []) (reads 1 0 2)
    (reads 1 1 1 ∷ reads 1 2 0 ∷ emits 1 3 ∷ adds 0 ∷ adds 1 ∷ crosses 0 1 false ∷ crosses 1 1 true ∷ prints_of 1 2 2 4) refl) in
    omega arith

pub returns-clause-too_early : goal.returns-clause-too_early
unfolding agenda_of int_wrap
returns-clause-too_early c it =
    let w = whole_of printing too_early it refl refl 0 (omega arith) in
    let clock : ◌≡◌ {A = ℕ} 1 0 = ap (λ (d : Call). is_clock d.object) w.runs.0 in omega arith

pub returns-clause-one_left_out : goal.returns-clause-one_left_out
unfolding agenda_of int_wrap
returns-clause-one_left_out c it =
    let w = whole_of printing one_left_out it refl refl 0 (omega arith) in
    let clock : ◌≡◌ {A = ℕ} 1 0 = ap (λ (d : Call). is_clock d.object) w.runs.1.1.0 in omega arith

pub returns-clause-cut_short : goal.returns-clause-cut_short
unfolding agenda_of merged int_wrap
returns-clause-cut_short c it =
    let w = whole_of printing cut_short it refl refl 1 (omega arith) in w.runs.1.1.1.1.1.1.1.1

pub returns-clause-early_end : goal.returns-clause-early_end
returns-clause-early_end c it =
    none_late stopped_by_count early_end it refl
    (checks 0 false ∷ adds 0 ∷ get (pos 0) ∷ set (pos 1) ∷ get (pos 1)
    ∷ checks 0 false ∷ adds 0 ∷ get (pos 1) ∷ set (pos 2) ∷ get (pos 2) ∷ step 0 Clock Stop Done ∷ [])
    (step 1 Out (Emit (Printf 0 [])) Done) (checks 0 true ∷ []) (checks 0 true) refl (inl refl) refl (omega arith)
