-- Reads see beginnings.
use Rattle.std.proofs.Common.{◌≡◌, ℕ, ◌&&◌, Bool, List, [], ◌∷◌, ◌++◌, map, refl, sym, ap, ◌∙◌}
use Rattle.std.specs.Prelude.{not}
use Rattle.std.specs.List.{filter}
use Rattle.std.proofs.lemmas.List.{append-nil, reverse-append}
use Rattle.std.proofs.lemmas.List.Elements.{filter-append}
use Rattle.bt_core.specs.declared.map.MapDecl.{MapDecl}
use Rattle.bt_core.specs.declared.map.MapId.{MapId}
use Rattle.bt_core.specs.declared.step.ObjectId.TheVariants.{Cpu}
use Rattle.bt_core.specs.declared.step.Op.{Op}
use Rattle.bt_core.specs.declared.step.Op.TheVariants.{Read}
use Rattle.bt_core.specs.declared.step.Reply.TheVariants.{Aggs}
use Rattle.bt_core.specs.declared.step.Step.{Step}
use Rattle.bt_core.specs.Steps.{is_of, is_on, of_actor, on_object, operations}
use Rattle.agg_core.specs.Aggregates.{aggregate}
use Rattle.agg_core.specs.Answers.{table_change, table_answer, back, agg_kind_in}
use Rattle.agg_core.specs.Changes.{Leaves, rows_of}
use Rattle.bt_meaning.specs.Interleavings.{IsInterleaving}
use Rattle.bt_meaning.specs.Replays.{Replay, answers_of}
use Rattle.total_laws.specs.Reads.{is_add, is_read, add_steps_of, BeginsWith, SeesBeginning}
use Rattle.total_laws.proofs.Leaving.{counts, rows_are}

-- ---- reads change no answer at tables

abbrev stays : Op → Bool
stays op = not (is_read op)

back_more : (m : MapId) (op : Op) (ops : List Op) → back (table_change m) (op ∷ ops) ≡ back (table_change m) ops ++ table_change m op ∷ []
back_more m op ops = reverse-append (table_change m op ∷ []) (map (table_change m) ops)

back_are : (m : MapId) (ops : List Op) → filter counts (back (table_change m) ops) ≡ filter counts (back (table_change m) (filter stays ops))
back_are m [] = refl
back_are m (Read n ∷ ops) =
    ap (filter counts) (back_more m (Read n) ops) ∙ filter-append counts (back (table_change m) ops) (Leaves ∷ [])
    ∙ append-nil (filter counts (back (table_change m) ops)) ∙ back_are m ops
back_are m (op ∷ ops) =
    ap (filter counts) (back_more m op ops) ∙ filter-append counts (back (table_change m) ops) (table_change m op ∷ [])
    ∙ ap (λ cs. cs ++ filter counts (table_change m op ∷ [])) (back_are m ops)
    ∙ sym (filter-append counts (back (table_change m) (filter stays ops)) (table_change m op ∷ []))
    ∙ sym (ap (filter counts) (back_more m op (filter stays ops)))

pass_over_reads : (maps : List MapDecl) (ops : List Op) (op : Op) → table_answer maps ops op ≡ table_answer maps (filter stays ops) op
pass_over_reads maps ops (Read m) = let made = aggregate (agg_kind_in maps m) in
    ap Aggs
    (sym (rows_are made (back (table_change m) ops)) ∙ ap (rows_of made) (back_are m ops) ∙ rows_are made (back (table_change m) (filter stays ops)))
pass_over_reads maps ops op = refl

-- ---- beginnings

begins : (actor : ℕ) (before : List Step) (s : Step) (after : List Step) (steps : List Step) → steps ≡ before ++ s ∷ after
    → BeginsWith (add_steps_of actor steps) (add_steps_of actor before)
begins actor before s after steps e = let test : Step → Bool = λ x. is_on (Cpu actor) x && is_add x.op in (
  filter test (of_actor actor (s ∷ after)),
  ap (add_steps_of actor) e ∙ ap (filter test) (filter-append (is_of actor) before (s ∷ after)) ∙ filter-append test (of_actor actor before) (of_actor actor (s ∷ after)),
)

pub sees_beginning : (p : Replay) (actor : ℕ) (steps : List Step) → IsInterleaving p steps
    → (before : List Step) (s : Step) (after : List Step) → steps ≡ before ++ s ∷ after → s.object ≡ Cpu actor → SeesBeginning p actor steps before s
sees_beginning p actor steps is before s after e at = record {
  sees = begins actor before s after steps e;
  grows = λ earlier r later q. begins actor earlier r later before q;
  reply =
      is.replies before s after e ∙ (λ i. answers_of p (at i) (operations (on_object (at i) before)) s.op)
      ∙ pass_over_reads p.maps (operations (on_object (Cpu actor) before)) s.op;
}
