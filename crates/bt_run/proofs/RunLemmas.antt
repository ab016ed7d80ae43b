-- What a run writes depends on the operations at each object alone.
use Rattle.std.proofs.Common.{◌≡◌, ℕ, ◌+◌, cond, List, [], ◌∷◌, ◌++◌, map, sum, sym, refl, ap, ◌∙◌, subst, append-nil}
use Rattle.std.specs.Prelude.{Option, Some, None, IsSomeAnd, slice_get}
use Rattle.std.specs.List.{AllByRecursion, filter_map, flat_map, cons_option}
use Rattle.std.specs.List.Sorted.{IsPermutation}
use Rattle.std.proofs.lemmas.List.Elements.{All-from_recursion}
use Rattle.std.proofs.lemmas.List.Sorted.{IsPermutation-sym}
use Rattle.bt_core.specs.declared.item.Cell.{Cell}
use Rattle.bt_core.specs.declared.item.Item.{Item}
use Rattle.bt_core.specs.declared.value.Value.{Value}
use Rattle.bt_core.specs.declared.map.MapDecl.{MapDecl}
use Rattle.bt_core.specs.declared.step.ObjectId.{ObjectId}
use Rattle.bt_core.specs.declared.step.ObjectId.TheVariants.{Shared, Cpu, Clock, Out}
use Rattle.bt_core.specs.declared.step.Op.{Op}
use Rattle.bt_core.specs.declared.step.Op.TheVariants.{Emit}
use Rattle.bt_core.specs.declared.step.Step.{Step}
use Rattle.bt_core.specs.Kinds.{IsFineDecl, IsShared}
use Rattle.bt_core.specs.Ports.{IsSharedOp, IsTableOp, IsClockOp}
use Rattle.bt_core.specs.Steps.{is_on, is_same_object, on_object, operations}
use Rattle.agg_core.specs.Answers.{answer}
use Rattle.json_out.specs.Lines.{end_lines, item_lines}
use Rattle.map_printer.specs.Ends.{end_text}
use Rattle.map_printer.specs.ItemTexts.{item_text}
use Rattle.map_rows.specs.Items.{IsItemOf}
use Rattle.map_rows.specs.Merged.{merged}
use Rattle.map_rows.proofs.MergedFitting.{merged_fit}
use Rattle.turn_lock.specs.History.{Each}
use Rattle.typed_tree.specs.declared.script.Typed.{Typed}
use Rattle.weave.specs.Order.{InOrder}
use Rattle.weave.proofs.Among.{each_has as each_member, each_from as each_of}
use Rattle.weave.proofs.Rising.{has_moved}
use Rattle.walk_meaning.specs.Admits.{EmitsOnly}
use Rattle.map_ops.specs.declared.sweep.Sweep.TheVariants as sweeps
use Rattle.map_ops.specs.Holders.{sweep_op}
use Rattle.bt_meaning.specs.Instructions.{instructions_of}
use Rattle.bt_meaning.specs.Interleavings.{IsReplayed}
use Rattle.bt_meaning.specs.Jobs.{IsJob}
use Rattle.bt_meaning.specs.OwnSteps.{IsOwnStep}
use Rattle.bt_meaning.specs.Prints.{emitted, item_in, operations_at, holders_of, lost_by, rows_after, lost_after, of_maps, printed_text}
use Rattle.actor_plan.specs.Plans.{Plan}
use Rattle.bt_meaning.specs.Replays.{Replay}
use Rattle.bt_meaning.specs.Serial.{unstamped, serial_steps}
use Rattle.bt_meaning.proofs.Eachs.{each_from, each_has, each_so}
use Rattle.bt_meaning.specs.Texts.{EmitOwn}
use Rattle.bt_meaning.specs.Walks.{replay_of}
use Rattle.bt_meaning.proofs.OwnCalls.{all_fine, script_steps}
use Rattle.bt_meaning.proofs.SerialLaws.{serial_interleaves}
use Rattle.bpf_insn.specs.declared.insn.Insn.{Insn}
use Rattle.code_runs.specs.Agree.{AllReplies}
use Rattle.code_runs.specs.HeldReplies.{IsHeldReply}
use Rattle.code_runs.specs.Coding.{code_replay, coding}
use Rattle.code_runs.specs.Programs.{AreCodesOf}
use Rattle.step_list.specs.declared.list.StepList.{StepList}
use Rattle.step_list.specs.Lists.{steps_in}
use Rattle.weave.specs.Listed.{listed}
use Rattle.run_output.specs.declared.job.Job.{Job}
use Rattle.run_objects.specs.declared.closed.Closed.{Closed}
use Rattle.run_output.specs.Jobs.{cpus_in, world_for}
use Rattle.run_output.specs.declared.form.Form.{Form}
use Rattle.run_output.specs.declared.form.Form.TheVariants.{Text, Json}
use Rattle.run_output.specs.JsonLines.{json_text_of}
use Rattle.run_output.specs.Outputs.{output_of}
use Rattle.bt_run.specs.Made.{IsMade}
use Rattle.run_objects.specs.Closed.{AreClosedAt}
use Rattle.bt_run.specs.Ran.{HasRun}
use Rattle.bt_run.specs.declared.run.Ran.{Ran}
use Rattle.run_objects.specs.Worlds.{World, IsOwn}
use Rattle.bt_run.proofs.Finals.{at_objects, by_actor, replayed, operations_same, operations_serial}
use Rattle.run_objects.proofs.KindLemmas.{operations_by}
use Rattle.bt_run.proofs.SerialCount.{instructions_same, serial_counts}

-- ---- what is emitted stands at the output

not_shared : (o : Option MapDecl) (op : Op) → IsSomeAnd o (λ decl. IsShared decl.kind × IsSharedOp decl op) → item_in op ≡ None
not_shared None op h = absurd h
not_shared (Some d) (Emit item) h = absurd h.1
not_shared (Some d) op h = refl

not_tables : (maps : List MapDecl) (op : Op) → IsTableOp maps op → item_in op ≡ None
not_tables maps (Emit item) h = absurd h
not_tables maps op h = refl

not_clock : (ticks : ℕ) (op : Op) → IsClockOp ticks op → item_in op ≡ None
not_clock ticks (Emit item) h = absurd h
not_clock ticks op h = refl

by_object : (w : World) (o : ObjectId) (op : Op) (items : List Item) (rest : List Op) → IsOwn w o op → items ≡ filter_map item_in rest
    → cons_option (item_in op) items ≡ filter_map item_in (cond (is_same_object o Out) (op ∷ rest) rest)
by_object w (Shared m p) op items rest h e = ap (λ x. cons_option x items) (not_shared (slice_get w.maps m.0) op h.1) ∙ e
by_object w (Cpu a) op items rest h e = ap (λ x. cons_option x items) (not_tables w.maps op h.1) ∙ e
by_object w Clock op items rest h e = ap (λ x. cons_option x items) (not_clock w.ticks op h) ∙ e
by_object w Out op items rest h e = ap (cons_option (item_in op)) e

pub emitted_out : (w : World) (steps : List Step) → Each (λ (s : Step). IsOwn w s.object s.op) steps → emitted steps ≡ filter_map item_in (operations_at Out steps)
emitted_out w [] h = refl
emitted_out w (s ∷ ss) h = by_object w s.object s.op (emitted ss) (operations (on_object Out ss)) h.0 (emitted_out w ss h.1)
    ∙ ap (filter_map item_in) (sym (operations_by (is_on Out s) s (on_object Out ss)))

own_unstamped : (w : World) (steps : List Step) → Each (λ (s : Step). IsOwn w s.object s.op) steps → Each (λ (s : Step). IsOwn w s.object s.op) (map unstamped steps)
own_unstamped w [] h = tt
own_unstamped w (s ∷ ss) h = (h.0, own_unstamped w ss h.1)

-- ---- the same output

module _ (script : Typed) (cpus : ℕ) (xs ys : List Step) (same : (object : ObjectId) → operations_at object xs ≡ operations_at object ys) where
  pub rows_same : (n : ℕ) (decls : List MapDecl) → of_maps (rows_after script.maps cpus xs) n decls ≡ of_maps (rows_after script.maps cpus ys) n decls
  rows_same n decls = λ i. of_maps (λ m decl. merged decl.kind (map (λ object. answer script.maps cpus object (same object i) (sweep_op sweeps.Read decl.kind m)) (holders_of script.maps cpus decl.kind m))) n decls

  pub losses_same : (n : ℕ) (decls : List MapDecl) → of_maps (lost_after script.maps cpus xs) n decls ≡ of_maps (lost_after script.maps cpus ys) n decls
  losses_same n decls = λ i. of_maps (λ m decl. sum (map (λ object. lost_by decl.kind m (same object i)) (holders_of script.maps cpus decl.kind m))) n decls

  -- whatever is made of what is emitted, of the rows and of the lost updates
  told_same : (told : List Item → List (List (List Value × Cell)) → List ℕ → List ℕ) → emitted xs ≡ emitted ys
      → told (emitted xs) (of_maps (rows_after script.maps cpus xs) 0 script.maps) (of_maps (lost_after script.maps cpus xs) 0 script.maps)
      ≡ told (emitted ys) (of_maps (rows_after script.maps cpus ys) 0 script.maps) (of_maps (lost_after script.maps cpus ys) 0 script.maps)
  told_same told e = λ i. told (e i) (rows_same 0 script.maps i) (losses_same 0 script.maps i)

  pub output_same : (form : Form) → emitted xs ≡ emitted ys → output_of form script cpus xs ≡ output_of form script cpus ys
  unfolding printed_text json_text_of
  output_same Text e = told_same (λ items rows lost. flat_map (item_text script.formats script.maps) items ++ end_text script.maps rows lost) e
  output_same Json e = told_same (λ items rows lost. flat_map (item_lines script.formats script.maps) items ++ end_lines script.maps rows lost) e

  -- what is told of the maps after the one list is told after the other
  pub output_then : (told : ℕ → List ℕ) (rows : List (List (List Value × Cell))) (lost : List ℕ) (output : List ℕ)
      → rows ≡ of_maps (rows_after script.maps cpus xs) 0 script.maps → lost ≡ of_maps (lost_after script.maps cpus xs) 0 script.maps
      → ((cpus : ℕ) → rows ≡ of_maps (rows_after script.maps cpus ys) 0 script.maps → lost ≡ of_maps (lost_after script.maps cpus ys) 0 script.maps
      → output ≡ told cpus)
      → output ≡ told cpus
  output_then told rows lost output are were is = is cpus (are ∙ rows_same 0 script.maps) (were ∙ losses_same 0 script.maps)

-- ---- one list alone

pub one_list : (l : StepList) (before lists : List StepList) → before ≡ [] → lists ≡ before ++ l ∷ [] → listed lists ≡ steps_in l
one_list l before lists none is = ap listed (is ∙ ap (λ x. x ++ l ∷ []) none) ∙ append-nil (steps_in l)

-- ---- whole runs

held_unstamped : (steps : List Step) → AllReplies IsHeldReply steps → AllReplies IsHeldReply (map unstamped steps)
held_unstamped [] h = tt
held_unstamped (s ∷ ss) h = (h.0, held_unstamped ss h.1)

module _ (job : Job) (is_job : IsJob job.typed job.attached job.recording) (codes : List (List Insn))
    (closed : Closed) (made steps : List Step) (n : ℕ) (is : IsMade job (coding job.typed codes (cpus_in job + 1)) closed made n) (moved : IsPermutation made steps) (order : InOrder steps)
    (held : AllReplies IsHeldReply steps) (means : IsReplayed (code_replay job.typed codes job.attached job.recording) steps → IsReplayed (replay_of job.typed job.attached job.recording) steps)
    (same_list : AllReplies IsHeldReply (serial_steps (code_replay job.typed codes job.attached job.recording))
    → serial_steps (code_replay job.typed codes job.attached job.recording) ≡ serial_steps (replay_of job.typed job.attached job.recording)) where
  abbrev coded : Replay
  coded = code_replay job.typed codes job.attached job.recording

  abbrev plans : ℕ → Plan
  plans = coding job.typed codes (cpus_in job + 1)

  coded_replayed : IsReplayed (code_replay job.typed codes job.attached job.recording) steps
  coded_replayed = replayed job plans closed made steps n is moved order (serial_interleaves coded is_job.valid is_job.in_turn (λ actor. refl))

  run_replayed : IsReplayed (replay_of job.typed job.attached job.recording) steps
  run_replayed = means coded_replayed

  -- the lists of the serial runs are one
  made_held : AllReplies IsHeldReply made
  made_held = each_from (λ (s : Step). IsHeldReply s.reply) made (λ s h. each_has (λ (s : Step). IsHeldReply s.reply) steps s held (has_moved made steps s moved h))

  same_serial : serial_steps (code_replay job.typed codes job.attached job.recording) ≡ serial_steps (replay_of job.typed job.attached job.recording)
  same_serial = same_list (subst (AllReplies IsHeldReply) (sym is.is_serial) (held_unstamped made made_held))

  run_serial_steps : (object : ObjectId) → map unstamped (on_object object steps) ≡ on_object object (serial_steps (replay_of job.typed job.attached job.recording))
  run_serial_steps object = at_objects job plans closed made steps n is moved order object ∙ ap (on_object object) same_serial

  own_steps : AllByRecursion (IsOwnStep job.typed job.attached job.recording) steps
  own_steps = script_steps job.typed job.attached job.recording is_job merged_fit steps run_replayed.interleaving

  emit_own : EmitOwn job.typed steps
  emit_own = each_so (IsOwnStep job.typed job.attached job.recording) (λ (s : Step). EmitsOnly (IsItemOf job.typed.formats job.typed.maps) s.op) (λ s own. own.0.1) steps own_steps

  run_moment : AreClosedAt (record { world = world_for job; steps = made }) closed
  run_moment = record {
    fine = All-from_recursion IsFineDecl job.typed.maps (all_fine job.typed.maps job.typed.fine);
    possible = is.possible;
    stand = is.stand;
  }

  run_same : (object : ObjectId) → operations_at object made ≡ operations_at object steps
  run_same object = operations_same job plans closed made steps n is moved order object

  possible : Each (λ (s : Step). IsOwn (world_for job) s.object s.op) steps
  possible = each_of (λ (s : Step). IsOwn (world_for job) s.object s.op) steps
      (λ s h. each_member (λ (s : Step). IsOwn (world_for job) s.object s.op) made s is.possible (has_moved steps made s (IsPermutation-sym made steps moved) h))

  run_prints_serial : (form : Form) → output_of form job.typed (cpus_in job) steps
      ≡ output_of form job.typed (cpus_in job) (serial_steps (replay_of job.typed job.attached job.recording))
  run_prints_serial form =
      let serial = serial_steps (code_replay job.typed codes job.attached job.recording) in
      let same = λ (object : ObjectId). operations_serial job plans closed made steps n is moved order object in
      let own : Each (λ (s : Step). IsOwn (world_for job) s.object s.op) serial = subst (Each (λ (s : Step). IsOwn (world_for job) s.object s.op)) (sym is.is_serial) (own_unstamped (world_for job) made is.possible) in
      output_same job.typed (cpus_in job) steps serial same form
      (emitted_out (world_for job) steps possible ∙ ap (filter_map item_in) (same Out) ∙ sym (emitted_out (world_for job) serial own))
      ∙ ap (output_of form job.typed (cpus_in job)) same_serial

  run_counts : n ≡ instructions_of (code_replay job.typed codes job.attached job.recording) steps
  run_counts = is.counted ∙ serial_counts coded is_job.valid is_job.in_turn (λ actor. refl)
      ∙ sym (instructions_same coded steps (serial_steps coded) (λ a. by_actor job plans closed made steps n is moved order a))

  -- with these steps seen before they were put in order
  pub has_run : (ran : Ran) → ran.objects ≡ closed → steps_in ran.made.value ≡ made → ran.steps ≡ steps → ran.instructions ≡ n
      → ((others : List (List Insn)) → AreCodesOf job.programs others → codes ≡ others) → HasRun job ran
  has_run ran o m s c only = record {
    replayed = subst (IsReplayed (replay_of job.typed job.attached job.recording)) (sym s) run_replayed;
    serial = λ object. ap (λ l. map unstamped (on_object object l)) s ∙ run_serial_steps object;
    printed_serial = λ form. ap (output_of form job.typed (cpus_in job)) s ∙ run_prints_serial form;
    counted = λ others are. c ∙ run_counts ∙ (λ i. instructions_of (code_replay job.typed (only others are i) job.attached job.recording) (sym s i));
    own = subst (EmitOwn job.typed) (sym s) emit_own;
    moment = subst (λ (z : List Step × Closed). AreClosedAt (record { world = world_for job; steps = z.0 }) z.1) (λ i. (sym m i, sym o i)) run_moment;
    same = λ object. ap (operations_at object) m ∙ run_same object ∙ ap (operations_at object) (sym s);
  }
