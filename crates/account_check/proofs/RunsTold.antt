-- Entries can tell of the steps of a run.
use Rattle.std.proofs.Common.{◌≡◌, ℕ, List, [], ◌∷◌, ◌++◌, refl, sym, subst, arith}
use Rattle.std.specs.List.{AllByRecursion}
use Rattle.bt_ast.specs.declared.attached.Attached.{Attached}
use Rattle.bt_core.specs.declared.map.MapDecl.{MapDecl}
use Rattle.bt_core.specs.declared.step.ObjectId.{ObjectId}
use Rattle.bt_core.specs.declared.step.ObjectId.TheVariants.{Shared, Cpu}
use Rattle.bt_core.specs.declared.step.Op.{Op}
use Rattle.bt_core.specs.declared.step.Op.TheVariants.{Get, Set, Delete, Add}
use Rattle.bt_core.specs.declared.step.Step.{Step}
use Rattle.bt_core.specs.Interaction.{Call, Interaction, Ended, Asks, Begins}
use Rattle.bt_core.specs.Ports.{IsReplyOf}
use Rattle.bt_core.specs.Steps.{is_of, of_actor}
use Rattle.recordings.specs.declared.recording.Recording.{Recording}
use Rattle.typed_tree.specs.declared.script.Typed.{Typed}
use Rattle.map_rows.specs.Items.{IsItemOf}
use Rattle.map_rows.proofs.MergedFitting.{merged_fit}
use Rattle.walk_meaning.specs.Admits.{EmitsOnly}
use Rattle.actor_plan.specs.Plans.{AsksOf}
use Rattle.bt_meaning.specs.Interleavings.{IsReplayed}
use Rattle.bt_meaning.specs.Jobs.{IsJob}
use Rattle.bt_meaning.specs.OwnSteps.{IsOwnStep}
use Rattle.bt_meaning.specs.Replays.{PlansAreOwn}
use Rattle.bt_meaning.specs.Texts.{EmitOwn}
use Rattle.bt_meaning.proofs.Eachs.{each_so, each_front, each_kept}
use Rattle.bt_meaning.proofs.OwnCalls.{script_steps}
use Rattle.begun_meaning.specs.Begun.{IsBegun, program_of}
use Rattle.begun_meaning.proofs.Cuts.{cuts_of_each, each_of_cuts}
use Rattle.begun_meaning.proofs.WholeLists.{begun_of_replayed}
use Rattle.total_laws.specs.Calls.{IsProgramCall}
use Rattle.account_format.specs.Entries.{FitsStep, IsAtHome, IsTold}
use Rattle.account_check.specs.Accounts.{named, run}

-- a call of a program is at home
at_home : (actor : ℕ) (object : ObjectId) (op : Op) → IsProgramCall actor object op → IsAtHome actor object op
at_home actor (Shared m part) (Get key) h = h
at_home actor (Shared m part) (Set key value) h = h
at_home actor (Shared m part) (Delete key) h = h
at_home actor (Cpu table) (Add m key number) h = h
at_home actor object op h = tt

-- what comes next in a computation is one of its calls, where the replies so far are of their kinds
next_is : {A : Type 0} (calls : ObjectId → Op → Type 0) (maps : List MapDecl) (t : Interaction A) (xs : List Step) (s : Step) → AsksOf calls maps t → Begins t (xs ++ s ∷ [])
    → AllByRecursion (λ (u : Step). IsReplyOf maps u.object u.op u.reply) xs → calls s.object s.op
next_is calls maps (Ended a) [] s asks begins kinds = absurd begins
next_is calls maps (Ended a) (x ∷ xs) s asks begins kinds = absurd begins
next_is calls maps (Asks c f) [] s asks begins kinds = subst (λ (d : Call). calls d.object d.op) (sym begins.0) asks.0
next_is calls maps (Asks c f) (x ∷ xs) s asks begins kinds =
    next_is calls maps (f x.reply) xs s (asks.1 x.reply (subst (λ (d : Call). IsReplyOf maps d.object d.op x.reply) begins.0 kinds.0)) begins.1 kinds.1

module _ (script : Typed) (attached : Attached) (r : Recording) where
  pub plans_own : PlansAreOwn (run script attached r)
  plans_own actor = refl

  -- each actor makes calls of programs alone
  abbrev pub MakeCalls : Type 0
  MakeCalls = (actor : ℕ) → AsksOf (IsProgramCall actor) script.maps (program_of (run script attached r) actor)

  module _ (job : IsJob script attached r) (steps : List Step) (replayed : IsReplayed (run script attached r) steps) where
    own : AllByRecursion (IsOwnStep script attached r) steps
    own = script_steps script attached r job (λ decl rs all. merged_fit decl rs all) steps replayed.interleaving

    -- what is emitted has a text
    pub emit_own : EmitOwn script steps
    emit_own = each_so (IsOwnStep script attached r) (λ (s : Step). EmitsOnly (IsItemOf script.formats script.maps) s.op) (λ s h. h.0.1) steps own

    begun : IsBegun (run script attached r) steps
    begun = begun_of_replayed (run script attached r) plans_own steps replayed

    kinds : (before : List Step) (s : Step) (after : List Step) → steps ≡ before ++ s ∷ after → AllByRecursion (λ (u : Step). IsReplyOf script.maps u.object u.op u.reply) (of_actor s.actor before)
    kinds before s after cut = each_kept (λ (u : Step). IsReplyOf script.maps u.object u.op u.reply) (is_of s.actor) before
        (each_so (IsOwnStep script attached r) (λ (u : Step). IsReplyOf script.maps u.object u.op u.reply) (λ u h. h.1) before
        (each_front (IsOwnStep script attached r) before (s ∷ after) (subst (AllByRecursion (IsOwnStep script attached r)) cut own)))

    home : MakeCalls → (before : List Step) (s : Step) (after : List Step) → steps ≡ before ++ s ∷ after → IsAtHome s.actor s.object s.op
    home calls before s after cut = at_home s.actor s.object s.op
        (next_is (IsProgramCall s.actor) script.maps (program_of (run script attached r) s.actor) (of_actor s.actor before) s (calls s.actor)
        (begun before s after cut).asked (kinds before s after cut))

    pub steps_told : MakeCalls → AllByRecursion FitsStep steps → AllByRecursion (IsTold (named script attached r)) steps
    steps_told calls fits = each_of_cuts (IsTold (named script attached r)) [] steps (λ before s after cut. record {
      fits = cuts_of_each FitsStep steps fits before s after cut;
      actor = (let le = (begun before s after cut).actor in omega arith);
      own = (cuts_of_each (IsOwnStep script attached r) steps own before s after cut).0.0;
      home = home calls before s after cut;
    })
