-- Code that keeps typed instructions keeps the body that they were lowered from.
use Rattle.std.proofs.Common.{◌≡◌, ℕ, zero, suc, ◌<◌, List, [], ◌∷◌, length, map, Option, Some, None, Result, Ok, Err, refl, sym, ◌∙◌, subst, arith}
use Rattle.std.specs.Prelude.{slice_get, IsSomeAnd}
use Rattle.std.proofs.lemmas.Option.{slice_get_within}
use Rattle.bt_core.specs.declared.context.Context.{Context}
use Rattle.bt_core.specs.declared.ending.Ending.{Ending}
use Rattle.bt_core.specs.declared.map.MapDecl.{MapDecl}
use Rattle.bt_core.specs.declared.map.MapId.{MapId}
use Rattle.bt_core.specs.declared.map.MapKind.{MapKind}
use Rattle.bt_core.specs.declared.map.MapKind.TheVariants.{Ints, Strs, Aggs}
use Rattle.bt_core.specs.declared.step.ObjectId.{ObjectId}
use Rattle.bt_core.specs.declared.step.ObjectId.TheVariants.{Shared, Cpu, Clock, Out}
use Rattle.bt_core.specs.declared.step.Op.{Op}
use Rattle.bt_core.specs.declared.step.Op.TheVariants.{Get, Read}
use Rattle.bt_core.specs.declared.step.Reply.{Reply}
use Rattle.bt_core.specs.declared.step.Reply.TheVariants.{Done, Value as ValueReply, Pairs, Aggs as AggsReply, Last, Stopped}
use Rattle.bt_core.specs.declared.value.Value.{Value}
use Rattle.bt_core.specs.declared.value.Value.TheVariants.{Int, Str}
use Rattle.bt_core.specs.Interaction.{Call, Interaction, Ended, Asks}
use Rattle.bt_core.specs.Kinds.{IsOfKind}
use Rattle.bt_core.specs.Ports.{IsReplyOf, IsSharedReply}
use Rattle.bpf_insn.specs.declared.insn.Insn.{Insn}
use Rattle.bpf_insn.specs.declared.trap.Trap.{Trap}
use Rattle.bpf_interp.specs.declared.machine.Ended.{Ended as EndedRun}
use Rattle.event_record.specs.Contexts.{context_bytes}
use Rattle.fmt_text.specs.Arguments.{argument_shapes}
use Rattle.helper_abi.specs.Running.{script_run}
use Rattle.helper_abi.specs.Served.{desk_of}
use Rattle.typed_tree.specs.declared.body.TypedBody.{TypedBody}
use Rattle.typed_tree.specs.declared.script.Typed.{Typed}
use Rattle.bt_core.specs.Same.{SameTo}
use Rattle.walk_meaning.specs.Walk.{walk}
use Rattle.ir_code.specs.declared.probe.IrProbe.{IrProbe}
use Rattle.bt_lower.specs.Bodies.{IsLowered, LowersScript}
use Rattle.body_code.specs.Bodies.{IsDeskFor, IsEventFor, KeepsBody}
use Rattle.body_code.specs.Holding.{SameEnd}
use Rattle.body_code.specs.Replies.{AnswersAt, AnswersOp, AnswersTable, GivesValue, IsOwnReply, shape_held}
use Rattle.helper_abi.specs.Reading.{shape_of_kind}
use Rattle.body_code.specs.Words.{HasShape}
use Rattle.code_runs.specs.Agree.{Comes}
use Rattle.code_runs.specs.HeldReplies.{IsHeldReply, IsHeldValue}
use Rattle.code_runs.specs.Coding.{fuel_of}
use Rattle.code_runs.specs.Kept.{EndsByExit, IsSeen, KeepsWalk, KeepBodies}
use Rattle.script_programs.specs.Probes.{KeepProbes}

-- more replies are asked to fit, and the ends are alike in another way
turned : {A B : Type 0} (K L : Call → Reply → Type 0) (R S : A → B → Type 0) → ((call : Call) (reply : Reply) → L call reply → K call reply) → ((a : A) (b : B) → R a b → S a b)
    → (t : Interaction A) (u : Interaction B) → SameTo K R t u → SameTo L S t u
turned K L R S fits so (Ended a) (Ended b) same = so a b same
turned K L R S fits so (Ended a) (Asks d g) same = absurd same
turned K L R S fits so (Asks c f) (Ended b) same = absurd same
turned K L R S fits so (Asks c f) (Asks d g) same = (same.0, λ reply kind. turned K L R S fits so (f reply) (g reply) (same.1 reply (fits c reply kind)))

exits : (ending : Ending) (end : Result EndedRun Trap) → SameEnd ending end → EndsByExit ending end
exits ending (Ok ended) same = tt
exits ending (Err trap) same = absurd same

value_fits : (kind : MapKind) (value : Value) → IsOfKind kind value → IsHeldValue value → HasShape (shape_of_kind kind) value
value_fits Ints (Int n) is held = held
value_fits Ints (Str s) is held = absurd is
value_fits Strs (Int n) is held = absurd is
value_fits Strs (Str s) is held = held
value_fits (Aggs agg) (Int n) is held = absurd is
value_fits (Aggs agg) (Str s) is held = absurd is

get_fits : (o : Option MapDecl) (key : List Value) (reply : Reply) → IsSomeAnd o (λ decl. IsSharedReply decl (Get key) reply) → IsHeldReply reply → GivesValue (shape_held o) reply
get_fits None key reply is held = absurd is
get_fits (Some decl) key (ValueReply value) is held = (value, refl, value_fits decl.kind value is held)
get_fits (Some decl) key Done is held = absurd is
get_fits (Some decl) key (Pairs rows) is held = absurd is
get_fits (Some decl) key (AggsReply rows) is held = absurd is
get_fits (Some decl) key (Last last) is held = absurd is
get_fits (Some decl) key (Stopped stopped) is held = absurd is

at_op : (maps : List MapDecl) (m : MapId) (op : Op) (reply : Reply) → IsSomeAnd (slice_get maps m.0) (λ decl. IsSharedReply decl op reply) → IsHeldReply reply → AnswersOp maps m op reply
at_op maps m (Get key) reply is held = get_fits (slice_get maps m.0) key reply is held
at_op maps m op reply is held = tt

at_table : (op : Op) (reply : Reply) → IsHeldReply reply → AnswersTable op reply
at_table (Read m) reply held = held
at_table op reply held = tt

at_object : (maps : List MapDecl) (object : ObjectId) (op : Op) (reply : Reply) → IsReplyOf maps object op reply → IsHeldReply reply → AnswersAt maps object op reply
at_object maps (Shared m part) op reply is held = at_op maps m op reply is held
at_object maps (Cpu actor) op reply is held = at_table op reply held
at_object maps Clock op reply is held = tt
at_object maps Out op reply is held = tt

module _ {X : Type 0} where
  there : (xs : List X) (i : ℕ) → i < length xs → (x : X) × (slice_get xs i ≡ Some x)
  there [] i low = absurd (omega arith)
  there (x ∷ xs) zero low = (x, refl)
  there (x ∷ xs) (suc i) low = there xs i (omega arith)

module _ (script : Typed) (body : TypedBody) (probe : IrProbe) (code : List Insn) (lowered : IsLowered script.maps (map argument_shapes script.formats) body probe) (keeps : KeepsBody probe code) where
  desk_is : (actor actors : ℕ) → actor < actors → IsDeskFor probe (desk_of script actor actors)
  desk_is actor actors low = record { maps_are = sym lowered.maps_are; formats_are = sym lowered.formats_are; actor_is_below = low }

  event_is : (context : Context) (payload : List ℕ) → IsSeen body context payload → IsEventFor probe context payload
  event_is context payload seen = record {
    payload_is_long = (let reads = lowered.reads in let long = seen.long in omega (arith, reads, long));
    payload_is_short = seen.short;
    bytes = seen.bytes;
    length_is_named = seen.named;
    context_fits = record {
      time = seen.fits.time;
      start = seen.fits.start;
      pid = seen.fits.pid;
      tid = seen.fits.tid;
      uid = seen.fits.uid;
      gid = seen.fits.gid;
      cpu = seen.fits.cpu;
      comm = seen.fits.comm;
      comm_bytes = seen.fits.comm_bytes;
    };
  }

  -- replies of their kinds, as a program holds them, are those that code counts on
  fits : (call : Call) (reply : Reply) → Comes IsHeldReply script.maps call reply → IsOwnReply probe.maps call reply
  fits call reply comes = subst (λ (maps : List MapDecl). IsOwnReply maps call reply) (sym lowered.maps_are) (at_object script.maps call.object call.op reply comes.0 comes.1)

  pub keeps_walk : KeepsWalk script body code
  keeps_walk = record {
    well_formed = keeps.well_formed;
    begins = keeps.begins;
    same = λ context payload actor actors low seen.
        turned (IsOwnReply probe.maps) (Comes IsHeldReply script.maps) SameEnd EndsByExit fits exits (walk body context payload actor actors)
        (script_run (desk_of script actor actors) code (context_bytes context) payload (fuel_of code))
        (subst (λ (t : Interaction Ending). SameTo (IsOwnReply probe.maps) SameEnd t (script_run (desk_of script actor actors) code (context_bytes context) payload (fuel_of code)))
        (lowered.runs context payload actor actors) (keeps.same (desk_of script actor actors) context payload (desk_is actor actors low) (event_is context payload seen)));
  }

pub keep_bodies : (script : Typed) (probes : List IrProbe) (codes : List (List Insn)) → LowersScript script probes → KeepProbes probes codes → KeepBodies script codes
keep_bodies script probes codes lowers keep = record {
  as_many = keep.as_many ∙ lowers.as_many;
  each = λ n body code at is. (let within = slice_get_within script.bodies n body at in let many = lowers.as_many in
      let probe = there probes n (omega (arith, within, many)) in
      keeps_walk script body probe.0 code (lowers.each n body probe.0 at probe.1) (keep.each n probe.0 code probe.1 is));
}
