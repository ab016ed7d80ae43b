-- A part of a map, its operations and the kind of its replies.
use Rattle.std.proofs.Common.{◌≡◌, ℕ, zero, suc, ◌+◌, ◌<◌, List, [], ◌∷◌, map, get_or, refl, sym, ap, subst, arith, Option, None, Some}
use Rattle.std.specs.Prelude.{slice_get, IsSomeAnd}
use Rattle.bt_core.specs.declared.map.MapDecl.{MapDecl}
use Rattle.bt_core.specs.declared.map.MapId.{MapId}
use Rattle.bt_core.specs.declared.step.ObjectId.{ObjectId}
use Rattle.bt_core.specs.declared.step.ObjectId.TheVariants.{Shared, Cpu, Clock, Out}
use Rattle.bt_core.specs.declared.step.Op.{Op}
use Rattle.bt_core.specs.declared.step.Reply.{Reply}
use Rattle.bt_core.specs.Interaction.{last_reply}
use Rattle.bt_core.specs.Kinds.{IsShared}
use Rattle.bt_core.specs.Ports.{IsSharedOp, IsSharedReply, IsReplyOf}
use Rattle.agg_core.specs.Answers.{shared_answer}
use Rattle.agg_core.proofs.KindLaws.{shared_answer-kind}
use Rattle.stamped.specs.declared.trace.Trace.{Trace}
use Rattle.stamped.specs.SetSteps.{IsReplied}
use Rattle.stamped.specs.Traces.{steps_of}
use Rattle.stamped.proofs.OutcomeLemmas.{each_all}
use Rattle.step_objects.specs.CpuTables.{map_at}
use Rattle.map_ops.specs.Parts.{part_count}
use Rattle.map_ops.proofs.PartLaws.{shared_has_part}
use Rattle.shared_maps.specs.Parts.{Part, IsMapPart, IsPartStep, IsPartFor, parts_from, firsts_from}
use Rattle.shared_maps.proofs.PlaceLemmas.{part_place}

pub there_is : {A : Type 0} (P : A → Type 0) (o : Option A) → IsSomeAnd o P → (x : A) × (o ≡ Some x) × P x
there_is P (Some x) h = (x, refl, h)
there_is P None h = absurd h

some_and : {A : Type 0} (P Q : A → Type 0) (o : Option A) → ((x : A) → P x → Q x) → IsSomeAnd o P → IsSomeAnd o Q
some_and P Q (Some x) f h = f x h
some_and P Q None f h = absurd h

pub step_is_at_part : (maps : List MapDecl) (object : ObjectId) (op : Op) → IsPartStep maps object op → IsMapPart maps object
step_is_at_part maps (Shared m p) op h = (h.0, some_and (λ (d : MapDecl). IsShared d.kind × IsSharedOp d op) (λ (d : MapDecl). IsShared d.kind) (slice_get maps m.0) (λ d s. s.0) h.1)
step_is_at_part maps (Cpu a) op h = absurd h
step_is_at_part maps Clock op h = absurd h
step_is_at_part maps Out op h = absurd h

-- the place that is counted from where the map's parts begin
pub part_there : (maps : List MapDecl) (m : MapId) (p first : ℕ) → IsMapPart maps (Shared m p) → first ≡ get_or (firsts_from 0 maps) m.0 first
    → IsSomeAnd (slice_get (parts_from 0 maps) (first + p)) (IsPartFor maps (Shared m p))
part_there maps m p first h at =
    let d = there_is (λ (d : MapDecl). IsShared d.kind) (slice_get maps m.0) h.1 in let lt : p < part_count d.0.kind = shared_has_part d.0.kind p d.2 h.0 in
    let e = part_place 0 0 [] maps m.0 p first d.0 refl d.1 lt at in let z : 0 + m.0 ≡ m.0 = omega arith in
    subst (λ o. IsSomeAnd o (IsPartFor maps (Shared m p))) (sym e)
    (ap (λ n. Shared (map_at n) p) z, ap map_at z, d.1)

module _ (maps : List MapDecl) where
  pub the_object : (object : ObjectId) (part : Part) → IsPartFor maps object part → part.0 ≡ object
  the_object (Shared m p) part h = h.0
  the_object (Cpu a) part h = absurd h
  the_object Clock part h = absurd h
  the_object Out part h = absurd h

  -- the operation is the part's own, and its map is shared
  pub the_own : (object : ObjectId) (op : Op) (part : Part) → IsPartStep maps object op → IsPartFor maps object part → IsShared part.1.decl.kind × IsSharedOp part.1.decl op
  the_own (Shared m p) op part h is = subst (λ o. IsSomeAnd o (λ (d : MapDecl). IsShared d.kind × IsSharedOp d op)) is.2 h.1
  the_own (Cpu a) op part h is = absurd h
  the_own Clock op part h is = absurd h
  the_own Out op part h is = absurd h

  of_map : (object : ObjectId) (op : Op) (reply : Reply) (part : Part) → IsPartFor maps object part → IsSharedReply part.1.decl op reply → IsReplyOf maps object op reply
  of_map (Shared m p) op reply part is h = subst (λ o. IsSomeAnd o (λ (d : MapDecl). IsSharedReply d op reply)) (sym is.2) h
  of_map (Cpu a) op reply part is h = absurd is
  of_map Clock op reply part is h = absurd is
  of_map Out op reply part is h = absurd is

  pub reply_kind : (object : ObjectId) (op : Op) (part : Part) (trace : Trace) → IsPartStep maps object op → IsPartFor maps object part
      → IsReplied (IsSharedOp part.1.decl) (shared_answer part.1.decl.kind) op trace → IsReplyOf maps object op (last_reply (steps_of trace))
  reply_kind object op part trace h is r = let own = the_own object op part h is in
      of_map object op (last_reply (steps_of trace)) part is
      (subst (IsSharedReply part.1.decl op) (sym r.replied) (shared_answer-kind part.1.decl r.before op own.0 (each_all (IsSharedOp part.1.decl) r.before r.own)))

-- what is at the same place of both lists
pub of_part : {A : Type 0} (f : Part → A) (parts : List Part) (k : ℕ) (part : Part) → slice_get parts k ≡ Some part → slice_get (map f parts) k ≡ Some (f part)
of_part f [] k part e = let no : ⊥ = cc in absurd no
of_part f (x ∷ xs) zero part e = let same : part ≡ x = cc in ap (λ z. Some (f z)) (sym same)
of_part f (x ∷ xs) (suc k) part e = of_part f xs k part e
