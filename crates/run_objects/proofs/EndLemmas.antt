-- What is read of a map at the end, of the objects that hold it.
use Rattle.std.proofs.Common.{◌≡◌, ℕ, ◌<◌, ◌≤◌, ◌^◌, List, length, sum, Result, Ok, Err, IfOk, OnErr, Vec, Global, sym, ap, ◌∙◌, subst, arith}
use Rattle.std.specs.Prelude.{All, Some, slice_get, slice_index_or}
use Rattle.std.proofs.lemmas.Option.{slice_get_within}
use Rattle.bt_core.specs.declared.map.AggKind.{AggKind}
use Rattle.bt_core.specs.declared.map.MapDecl.{MapDecl}
use Rattle.bt_core.specs.declared.map.MapId.{MapId}
use Rattle.bt_core.specs.declared.map.MapKind.TheVariants.{Aggs}
use Rattle.bt_core.specs.declared.memory.Memory.{Memory}
use Rattle.bt_core.specs.declared.step.ObjectId.TheVariants.{Shared, Cpu}
use Rattle.bt_core.specs.declared.step.Reply.{Reply}
use Rattle.bt_core.specs.declared.step.Step.{Step}
use Rattle.bt_core.specs.Kinds.{IsShared}
use Rattle.step_objects.specs.declared.cpu.CpuTable.{CpuTable}
use Rattle.step_objects.specs.declared.shared.SharedPart.{SharedPart}
use Rattle.step_objects.specs.Objects.{shared_kind, SharedStands, cpu_kind, CpuStands}
use Rattle.bt_meaning.specs.Prints.{read_of, lost_after}
use Rattle.run_objects.specs.declared.closed.Closed.{Closed}
use Rattle.run_objects.specs.Closed.{AreParts, AreClosedAt}
use Rattle.run_objects.specs.Moments.{Moment, table_reply, table_lost, part_reply, part_lost, of_first}
use Rattle.run_objects.specs.Objects.{AllStandAt, IsPartOf}
use Rattle.run_objects.proofs.MapReads.{table_reads, table_losses, part_reads, part_losses}

module _ (at : Moment) (closed : Closed) (m : MapId) (decl : MapDecl) (is : AreClosedAt at closed) (there : slice_get at.world.maps m.0 ≡ Some decl) where
  -- ---- an aggregation

  pub tables_reply : (tables : List CpuTable) → tables ≡ closed.tables.items → (kind : AggKind) → decl.kind ≡ Aggs kind → (r : Result (Vec Reply Global) Memory)
      → IfOk r (λ replies. (maps : List MapDecl) (steps : List Step) → AllStandAt cpu_kind CpuStands (λ ms. ms ≡ maps) steps Cpu tables → replies.items ≡ of_first (table_reply maps steps m) (length tables))
      → IfOk r (λ replies. replies.items ≡ read_of at.world.maps at.world.cpus decl.kind m at.steps)
  tables_reply tables same kind e (Err x) h = tt
  tables_reply tables same kind e (Ok replies) h =
      h at.world.maps at.steps (subst (AllStandAt cpu_kind CpuStands (λ ms. ms ≡ at.world.maps) at.steps Cpu) (sym same) is.stand.tables)
      ∙ ap (of_first (table_reply at.world.maps at.steps m)) (ap length same ∙ is.stand.table_count) ∙ sym (table_reads at m decl there kind e)

  pub tables_lost : (tables : List CpuTable) → tables ≡ closed.tables.items → (kind : AggKind) → decl.kind ≡ Aggs kind → (r : Result ℕ Memory)
      → IfOk r (λ lost. (maps : List MapDecl) (steps : List Step) → AllStandAt cpu_kind CpuStands (λ ms. ms ≡ maps) steps Cpu tables → lost ≡ sum (of_first (table_lost maps steps m) (length tables)))
      → IfOk r (λ lost. lost ≡ lost_after at.world.maps at.world.cpus at.steps m decl)
  tables_lost tables same kind e (Err x) h = tt
  tables_lost tables same kind e (Ok lost) h =
      h at.world.maps at.steps (subst (AllStandAt cpu_kind CpuStands (λ ms. ms ≡ at.world.maps) at.steps Cpu) (sym same) is.stand.tables)
      ∙ ap (λ n. sum (of_first (table_lost at.world.maps at.steps m) n)) (ap length same ∙ is.stand.table_count) ∙ sym (table_losses at m decl there kind e)

  pub tables_beyond : (tables : List CpuTable) → tables ≡ closed.tables.items → (kind : AggKind) → decl.kind ≡ Aggs kind → (r : Result ℕ Memory)
      → OnErr r ((maps : List MapDecl) (steps : List Step) → AllStandAt cpu_kind CpuStands (λ ms. ms ≡ maps) steps Cpu tables → 2 ^ 64 ≤ sum (of_first (table_lost maps steps m) (length tables)))
      → OnErr r (2 ^ 64 ≤ lost_after at.world.maps at.world.cpus at.steps m decl)
  tables_beyond tables same kind e (Ok lost) h = tt
  tables_beyond tables same kind e (Err x) h =
      subst (λ n. 2 ^ 64 ≤ n) (ap (λ n. sum (of_first (table_lost at.world.maps at.steps m) n)) (ap length same ∙ is.stand.table_count) ∙ sym (table_losses at m decl there kind e))
      (h at.world.maps at.steps (subst (AllStandAt cpu_kind CpuStands (λ ms. ms ≡ at.world.maps) at.steps Cpu) (sym same) is.stand.tables))

  -- ---- a shared map

  map_within : m.0 < length closed.parts.items
  map_within = let c = is.stand.map_count in let w = slice_get_within at.world.maps m.0 decl there in omega arith

  module _ (one : Vec SharedPart Global) (at_map : one ≡ slice_index_or closed.parts.items m.0 one) (parts : List SharedPart) (same : parts ≡ one.items) where
    stands : AreParts at.world at.steps m.0 one.items
    stands = subst (λ (v : Vec SharedPart Global). AreParts at.world at.steps m.0 v.items) (sym at_map) (is.stand.parts m.0 one map_within)

    stands_all : AllStandAt shared_kind SharedStands (IsPartOf at.world.maps m.0) at.steps (Shared m) parts
    stands_all = subst (AllStandAt shared_kind SharedStands (IsPartOf at.world.maps m.0) at.steps (Shared m)) (sym same) stands.each

    pub parts_are : All (λ (part : SharedPart). (shared_kind part).map ≡ m) parts
    parts_are k d lt = (stands_all k d lt).fit.number

    pub parts_reply : IsShared decl.kind → (r : Result (Vec Reply Global) Memory)
        → IfOk r (λ replies. (maps : List MapDecl) (steps : List Step) (decl : MapDecl) → slice_get maps m.0 ≡ Some decl → AllStandAt shared_kind SharedStands (IsPartOf maps m.0) steps (Shared m) parts → replies.items ≡ of_first (part_reply maps steps m decl) (length parts))
        → IfOk r (λ replies. replies.items ≡ read_of at.world.maps at.world.cpus decl.kind m at.steps)
    parts_reply sh (Err x) h = tt
    parts_reply sh (Ok replies) h = h at.world.maps at.steps decl there stands_all
        ∙ ap (of_first (part_reply at.world.maps at.steps m decl)) (ap length same ∙ stands.count decl there) ∙ sym (part_reads at m decl there sh)

    pub parts_lost : IsShared decl.kind → (r : Result ℕ Memory)
        → IfOk r (λ lost. (maps : List MapDecl) (steps : List Step) → AllStandAt shared_kind SharedStands (IsPartOf maps m.0) steps (Shared m) parts → lost ≡ sum (of_first (part_lost maps steps m) (length parts)))
        → IfOk r (λ lost. lost ≡ lost_after at.world.maps at.world.cpus at.steps m decl)
    parts_lost sh (Err x) h = tt
    parts_lost sh (Ok lost) h = h at.world.maps at.steps stands_all
        ∙ ap (λ n. sum (of_first (part_lost at.world.maps at.steps m) n)) (ap length same ∙ stands.count decl there) ∙ sym (part_losses at m decl there sh)

    pub parts_beyond : IsShared decl.kind → (r : Result ℕ Memory)
        → OnErr r ((maps : List MapDecl) (steps : List Step) → AllStandAt shared_kind SharedStands (IsPartOf maps m.0) steps (Shared m) parts → 2 ^ 64 ≤ sum (of_first (part_lost maps steps m) (length parts)))
        → OnErr r (2 ^ 64 ≤ lost_after at.world.maps at.world.cpus at.steps m decl)
    parts_beyond sh (Ok lost) h = tt
    parts_beyond sh (Err x) h =
        subst (λ n. 2 ^ 64 ≤ n) (ap (λ n. sum (of_first (part_lost at.world.maps at.steps m) n)) (ap length same ∙ stands.count decl there) ∙ sym (part_losses at m decl there sh))
        (h at.world.maps at.steps stands_all)
