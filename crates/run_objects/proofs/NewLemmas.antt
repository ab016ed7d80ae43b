-- Objects that no step was made at.
use Rattle.std.proofs.Common.{◌≡◌, ℕ, ◌+◌, ◌<◌, List, [], ◌∷◌, ◌++◌, length, get_or, sym, refl, ap, ◌∙◌, subst, arith}
use Rattle.std.specs.Prelude.{Some, slice_get, slice_index_or}
use Rattle.std.proofs.Common.{◌-◌, Option}
use Rattle.std.proofs.lemmas.List.{get_or-append_right}
use Rattle.std.proofs.Math.ListN.{get_or-append}
use Rattle.std.proofs.lemmas.Option.{slice_get-get_or}
use mathlib.Core.Logic.{dite}
use native.Mathlib.Decide.{ℕ_discrete}
use Rattle.bt_core.specs.declared.map.MapDecl.{MapDecl}
use Rattle.bt_core.specs.declared.map.MapKind.TheVariants.{Ints}
use Rattle.bt_core.specs.declared.step.ObjectId.{ObjectId}
use Rattle.bt_core.specs.declared.step.ObjectId.TheVariants.{Shared, Cpu, Clock}
use Rattle.bt_core.specs.declared.step.Op.{Op}
use Rattle.step_objects.specs.Clocks.{clock_kind, ClockStands}
use Rattle.step_objects.specs.CpuTables.{map_at}
use Rattle.step_objects.specs.Objects.{shared_kind, SharedStands, cpu_kind, CpuStands}
use Rattle.run_objects.specs.declared.objects.MapParts.{MapParts}
use Rattle.run_objects.specs.declared.objects.Objects.{Objects}
use Rattle.run_objects.specs.declared.own.OwnObject.{OwnObject}
use Rattle.run_objects.specs.News.{IsNew, AreNew, AreNewParts, NewMaps}
use Rattle.run_objects.specs.Objects.{OwnStands, IsPartOf, Stand}
use Rattle.run_objects.specs.Worlds.{World}
use Rattle.run_objects.proofs.MoreLemmas.{count_more}

last_at : {A : Type 0} (xs : List A) (x d : A) (k : ℕ) → length xs ≡ k → get_or (xs ++ x ∷ []) k d ≡ x
last_at xs x d k e = get_or-append_right xs (x ∷ []) k k d e (omega arith) ∙ ap (λ n. get_or (x ∷ []) n d) (let z : k - k ≡ 0 = omega arith in z)

-- one map more
pub maps_more : (maps : List MapDecl) (all new : List MapParts) (x : MapParts) (decl : MapDecl) (k : ℕ) → length all ≡ k → slice_get maps k ≡ Some decl → AreNewParts k decl x → new ≡ all ++ x ∷ []
    → ((m : ℕ) (e : MapDecl) (d : MapParts) → m < length all → slice_get maps m ≡ Some e → AreNewParts m e (slice_index_or all m d))
    → (m : ℕ) (e : MapDecl) (d : MapParts) → m < length new → slice_get maps m ≡ Some e → AreNewParts m e (slice_index_or new m d)
maps_more maps all new x decl k long there one is each m e d lt found =
    let l = count_more all new x is in
    dite (ℕ_discrete m k)
    (λ same. let decls : decl ≡ e = some_same decl e (slice_get maps k) there (ap (slice_get maps) (sym same) ∙ found) in
    subst (λ (z : ℕ × MapDecl × MapParts). AreNewParts z.0 z.1 z.2) (λ i. (sym same i, decls i, (sym (ap (λ l. get_or l m d) is ∙ ap (λ n. get_or (all ++ x ∷ []) n d) same ∙ last_at all x d k long)) i)) one)
    (λ ne. subst (λ z. AreNewParts m e z) (sym (ap (λ l. get_or l m d) is ∙ get_or-append all (x ∷ []) d m (omega arith))) (each m e d (omega arith) found))
  where
    some_same : {A : Type 0} (a b : A) (o : Option A) → o ≡ Some a → o ≡ Some b → a ≡ b
    some_same a b o p q = cc

new_stands : {O K : Type 0} (kind_of : O → K) (holds : O → List Op → Type 0) (fits : K → Type 0) (kind : K) (object : ObjectId) (own : OwnObject O) → fits kind → IsNew kind_of holds kind own → OwnStands kind_of holds fits [] object own
new_stands kind_of holds fits kind object own fit new = record { stands = record { fit = subst fits (sym new.same) fit; stood = new.stood }; clock = new.unstamped }

pub new_stand : (w : World) (objects : Objects) → NewMaps w.maps objects.shared.items → AreNew cpu_kind CpuStands w.maps objects.tables.items → length objects.tables.items ≡ w.cpus + 1
    → IsNew clock_kind ClockStands (record { cpus = w.cpus; ticks = w.ticks }) objects.ticks → objects.out.clock ≡ 0 → Stand w [] objects
new_stand w objects maps tables count ticks out =
    let none : MapDecl = record { name = []; kind = Ints; key_shape = [] } in record {
      map_count = maps.count;
      shared = λ m d lt.
          let decl = get_or w.maps m none in
          let there = slice_get-get_or w.maps m none (let c = maps.count in omega arith) in
          let new = maps.each m decl d there in record {
            count = λ e found. (maps.each m e d found).count;
            each = λ k x below. new_stands shared_kind SharedStands (IsPartOf w.maps m) (record { map = map_at m; decl = decl }) (Shared (map_at m) k) (get_or (slice_index_or objects.shared.items m d).parts.items k x)
                (record { number = refl; declared = there }) (new.new k x below);
          };
      table_count = count;
      tables = λ a x below. new_stands cpu_kind CpuStands (λ ms. ms ≡ w.maps) w.maps (Cpu a) (get_or objects.tables.items a x) refl (tables a x below);
      ticks = new_stands clock_kind ClockStands (λ of. of ≡ record { cpus = w.cpus; ticks = w.ticks }) (record { cpus = w.cpus; ticks = w.ticks }) Clock objects.ticks refl ticks;
      out = out;
    }
