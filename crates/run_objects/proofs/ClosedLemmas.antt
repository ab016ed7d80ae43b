-- The objects of a run stand for its steps without their clocks too.
use Rattle.std.proofs.Common.{◌≡◌, ℕ, zero, suc, ◌<◌, List, [], ◌∷◌, ◌++◌, Vec, Global, length, map, get_or, drop, sym, ap, ◌∙◌, subst, arith}
use Rattle.std.proofs.lemmas.List.{get_or-map, length-map, map-append}
use Rattle.bt_core.specs.declared.step.ObjectId.{ObjectId}
use Rattle.bt_core.specs.declared.step.ObjectId.TheVariants.{Shared, Cpu}
use Rattle.bt_core.specs.declared.step.Op.{Op}
use Rattle.bt_core.specs.declared.step.Step.{Step}
use Rattle.step_objects.specs.declared.shared.SharedPart.{SharedPart}
use Rattle.step_objects.specs.CpuTables.{map_at}
use Rattle.step_objects.specs.Objects.{shared_kind, SharedStands, cpu_kind, CpuStands}
use Rattle.run_objects.specs.Worlds.{World}
use Rattle.run_objects.specs.declared.closed.Closed.{Closed}
use Rattle.run_objects.specs.declared.objects.MapParts.{MapParts}
use Rattle.run_objects.specs.declared.objects.Objects.{Objects}
use Rattle.run_objects.specs.declared.own.OwnObject.{OwnObject}
use Rattle.run_objects.specs.Closed.{object_of, objects_in, part_list, AreParts, MapsStand}
use Rattle.run_objects.specs.Objects.{StandsAt, AllStandAt, AllStand, IsPartOf, PartsStand, Stand}

-- one object more, and the parts of one map more
pub object_more : {O : Type 0} (yielded : List (OwnObject O)) (own : OwnObject O) (list next : List O) → list ≡ map object_of yielded → next ≡ list ++ own.object ∷ []
    → next ≡ map object_of (yielded ++ own ∷ [])
object_more yielded own list next e n = n ∙ (ap (λ (l : List _). l ++ own.object ∷ []) e ∙ sym (map-append object_of yielded (own ∷ [])))

pub parts_more : (yielded : List MapParts) (held : MapParts) (all next : List (Vec SharedPart Global)) (x : Vec SharedPart Global) → map part_list all ≡ map objects_in yielded
    → x.items ≡ map object_of held.parts.items → next ≡ all ++ x ∷ [] → map part_list next ≡ map objects_in (yielded ++ held ∷ [])
parts_more yielded held all next x e one n =
    ap (map part_list) n ∙ (map-append part_list all (x ∷ []) ∙ ((λ i. e i ++ one i ∷ []) ∙ sym (map-append objects_in yielded (held ∷ []))))

-- what holds of each place of the one list holds of each place of the other
each_same : {X Y Z : Type 0} (f : X → Z) (g : Y → Z) (P : ℕ → Z → Type 0) (xs : List X) (ys : List Y) → map f xs ≡ map g ys
    → ((k : ℕ) (e : Y) → k < length ys → P k (g (get_or ys k e))) → (k : ℕ) (d : X) → k < length xs → P k (f (get_or xs k d))
each_same f g P [] ys e h k d lt = absurd (omega (arith, lt))
each_same f g P (x ∷ xs) [] e h k d lt = let n : suc (length (map f xs)) ≡ 0 = ap length e in absurd (omega (arith, n))
each_same f g P (x ∷ xs) (y ∷ ys) e h zero d lt = subst (P 0) (sym (ap (λ l. get_or l 0 (f x)) e)) (h 0 y (omega arith))
each_same f g P (x ∷ xs) (y ∷ ys) e h (suc k) d lt = each_same f g (λ n. P (suc n)) xs ys (ap (drop 1) e) (λ n z below. h (suc n) z (omega (arith, below))) k d (omega (arith, lt))

all_without : {O K : Type 0} (kind_of : O → K) (holds : O → List Op → Type 0) (fits : K → Type 0) (steps : List Step) (id : ℕ → ObjectId) (owns : List (OwnObject O))
    → AllStand kind_of holds fits steps id owns → AllStandAt kind_of holds fits steps id (map object_of owns)
all_without kind_of holds fits steps id owns all k d lt =
    let own : OwnObject _ = record { object = d; clock = 0 } in
    let long = length-map owns object_of in
    let below : k < length owns = omega (arith, lt, long) in
    subst (StandsAt kind_of holds fits steps (id k)) (sym (get_or-map object_of owns k own d below)) (all k own below).stands

module _ (w : World) (steps : List Step) where
  parts_without : (m : ℕ) (held : MapParts) → PartsStand w steps m held → AreParts w steps m (objects_in held)
  parts_without m held stand = record {
    count = λ decl there. length-map held.parts.items object_of ∙ stand.count decl there;
    each = all_without shared_kind SharedStands (IsPartOf w.maps m) steps (Shared (map_at m)) held.parts.items stand.each;
  }

  pub closed_stands : (objects : Objects) (closed : Closed) → map part_list closed.parts.items ≡ map objects_in objects.shared.items → closed.tables.items ≡ map object_of objects.tables.items
      → Stand w steps objects → MapsStand w steps closed
  closed_stands objects closed parts tables stand = record {
    map_count = sym (length-map closed.parts.items part_list) ∙ ap length parts ∙ length-map objects.shared.items objects_in ∙ stand.map_count;
    parts = each_same part_list objects_in (AreParts w steps) closed.parts.items objects.shared.items parts (λ m held lt. parts_without m (get_or objects.shared.items m held) (stand.shared m held lt));
    table_count = ap length tables ∙ length-map objects.tables.items object_of ∙ stand.table_count;
    tables = subst (AllStandAt cpu_kind CpuStands (λ maps. maps ≡ w.maps) steps Cpu) (sym tables) (all_without cpu_kind CpuStands (λ maps. maps ≡ w.maps) steps Cpu objects.tables.items stand.tables);
  }
