-- From the objects that locks give back to those of a run that has ended.
use Rattle.std.proofs.Common.{◌≡◌, ℕ, zero, suc, ◌+◌, ◌<◌, List, [], ◌∷◌, ◌++◌, length, map, get_or, take, drop, refl, sym, ap, ◌∙◌, subst, arith, ◌≤◌, length-drop}
use Rattle.std.specs.Prelude.{Some, slice_get}
use Rattle.std.specs.List.{drop-map}
use Rattle.std.proofs.lemmas.List.{get_or-map, length-map, take-map, drop_more, take_more, drop_all, take_all}
use Rattle.bt_core.specs.declared.map.MapDecl.{MapDecl}
use Rattle.bt_core.specs.declared.step.ObjectId.{ObjectId}
use Rattle.bt_core.specs.declared.step.ObjectId.TheVariants.{Shared, Cpu}
use Rattle.bt_core.specs.declared.step.Op.{Op}
use Rattle.bt_core.specs.declared.step.Step.{Step}
use Rattle.turn_lock.specs.declared.entry.Entry.{Entry}
use Rattle.stamped.specs.Numbered.{numbered}
use Rattle.stamped.proofs.NumberedLemmas.{numbered_length, numbered_map}
use Rattle.step_objects.specs.declared.cpu.CpuTable.{CpuTable}
use Rattle.step_objects.specs.declared.shared.PartKind.{PartKind}
use Rattle.step_objects.specs.declared.shared.SharedPart.{SharedPart}
use Rattle.step_objects.specs.CpuTables.{map_at}
use Rattle.step_objects.specs.Objects.{shared_kind, SharedStands, cpu_kind, CpuStands}
use Rattle.map_ops.specs.Parts.{part_count}
use Rattle.shared_maps.specs.Parts.{part_at, parts_from}
use Rattle.weave.specs.Closed.{AllStand}
use Rattle.run_objects.specs.Worlds.{World}
use Rattle.run_objects.proofs.ReadLemmas.{same_decl}
use Rattle.run_objects.specs.declared.closed.Closed.{Closed}
use Rattle.run_objects.specs.Closed.{part_list, AreParts, MapsStand}
use Rattle.run_objects.specs.Objects.{StandsAt, AllStandAt, IsPartOf}
use Rattle.thread_run.specs.Closed.{object_of, part_id, part_kind, parts_by, PartsStand, TablesStand}
use Rattle.thread_run.proofs.Objects.{ids_map, kinds_map}

module _ {O Kind : Type 0} (kind_of : O → Kind) (stands_for : O → List Op → Type 0) (steps : List Step) where
  stand_long : (os : List ObjectId) (ks : List Kind) (cs : List (O × List Entry)) → AllStand kind_of stands_for steps os ks cs → length cs ≡ length os
  stand_long [] [] [] h = refl
  stand_long [] [] (c ∷ cs) h = absurd h
  stand_long [] (k ∷ ks) cs h = absurd h
  stand_long (o ∷ os) [] cs h = absurd h
  stand_long (o ∷ os) (k ∷ ks) [] h = absurd h
  stand_long (o ∷ os) (k ∷ ks) (c ∷ cs) h = ap suc (stand_long os ks cs h.1)

  stand_front : (os ps : List ObjectId) (ks ls : List Kind) (cs : List (O × List Entry)) → length os ≡ length ks → AllStand kind_of stands_for steps (os ++ ps) (ks ++ ls) cs
      → AllStand kind_of stands_for steps os ks (take (length os) cs)
  stand_front [] ps [] ls cs e h = tt
  stand_front [] ps (k ∷ ks) ls cs e h = absurd (omega (arith, e))
  stand_front (o ∷ os) ps [] ls cs e h = absurd (omega (arith, e))
  stand_front (o ∷ os) ps (k ∷ ks) ls [] e h = absurd h
  stand_front (o ∷ os) ps (k ∷ ks) ls (c ∷ cs) e h = (h.0, stand_front os ps ks ls cs (omega (arith, e)) h.1)

  stand_back : (os ps : List ObjectId) (ks ls : List Kind) (cs : List (O × List Entry)) → length os ≡ length ks → AllStand kind_of stands_for steps (os ++ ps) (ks ++ ls) cs
      → AllStand kind_of stands_for steps ps ls (drop (length os) cs)
  stand_back [] ps [] ls cs e h = h
  stand_back [] ps (k ∷ ks) ls cs e h = absurd (omega (arith, e))
  stand_back (o ∷ os) ps [] ls cs e h = absurd (omega (arith, e))
  stand_back (o ∷ os) ps (k ∷ ks) ls [] e h = absurd h
  stand_back (o ∷ os) ps (k ∷ ks) ls (c ∷ cs) e h = stand_back os ps ks ls cs (omega (arith, e)) h.1

  -- objects that are told by numbers, of one kind that fits
  in_places : (fits : Kind → Type 0) (f : ℕ → ObjectId) (kind : Kind) (a n : ℕ) (cs : List (O × List Entry)) → fits kind → AllStand kind_of stands_for steps (numbered f a n) (numbered (λ _. kind) a n) cs
      → AllStandAt kind_of stands_for fits steps (λ k. f (a + k)) (map object_of cs)
  in_places fits f kind a zero [] fit h k d lt = absurd (omega (arith, lt))
  in_places fits f kind a zero (c ∷ cs) fit h k d lt = absurd h
  in_places fits f kind a (suc n) [] fit h k d lt = absurd h
  in_places fits f kind a (suc n) (c ∷ cs) fit h zero d lt =
      subst (λ j. StandsAt kind_of stands_for fits steps (f j) c.0) (let e : a ≡ a + 0 = omega arith in e) (record { fit = subst fits (sym h.0.of_kind) fit; stood = h.0.stands })
  in_places fits f kind a (suc n) (c ∷ cs) fit h (suc k) d lt =
      subst (λ j. StandsAt kind_of stands_for fits steps (f j) (get_or (map object_of cs) k d)) (let e : a + 1 + k ≡ a + suc k = omega arith in e)
      (in_places fits f kind (a + 1) n cs fit h.1 k d (omega (arith, lt)))

  -- the first one is told by 0
  pub from_first : (fits : Kind → Type 0) (f : ℕ → ObjectId) (kind : Kind) (n : ℕ) (cs : List (O × List Entry)) → fits kind → AllStand kind_of stands_for steps (numbered f 0 n) (numbered (λ _. kind) 0 n) cs
      → AllStandAt kind_of stands_for fits steps f (map object_of cs)
  from_first fits f kind n cs fit h k d lt =
      subst (λ j. StandsAt kind_of stands_for fits steps (f j) (get_or (map object_of cs) k d)) (let e : 0 + k ≡ k = omega arith in e) (in_places fits f kind 0 n cs fit h k d lt)

-- ---- the parts of all maps

module _ (steps : List Step) (m : ℕ) (decl : MapDecl) (rest : List MapDecl) (cs : List (SharedPart × List Entry)) (h : PartsStand steps (parts_from m (decl ∷ rest)) cs) where
  abbrev count : ℕ
  count = part_count decl.kind

  abbrev ids : List ObjectId
  ids = map part_id (numbered (part_at m decl) 0 count)

  abbrev kinds : List PartKind
  kinds = map part_kind (numbered (part_at m decl) 0 count)

  abbrev of : PartKind
  of = record { map = map_at m; decl = decl }

  ids_are : ids ≡ numbered (Shared (map_at m)) 0 count
  ids_are = numbered_map (part_at m decl) part_id 0 count

  kinds_are : kinds ≡ numbered (λ _. of) 0 count
  kinds_are = numbered_map (part_at m decl) part_kind 0 count

  ids_long : length ids ≡ count
  ids_long = ap length ids_are ∙ numbered_length (Shared (map_at m)) 0 count

  kinds_long : length kinds ≡ count
  kinds_long = ap length kinds_are ∙ numbered_length (λ _. of) 0 count

  both : AllStand shared_kind SharedStands steps (ids ++ map part_id (parts_from (m + 1) rest)) (kinds ++ map part_kind (parts_from (m + 1) rest)) cs
  both = subst (λ (z : List ObjectId × List PartKind). AllStand shared_kind SharedStands steps z.0 z.1 cs) (λ i. (ids_map m decl rest i, kinds_map m decl rest i)) h

  own : AllStand shared_kind SharedStands steps (numbered (Shared (map_at m)) 0 count) (numbered (λ _. of) 0 count) (take count cs)
  own = subst (λ (z : List ObjectId × List PartKind). AllStand shared_kind SharedStands steps z.0 z.1 (take count cs)) (λ i. (ids_are i, kinds_are i))
      (subst (λ k. AllStand shared_kind SharedStands steps ids kinds (take k cs)) ids_long
      (stand_front shared_kind SharedStands steps ids (map part_id (parts_from (m + 1) rest)) kinds (map part_kind (parts_from (m + 1) rest)) cs (ids_long ∙ sym kinds_long) both))

  -- those of the first map, and those of the other maps
  own_long : length (take count cs) ≡ count
  own_long = stand_long shared_kind SharedStands steps (numbered (Shared (map_at m)) 0 count) (numbered (λ _. of) 0 count) (take count cs) own ∙ numbered_length (Shared (map_at m)) 0 count

  others_stand : PartsStand steps (parts_from (m + 1) rest) (drop count cs)
  others_stand = subst (λ k. PartsStand steps (parts_from (m + 1) rest) (drop k cs)) ids_long
      (stand_back shared_kind SharedStands steps ids (map part_id (parts_from (m + 1) rest)) kinds (map part_kind (parts_from (m + 1) rest)) cs (ids_long ∙ sym kinds_long) both)

  first_parts : (w : World) → slice_get w.maps m ≡ Some decl → AreParts w steps m (take count (map object_of cs))
  first_parts w there = subst (AreParts w steps m) (sym (take-map object_of count cs)) (record {
    count = λ one found. length-map (take count cs) object_of ∙ own_long ∙ sym (ap (λ (d : MapDecl). part_count d.kind) (same_decl one decl (slice_get w.maps m) found there));
    each = from_first shared_kind SharedStands steps (IsPartOf w.maps m) (Shared (map_at m)) of count (take count cs) (record { number = refl; declared = there }) own;
  })

-- those of each map
each_map : (w : World) (steps : List Step) (m : ℕ) (decls : List MapDecl) (cs : List (SharedPart × List Entry))
    → ((k : ℕ) (d : MapDecl) → slice_get decls k ≡ Some d → slice_get w.maps (m + k) ≡ Some d) → PartsStand steps (parts_from m decls) cs
    → (k : ℕ) (d : List SharedPart) → k < length decls → AreParts w steps (m + k) (get_or (parts_by decls (map object_of cs)) k d)
each_map w steps m [] cs there h k d lt = absurd (omega (arith, lt))
each_map w steps m (decl ∷ decls) cs there h zero d lt =
    subst (λ n. AreParts w steps n (take (part_count decl.kind) (map object_of cs))) (let e : m ≡ m + 0 = omega arith in e)
    (first_parts steps m decl decls cs h w (ap (slice_get w.maps) (let e : m ≡ m + 0 = omega arith in e) ∙ there 0 decl refl))
each_map w steps m (decl ∷ decls) cs there h (suc k) d lt =
    subst (λ n. AreParts w steps n (get_or (parts_by decls (drop (part_count decl.kind) (map object_of cs))) k d)) (let e : m + 1 + k ≡ m + suc k = omega arith in e)
    (subst (λ (l : List SharedPart). AreParts w steps (m + 1 + k) (get_or (parts_by decls l) k d)) (sym (drop-map object_of (part_count decl.kind) cs))
    (each_map w steps (m + 1) decls (drop (part_count decl.kind) cs) (λ n one e. ap (slice_get w.maps) (let q : m + 1 + n ≡ m + suc n = omega arith in q) ∙ there (suc n) one e)
    (others_stand steps m decl decls cs h) k d (omega (arith, lt))))

by_long : (decls : List MapDecl) (parts : List SharedPart) → length (parts_by decls parts) ≡ length decls
by_long [] parts = refl
by_long (decl ∷ decls) parts = ap suc (by_long decls (drop (part_count decl.kind) parts))

-- ---- all objects

module _ (w : World) (steps : List Step) (parts : List (SharedPart × List Entry)) (tables : List (CpuTable × List Entry)) (closed : Closed) where
  pub closed_stands : PartsStand steps (parts_from 0 w.maps) parts → TablesStand w.maps steps (w.cpus + 1) tables → map part_list closed.parts.items ≡ parts_by w.maps (map object_of parts)
      → closed.tables.items ≡ map object_of tables → MapsStand w steps closed
  closed_stands parts_stand tables_stand by_map as_tables =
      let actors = w.cpus + 1 in
      let long : length closed.parts.items ≡ length w.maps = sym (length-map closed.parts.items part_list) ∙ ap length by_map ∙ by_long w.maps (map object_of parts) in record {
        map_count = long;
        parts = λ m d lt. let z : 0 + m ≡ m = omega arith in
            subst (AreParts w steps m) (ap (λ (l : List (List SharedPart)). get_or l m (part_list d)) (sym by_map) ∙ get_or-map part_list closed.parts.items m d (part_list d) lt)
            (subst (λ n. AreParts w steps n (get_or (parts_by w.maps (map object_of parts)) m (part_list d))) z
            (each_map w steps 0 w.maps parts (λ k one e. ap (slice_get w.maps) (let q : 0 + k ≡ k = omega arith in q) ∙ e) parts_stand m (part_list d) (omega (arith, lt, long))));
        table_count = ap length as_tables ∙ length-map tables object_of
            ∙ stand_long cpu_kind CpuStands steps (numbered Cpu 0 actors) (numbered (λ _. w.maps) 0 actors) tables tables_stand ∙ numbered_length Cpu 0 actors;
        tables = subst (AllStandAt cpu_kind CpuStands (λ maps. maps ≡ w.maps) steps Cpu) (sym as_tables) (from_first cpu_kind CpuStands steps (λ maps. maps ≡ w.maps) Cpu w.maps actors tables refl tables_stand);
      }

-- ---- part by part, and map by map

module _ (all : List SharedPart) (n : ℕ) where
  -- one part more of those that are left
  pub taken_more : (parts new left rest : List SharedPart) (part : SharedPart) → parts ≡ take n all → left ≡ drop n all → left ≡ part ∷ rest → new ≡ parts ++ part ∷ []
      → (new ≡ take (n + 1) all) × (rest ≡ drop (n + 1) all)
  taken_more parts new left rest part is there next pushed =
      let long = ap length (sym next ∙ there) in let d = length-drop n all in let within : n < length all = omega (arith, long, d) in
      let both : part ∷ rest ≡ get_or all n part ∷ drop (n + 1) all = sym next ∙ there ∙ drop_more all n part within in
      let first : part ≡ get_or all n part = ap (λ l. get_or l 0 part) both in
      (pushed ∙ (λ i. is i ++ first i ∷ []) ∙ sym (take_more all n part within), ap (drop 1) both)

  -- none is left
  pub taken_all : (parts left : List SharedPart) → parts ≡ take n all → left ≡ drop n all → length left ≡ 0 → (parts ≡ take (n + 1) all) × (left ≡ drop (n + 1) all)
  taken_all parts left is there none = let d = length-drop n all in let e = ap length there in let le : length all ≤ n = omega (arith, d, e, none) in
      (is ∙ take_all n all le ∙ sym (take_all (n + 1) all (omega (arith, le))), there ∙ drop_all n all le ∙ sym (drop_all (n + 1) all (omega (arith, le))))

-- the parts of one map more
pub map_more : (maps : List MapDecl) (n : ℕ) (decl : MapDecl) (left rest : List SharedPart) → n < length maps → decl ≡ get_or maps n decl → rest ≡ drop (part_count decl.kind) left
    → parts_by (drop n maps) left ≡ take (part_count decl.kind) left ∷ parts_by (drop (n + 1) maps) rest
map_more maps n decl left rest lt is there =
    ap (λ ds. parts_by ds left) (drop_more maps n decl lt ∙ ap (λ d. d ∷ drop (n + 1) maps) (sym is)) ∙ ap (λ l. take (part_count decl.kind) left ∷ parts_by (drop (n + 1) maps) l) (sym there)

-- no map is left
pub none_left : (maps : List MapDecl) (n : ℕ) (left : List SharedPart) → length maps ≤ n → 0 ≡ length (parts_by (drop n maps) left)
none_left maps n left le = sym (ap (λ ds. length (parts_by ds left)) (drop_all n maps le))
