-- What is to be read of a map after the steps of a run, over all objects that hold it.
use Rattle.std.proofs.Common.{◌≡◌, ◌⊎◌, ℕ, zero, suc, ◌+◌, ◌<◌, ◌≤◌, List, [], ◌∷◌, ◌++◌, length, map, sum, get_or, drop, refl, sym, ap, ◌∙◌, subst, inl, inr, arith, append-nil, append_assoc}
use Rattle.std.specs.Prelude.{All, Option, Some, None, IsSomeAnd, slice_get}
use Rattle.std.specs.List.{range_with_len}
use Rattle.std.proofs.lemmas.List.{drop_all, drop_more}
use Rattle.std.proofs.lemmas.Option.{slice_get-get_or}
use Rattle.std.proofs.lemmas.List.Elements.{All-nil}
use Rattle.map_ops.specs.Parts.{part_count}
use Rattle.map_ops.proofs.PartLaws.{part_has_number}
use Rattle.bt_core.specs.declared.map.AggKind.{AggKind}
use Rattle.bt_core.specs.declared.map.MapDecl.{MapDecl}
use Rattle.bt_core.specs.declared.map.MapId.{MapId}
use Rattle.bt_core.specs.declared.map.MapKind.{MapKind}
use Rattle.bt_core.specs.declared.map.MapKind.TheVariants.{Ints, Strs, Aggs}
use Rattle.bt_core.specs.declared.step.ObjectId.TheVariants.{Shared, Cpu}
use Rattle.bt_core.specs.declared.step.Op.TheVariants.{Read, ReadAll}
use Rattle.bt_core.specs.declared.step.Reply.{Reply}
use Rattle.bt_core.specs.declared.step.Step.{Step}
use Rattle.bt_core.specs.Kinds.{IsFineDecl, IsShared, IsAggregation}
use Rattle.bt_core.specs.Ports.{IsSharedOp}
use Rattle.agg_core.specs.Answers.{kind_of_decl, shared_answer}
use Rattle.map_rows.specs.Fits.{AllRowsFit}
use Rattle.map_rows.specs.Fits.{IsReadReply}
use Rattle.map_rows.specs.Merged.{HasRowsOf}
use Rattle.map_rows.proofs.MergedFitting.{merged_fit, reply_has_rows}
use Rattle.step_objects.specs.CpuTables.{map_at}
use Rattle.turn_lock.specs.History.{Each}
use Rattle.bt_meaning.specs.Prints.{operations_at, read_of, lost_by, lost_after, holders_of, rows_after, of_maps}
use Rattle.map_ops.specs.Holders.{holder}
use Rattle.run_objects.specs.Moments.{Moment, table_reply, table_lost, part_reply, part_lost, of_first}
use Rattle.run_objects.specs.Worlds.{answers, IsOwn}
use Rattle.run_objects.proofs.KindLemmas.{answer_is_of_its_kind}
use Rattle.run_objects.proofs.MoreLemmas.{all_more}
use Rattle.run_objects.proofs.ReadLemmas.{first_more}

map_twice : {A B C : Type 0} (f : B → C) (g : A → B) (xs : List A) → map f (map g xs) ≡ map (λ x. f (g x)) xs
map_twice f g [] = refl
map_twice f g (x ∷ xs) = ap (λ l. f (g x) ∷ l) (map_twice f g xs)

all_first : {A : Type 0} (P : A → Type 0) (f : ℕ → A) (n : ℕ) → ((k : ℕ) → k < n → P (f k)) → All P (of_first f n)
all_first P f zero h = All-nil P
all_first P f (suc n) h = let e : suc n ≡ n + 1 = omega arith in
    all_more P (of_first f n) (of_first f (suc n)) (f n) (all_first P f n (λ k lt. h k (omega arith))) (h n (omega arith)) (ap (of_first f) e ∙ first_more f n)

pub some_and : (H : MapDecl → Type 0) (decl : MapDecl) (o : Option MapDecl) → o ≡ Some decl → H decl → IsSomeAnd o H
some_and H decl None e h = absurd (let z : ⊥ = cc in z)
some_and H decl (Some x) e h = let s : decl ≡ x = cc in subst H s h

and_some : (H : MapDecl → Type 0) (decl : MapDecl) (o : Option MapDecl) → o ≡ Some decl → IsSomeAnd o H → H decl
and_some H decl None e h = absurd h
and_some H decl (Some x) e h = let s : x ≡ decl = cc in subst H s h

pub is_shared : (kind : MapKind) → (kind ≡ Ints) ⊎ (kind ≡ Strs) → IsShared kind
is_shared kind (inl e) = subst IsShared (sym e) tt
is_shared kind (inr e) = subst IsShared (sym e) tt

module _ (at : Moment) (m : MapId) (decl : MapDecl) (there : slice_get at.world.maps m.0 ≡ Some decl) where
  -- ---- an aggregation

  pub table_reads : (kind : AggKind) → decl.kind ≡ Aggs kind → read_of at.world.maps at.world.cpus decl.kind m at.steps ≡ of_first (table_reply at.world.maps at.steps m) (at.world.cpus + 1)
  table_reads kind e = ap (λ k. read_of at.world.maps at.world.cpus k m at.steps) e ∙ map_twice _ (holder (Aggs kind) m) (range_with_len 0 (at.world.cpus + 1))

  pub table_losses : (kind : AggKind) → decl.kind ≡ Aggs kind → lost_after at.world.maps at.world.cpus at.steps m decl ≡ sum (of_first (table_lost at.world.maps at.steps m) (at.world.cpus + 1))
  table_losses kind e = ap (λ k. sum (map (λ object. lost_by k m (operations_at object at.steps)) (holders_of at.world.maps at.world.cpus k m))) e
      ∙ ap sum (map_twice (λ object. lost_by (Aggs kind) m (operations_at object at.steps)) (holder (Aggs kind) m) (range_with_len 0 (at.world.cpus + 1)))

  -- ---- a shared map

  losses_by : (kind : MapKind) → IsShared kind → sum (map (λ object. lost_by kind m (operations_at object at.steps)) (holders_of at.world.maps at.world.cpus kind m)) ≡ sum (of_first (part_lost at.world.maps at.steps m) (part_count kind))
  losses_by Ints sh = ap sum (map_twice (λ object. lost_by Ints m (operations_at object at.steps)) (holder Ints m) (range_with_len 0 (part_count Ints)))
  losses_by Strs sh = ap sum (map_twice (λ object. lost_by Strs m (operations_at object at.steps)) (holder Strs m) (range_with_len 0 (part_count Strs)))
  losses_by (Aggs k) sh = absurd sh

  pub part_losses : IsShared decl.kind → lost_after at.world.maps at.world.cpus at.steps m decl ≡ sum (of_first (part_lost at.world.maps at.steps m) (part_count decl.kind))
  part_losses sh = losses_by decl.kind sh

  reads_by : (kind : MapKind) → IsShared kind → read_of at.world.maps at.world.cpus kind m at.steps ≡ of_first (λ p. answers at.world (Shared m p) (operations_at (Shared m p) at.steps) ReadAll) (part_count kind)
  reads_by Ints sh = map_twice (λ object. answers at.world object (operations_at object at.steps) ReadAll) (holder Ints m) (range_with_len 0 (part_count Ints))
  reads_by Strs sh = map_twice (λ object. answers at.world object (operations_at object at.steps) ReadAll) (holder Strs m) (range_with_len 0 (part_count Strs))
  reads_by (Aggs k) sh = absurd sh

  pub part_reads : IsShared decl.kind → read_of at.world.maps at.world.cpus decl.kind m at.steps ≡ of_first (part_reply at.world.maps at.steps m decl) (part_count decl.kind)
  part_reads sh = reads_by decl.kind sh ∙ ap (λ (o : Option MapDecl). of_first (λ p. shared_answer (kind_of_decl o) (operations_at (Shared m p) at.steps) ReadAll) (part_count decl.kind)) there

  -- ---- the replies are those to who reads the map

  module _ (fine : All IsFineDecl at.world.maps) (possible : Each (λ (s : Step). IsOwn at.world s.object s.op) at.steps) where
    agg_fit : (kind : AggKind) → decl.kind ≡ Aggs kind → (a : ℕ) → a < at.world.cpus + 1 → IsReadReply decl (table_reply at.world.maps at.steps m a)
    agg_fit kind e a lt = and_some _ decl (slice_get at.world.maps m.0) there
        (answer_is_of_its_kind at.world (Cpu a) (Read m) at.steps fine possible (lt, some_and (λ d. IsAggregation d.kind) decl (slice_get at.world.maps m.0) there (subst IsAggregation (sym e) tt)))

    part_fit : IsShared decl.kind → (p : ℕ) → p < part_count decl.kind → IsReadReply decl (answers at.world (Shared m p) (operations_at (Shared m p) at.steps) ReadAll)
    part_fit sh p lt = and_some _ decl (slice_get at.world.maps m.0) there
        (answer_is_of_its_kind at.world (Shared m p) ReadAll at.steps fine possible (part_has_number decl.kind p lt, some_and (λ d. IsShared d.kind × IsSharedOp d ReadAll) decl (slice_get at.world.maps m.0) there (sh, tt)))

    shared_fit : IsShared decl.kind → All (IsReadReply decl) (read_of at.world.maps at.world.cpus decl.kind m at.steps)
    shared_fit sh = subst (All (IsReadReply decl)) (sym (reads_by decl.kind sh)) (all_first (IsReadReply decl) (λ p. answers at.world (Shared m p) (operations_at (Shared m p) at.steps) ReadAll) (part_count decl.kind) (part_fit sh))

    fit_by : (kind : MapKind) → decl.kind ≡ kind → All (IsReadReply decl) (read_of at.world.maps at.world.cpus decl.kind m at.steps)
    fit_by (Aggs k) e = subst (All (IsReadReply decl)) (sym (table_reads k e)) (all_first (IsReadReply decl) (table_reply at.world.maps at.steps m) (at.world.cpus + 1) (agg_fit k e))
    fit_by Ints e = shared_fit (subst IsShared (sym e) tt)
    fit_by Strs e = shared_fit (subst IsShared (sym e) tt)

    pub reads_fit : All (IsReadReply decl) (read_of at.world.maps at.world.cpus decl.kind m at.steps)
    reads_fit = fit_by decl.kind refl

    pub reads_have_rows : (replies : List Reply) → replies ≡ read_of at.world.maps at.world.cpus decl.kind m at.steps → All (HasRowsOf decl.kind) replies
    reads_have_rows replies e = subst (All (HasRowsOf decl.kind)) (sym e) (λ k d lt. reply_has_rows decl (get_or (read_of at.world.maps at.world.cpus decl.kind m at.steps) k d) (reads_fit k d lt))

-- ---- all maps

pub maps_long : {A : Type 0} (f : MapId → MapDecl → A) (n : ℕ) (decls : List MapDecl) → length (of_maps f n decls) ≡ length decls
maps_long f n [] = refl
maps_long f n (d ∷ ds) = let r = maps_long f (n + 1) ds in omega arith

pub maps_begin : {A : Type 0} (f : MapId → MapDecl → A) (got : List A) (decls : List MapDecl) → got ≡ [] → got ++ of_maps f 0 (drop 0 decls) ≡ of_maps f 0 decls
maps_begin f got decls e = ap (λ (l : List _). l ++ of_maps f 0 decls) e

pub maps_more : {A : Type 0} (f : MapId → MapDecl → A) (got new : List A) (k : ℕ) (decl : MapDecl) (decls : List MapDecl) (x : A) → k < length decls
    → decl ≡ get_or decls k decl → got ++ of_maps f k (drop k decls) ≡ of_maps f 0 decls → x ≡ f (record { 0 = k }) decl → new ≡ got ++ x ∷ []
    → new ++ of_maps f (k + 1) (drop (k + 1) decls) ≡ of_maps f 0 decls
maps_more f got new k decl decls x within is h one n =
    let rest = of_maps f (k + 1) (drop (k + 1) decls) in
    ap (λ (l : List _). l ++ rest) n
    ∙ (append_assoc got (x ∷ []) rest
    ∙ (ap (λ (y : _). got ++ (y ∷ rest)) one
    ∙ (ap (λ (d : MapDecl). got ++ (f (record { 0 = k }) d ∷ rest)) is
    ∙ (ap (λ (l : List MapDecl). got ++ of_maps f k l) (sym (drop_more decls k decl within)) ∙ h))))

-- the map of a place, by its number
pub map_there : (at : Moment) (maps : List MapDecl) (k n : ℕ) (decl : MapDecl) → at.world.maps ≡ maps → k < length maps → decl ≡ get_or maps k decl → n ≡ k
    → slice_get at.world.maps n ≡ Some decl
map_there at maps k n decl same within is number =
    ap (λ (l : List MapDecl). slice_get l n) same ∙ (ap (slice_get maps) number ∙ (slice_get-get_or maps k decl within ∙ ap Some (sym is)))

pub maps_done : {A : Type 0} (f : MapId → MapDecl → A) (got : List A) (k : ℕ) (decls : List MapDecl) → length decls ≤ k → got ++ of_maps f k (drop k decls) ≡ of_maps f 0 decls → got ≡ of_maps f 0 decls
maps_done f got k decls le e = sym (append-nil got) ∙ sym (ap (λ l. got ++ of_maps f k l) (drop_all k decls le)) ∙ e

module _ (at : Moment) (fine : All IsFineDecl at.world.maps) (possible : Each (λ (s : Step). IsOwn at.world s.object s.op) at.steps) where
  rows_fit_from : (n : ℕ) (decls : List MapDecl) → ((k : ℕ) (decl : MapDecl) → slice_get decls k ≡ Some decl → slice_get at.world.maps (n + k) ≡ Some decl)
      → AllRowsFit decls (of_maps (rows_after at.world.maps at.world.cpus at.steps) n decls)
  rows_fit_from n [] h = tt
  rows_fit_from n (decl ∷ ds) h = (
    merged_fit decl (read_of at.world.maps at.world.cpus decl.kind (map_at n) at.steps)
        (reads_fit at (map_at n) decl (ap (slice_get at.world.maps) (let e : n ≡ n + 0 = omega arith in e) ∙ h 0 decl refl) fine possible),
    rows_fit_from (n + 1) ds (λ k d e. ap (slice_get at.world.maps) (let q : n + 1 + k ≡ n + suc k = omega arith in q) ∙ h (suc k) d e),
  )

  pub rows_fit : (maps : List MapDecl) → at.world.maps ≡ maps → AllRowsFit maps (of_maps (rows_after at.world.maps at.world.cpus at.steps) 0 maps)
  rows_fit maps e = rows_fit_from 0 maps (λ k d f. ap (slice_get at.world.maps) (let q : 0 + k ≡ k = omega arith in q) ∙ ap (λ l. slice_get l k) e ∙ f)
