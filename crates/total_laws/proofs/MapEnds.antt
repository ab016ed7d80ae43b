-- The maps at the end, and the text of them.
use Rattle.std.proofs.Common.{◌≡◌, ℕ, zero, suc, ◌+◌, ◌<◌, ◌≤◌, ◌%◌, ◌^◌, List, [], ◌∷◌, ◌++◌, map, length, refl, ap, ◌∙◌, subst, append-nil, arith}
use Rattle.std.specs.Prelude.{slice_get, Some, sum, sum_by}
use Rattle.std.specs.List.{flat_map, range_with_len}
use Rattle.std.proofs.lemmas.List.{length-map}
use Rattle.std.proofs.lemmas.List.Folds.{flat_map-map}
use Rattle.std.proofs.lemmas.List.Sums.{sum-map, sum_by-cons}
use Rattle.std.proofs.lemmas.Option.{slice_get_within}
use Rattle.bt_ast.specs.declared.attached.Attached.{Attached}
use Rattle.bt_core.specs.declared.item.Cell.{Cell}
use Rattle.bt_core.specs.declared.item.Cell.TheVariants as cells
use Rattle.bt_core.specs.declared.limits.TheConstants.{KEYS}
use Rattle.bt_core.specs.declared.map.AggKind.{AggKind}
use Rattle.bt_core.specs.declared.map.MapDecl.{MapDecl}
use Rattle.bt_core.specs.declared.map.MapId.{MapId}
use Rattle.bt_core.specs.declared.map.MapKind.{MapKind}
use Rattle.bt_core.specs.declared.map.MapKind.TheVariants.{Ints, Strs, Aggs}
use Rattle.bt_core.specs.declared.step.ObjectId.{ObjectId}
use Rattle.bt_core.specs.declared.step.ObjectId.TheVariants.{Cpu}
use Rattle.bt_core.specs.declared.step.Step.{Step}
use Rattle.bt_core.specs.declared.value.Value.{Value}
use Rattle.bt_core.specs.Kinds.{IsAggregation}
use Rattle.recordings.specs.declared.recording.Recording.{Recording}
use Rattle.typed_tree.specs.declared.script.Typed.{Typed}
use Rattle.agg_core.specs.Aggregates.{aggregate}
use Rattle.agg_core.specs.Answers.{agg_kind_in, answer}
use Rattle.agg_core.specs.Changes.{rows_of, lost_updates}
use Rattle.map_ops.specs.declared.sweep.Sweep.TheVariants as sweeps
use Rattle.map_ops.specs.Holders.{holder, sweep_op}
use Rattle.map_printer.specs.Ends.{map_texts, warnings}
use Rattle.map_printer.specs.ItemTexts.{item_text}
use Rattle.map_rows.specs.Merged.{agg_row, merged, merged_rows, rows_in}
use Rattle.bt_meaning.specs.Prints.{emitted, of_maps, operations_at, lost_by, holders_of, read_of, rows_after, lost_after, printed_text}
use Rattle.bt_meaning.specs.Replays.{Replay}
use Rattle.bt_meaning.specs.Totals.{Addition, addition_keys, numbers_at, total_rows, all_adds, totals, who}
use Rattle.bt_meaning.specs.Walks.{replay_of}
use Rattle.total_laws.specs.Ends.{aggregate_rows, all_totals, all_rows, EndsWithTotals, IsAddingRun}
use Rattle.total_laws.proofs.Alike.{alike_rows}
use Rattle.total_laws.proofs.Exact.{given, all_given, changes, table}
use Rattle.total_laws.proofs.Merging.{merged_each}
use Rattle.total_laws.proofs.Scripts.{all_there}
use Rattle.total_laws.proofs.Spans.{range_same}

-- ---- maps by their numbers

pub maps_same : {A : Type 0} (f g : MapId → MapDecl → A) (number : ℕ) (decls : List MapDecl)
    → ((i : ℕ) (decl : MapDecl) → slice_get decls i ≡ Some decl → f (record { 0 = number + i }) decl ≡ g (record { 0 = number + i }) decl)
    → of_maps f number decls ≡ of_maps g number decls
maps_same f g number [] same = refl
maps_same {A} f g number (decl ∷ decls) same =
    let none_more : number + 0 ≡ number = omega arith in
    let first : f (record { 0 = number }) decl ≡ g (record { 0 = number }) decl =
    subst (λ (k : ℕ). f (record { 0 = k }) decl ≡ g (record { 0 = k }) decl) none_more (same 0 decl refl) in
    let rest = maps_same f g (number + 1) decls (λ i d there. let e : number + suc i ≡ number + 1 + i = omega arith in
    subst (λ (k : ℕ). f (record { 0 = k }) d ≡ g (record { 0 = k }) d) e (same (suc i) d there)) in
    λ i. first i ∷ rest i

no_warnings : (number : ℕ) (maps : List MapDecl) → warnings maps (of_maps (λ m decl. 0) number maps) ≡ []
no_warnings number [] = refl
no_warnings number (decl ∷ decls) = no_warnings (number + 1) decls

-- ---- lists of rows and of lost updates

agg_rows_are : (kind : AggKind) (entries : List Addition) (keys : List (List Value))
    → map agg_row (map (λ key. (key, aggregate kind (numbers_at key entries))) keys) ≡ map (λ key. (key, cells.Agg (aggregate kind (numbers_at key entries)))) keys
agg_rows_are kind entries [] = refl
agg_rows_are kind entries (k ∷ ks) = ap (λ (l : List (List Value × Cell)). (k, cells.Agg (aggregate kind (numbers_at k entries))) ∷ l) (agg_rows_are kind entries ks)

none_by : (f : ObjectId → ℕ) (first n : ℕ) → ((a : ℕ) → first ≤ a → a < first + n → f (Cpu a) ≡ 0) → sum_by f (map Cpu (range_with_len first n)) ≡ 0
none_by f first zero none = refl
none_by f first (suc n) none =
    let here = none first (omega arith) (omega arith) in
    let rest = none_by f (first + 1) n (λ a le lt. none a (omega arith) (omega arith)) in
    sum_by-cons f (Cpu first) (map Cpu (range_with_len (first + 1) n)) ∙ (λ i. here i + rest i)

none_in_all : (f : ObjectId → ℕ) (first n : ℕ) → ((a : ℕ) → first ≤ a → a < first + n → f (Cpu a) ≡ 0) → sum (map f (map Cpu (range_with_len first n))) ≡ 0
none_in_all f first n none = sum-map f (map Cpu (range_with_len first n)) ∙ none_by f first n none

module _ (script : Typed) (attached : Attached) (r : Recording) (steps : List Step) (run : IsAddingRun script attached r steps) where
  abbrev p : Replay
  p = replay_of script attached r

  abbrev n : ℕ
  n = length r.cpus

  module _ (m : MapId) (low : m.0 < length script.maps) where
    abbrev kind : AggKind
    kind = agg_kind_in script.maps m

    abbrev adds : ℕ → List Addition
    adds a = given script attached r run.job run.only_adds m steps run.interleaving a

    pub few : length (addition_keys (all_adds p m (who steps))) ≤ KEYS
    unfolding totals
    few = subst (λ (k : ℕ). k ≤ KEYS) (length-map (addition_keys (all_adds p m (who steps))) _) (run.few_keys m low)

    table_at : (a : ℕ) → a < n + 1
        → (rows_of (aggregate kind) (changes script attached r run.job run.only_adds m steps run.interleaving a) ≡ aggregate_rows kind (adds a))
        × (lost_updates (changes script attached r run.job run.only_adds m steps run.interleaving a) ≡ 0)
    table_at a lt = table script attached r run.job run.only_adds m steps run.interleaving kind few a lt

    rows_by : (k : MapKind) → IsAggregation k → merged k (read_of script.maps n k m steps) ≡ totals p m (who steps)
    unfolding merged totals
    rows_by Ints agg = absurd agg
    rows_by Strs agg = absurd agg
    rows_by (Aggs a) agg =
        let actors = range_with_len 0 (n + 1) in
        let reads : ObjectId → _ = λ object. answer script.maps n object (operations_at object steps) (sweep_op sweeps.Read (Aggs a) m) in
        let rows = flat_map (rows_in (Aggs a)) (map reads (map (holder (Aggs a) m) actors)) in
        let each : rows ≡ flat_map (λ i. rows_in (Aggs a) (reads (Cpu i))) actors =
        flat_map-map (rows_in (Aggs a)) reads (map (holder (Aggs a) m) actors) ∙ flat_map-map (λ object. rows_in (Aggs a) (reads object)) (holder (Aggs a) m) actors in
        let same : flat_map (λ i. rows_in (Aggs a) (reads (Cpu i))) actors ≡ flat_map (λ i. total_rows kind (adds i)) actors =
        range_same (λ i. rows_in (Aggs a) (reads (Cpu i))) (λ i. total_rows kind (adds i)) 0 (n + 1)
        (λ i le lt. ap (map agg_row) (table_at i (omega (arith, lt))).0 ∙ agg_rows_are kind (adds i) (addition_keys (adds i))) in
        ap merged_rows (each ∙ same) ∙ merged_each kind adds actors
        ∙ alike_rows kind (flat_map adds actors) (all_adds p m (who steps)) (all_given script attached r run.job run.only_adds m steps run.interleaving)

    lost_by_kind : (k : MapKind) → IsAggregation k → sum (map (λ object. lost_by k m (operations_at object steps)) (holders_of script.maps n k m)) ≡ 0
    lost_by_kind Ints agg = absurd agg
    lost_by_kind Strs agg = absurd agg
    lost_by_kind (Aggs a) agg = none_in_all (λ object. lost_by (Aggs a) m (operations_at object steps)) 0 (n + 1)
        (λ i le lt. ap (λ (c : ℕ). c % 2 ^ 64) (table_at i (omega (arith, lt))).1)

  gathers : (i : ℕ) (decl : MapDecl) → slice_get script.maps i ≡ Some decl → IsAggregation decl.kind
  gathers i decl there = all_there (λ (d : MapDecl). IsAggregation d.kind) script.maps run.only_adds.maps i decl there

  low_at : (i : ℕ) (decl : MapDecl) → slice_get script.maps i ≡ Some decl → 0 + i < length script.maps
  low_at i decl there = let l = slice_get_within script.maps i decl there in omega arith

  pub rows_end : all_rows script n steps ≡ all_totals p steps
  rows_end = maps_same (rows_after script.maps n steps) (λ m decl. totals p m (who steps)) 0 script.maps
      (λ i decl there. rows_by (record { 0 = 0 + i }) (low_at i decl there) decl.kind (gathers i decl there))

  pub none_lost_end : of_maps (lost_after script.maps n steps) 0 script.maps ≡ of_maps (λ m decl. 0) 0 script.maps
  none_lost_end = maps_same (lost_after script.maps n steps) (λ m decl. 0) 0 script.maps
      (λ i decl there. lost_by_kind (record { 0 = 0 + i }) (low_at i decl there) decl.kind (gathers i decl there))

  text_end : printed_text script n steps ≡ flat_map (item_text script.formats script.maps) (emitted steps) ++ map_texts script.maps (all_totals p steps)
  unfolding printed_text
  text_end =
      (λ i. flat_map (item_text script.formats script.maps) (emitted steps) ++ (map_texts script.maps (rows_end i) ++ warnings script.maps (none_lost_end i)))
      ∙ ap (λ (l : List ℕ). flat_map (item_text script.formats script.maps) (emitted steps) ++ (map_texts script.maps (all_totals p steps) ++ l)) (no_warnings 0 script.maps)
      ∙ ap (λ (l : List ℕ). flat_map (item_text script.formats script.maps) (emitted steps) ++ l) (append-nil (map_texts script.maps (all_totals p steps)))

  pub ends : EndsWithTotals script attached r steps
  ends = record { rows = rows_end; none_lost = none_lost_end; text = text_end }
