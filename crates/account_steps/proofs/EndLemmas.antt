-- What is in the maps after steps is in them after all that are the same but for items.
use Rattle.std.proofs.Common.{◌≡◌, ℕ, ◌%◌, ◌^◌, ◌≤◌, List, [], ◌∷◌, length, map, sum, reverse, sym, refl, ap, ◌∙◌, subst, arith}
use Rattle.std.specs.Prelude.{All}
use Rattle.std.proofs.lemmas.List.{length-map}
use Rattle.std.specs.List.{AllByRecursion}
use Rattle.turn_lock.specs.History.{Each}
use Rattle.bt_core.specs.declared.map.MapDecl.{MapDecl}
use Rattle.bt_core.specs.declared.map.MapId.{MapId}
use Rattle.bt_core.specs.declared.map.MapKind.{MapKind}
use Rattle.bt_core.specs.declared.map.MapKind.TheVariants.{Ints, Strs, Aggs}
use Rattle.bt_core.specs.declared.step.Op.{Op}
use Rattle.bt_core.specs.declared.step.Step.{Step}
use Rattle.bt_core.specs.Kinds.{IsFineDecl}
use Rattle.agg_core.specs.Answers.{shared_change, table_change}
use Rattle.agg_core.specs.Changes.{lost_updates}
use Rattle.map_ops.specs.declared.sweep.Sweep.TheVariants as sweeps
use Rattle.map_ops.specs.Holders.{sweep_op}
use Rattle.map_rows.specs.Merged.{merged}
use Rattle.map_rows.specs.Fits.{AllRowsFit}
use Rattle.bt_meaning.specs.Prints.{holders_of, lost_after, lost_by, of_maps, operations_at, rows_after}
use Rattle.bt_meaning.specs.Replays.{Replay, cpus_of}
use Rattle.step_entries.specs.Blank.{blank_op, without_item}
use Rattle.step_entries.proofs.BlankLists.{blind_map, operations_alike}
use Rattle.begun_meaning.proofs.BlindReplies.{replies_alike}
use Rattle.run_objects.specs.declared.closed.Closed.{Closed}
use Rattle.run_objects.specs.Closed.{AreClosedAt, MapsStand}
use Rattle.run_objects.specs.Moments.{Moment}
use Rattle.run_objects.specs.Worlds.{IsOwn, World}
use Rattle.account_replay.specs.Replaying.{CanBeMade}
use Rattle.account_steps.specs.declared.check.Told.{Told}
use Rattle.account_steps.specs.declared.ends.Ended.{Ended}
use Rattle.account_steps.specs.Answers.{TellsEnd}

-- the world of a run that has ended, with these maps, and the steps that were made in it
abbrev pub moment_of : List MapDecl → Ended → Moment
moment_of maps ended = record { world = record { cpus = ended.cpus; ticks = ended.ticks; maps = maps }; steps = ended.made.value }

-- ---- the same but for items

lost_blind : (kind : MapKind) (m : MapId) (ops : List Op) → lost_by kind m (map blank_op ops) ≡ lost_by kind m ops
lost_blind Ints m ops = ap (λ c. lost_updates (reverse c) % 2 ^ 64) (blind_map shared_change (λ one other. refl) ops)
lost_blind Strs m ops = ap (λ c. lost_updates (reverse c) % 2 ^ 64) (blind_map shared_change (λ one other. refl) ops)
lost_blind (Aggs kind) m ops = ap (λ c. lost_updates (reverse c) % 2 ^ 64) (blind_map (table_change m) (λ one other. refl) ops)

lost_same : (kind : MapKind) (m : MapId) (ops others : List Op) → map blank_op ops ≡ map blank_op others → lost_by kind m ops ≡ lost_by kind m others
lost_same kind m ops others e = sym (lost_blind kind m ops) ∙ ap (lost_by kind m) e ∙ lost_blind kind m others

module _ (maps : List MapDecl) (cpus : ℕ) (xs ys : List Step) (e : map without_item xs ≡ map without_item ys) where
  rows_alike : (m : MapId) (decl : MapDecl) → rows_after maps cpus xs m decl ≡ rows_after maps cpus ys m decl
  rows_alike m decl = λ i. merged decl.kind (map (λ object.
      replies_alike maps cpus object (operations_at object xs) (operations_at object ys) (sweep_op sweeps.Read decl.kind m) (sweep_op sweeps.Read decl.kind m) (operations_alike object xs ys e) refl i)
      (holders_of maps cpus decl.kind m))

  lost_alike : (m : MapId) (decl : MapDecl) → lost_after maps cpus xs m decl ≡ lost_after maps cpus ys m decl
  lost_alike m decl = λ i. sum (map (λ object.
      lost_same decl.kind m (operations_at object xs) (operations_at object ys) (operations_alike object xs ys e) i) (holders_of maps cpus decl.kind m))

  pub all_rows_alike : of_maps (rows_after maps cpus xs) 0 maps ≡ of_maps (rows_after maps cpus ys) 0 maps
  all_rows_alike = λ i. of_maps (λ m decl. rows_alike m decl i) 0 maps

  pub all_lost_alike : of_maps (lost_after maps cpus xs) 0 maps ≡ of_maps (lost_after maps cpus ys) 0 maps
  all_lost_alike = λ i. of_maps (λ m decl. lost_alike m decl i) 0 maps

-- ---- the objects at the end

pub each_own : (w : World) (steps : List Step) → AllByRecursion (CanBeMade w) steps → Each (λ (s : Step). IsOwn w s.object s.op) steps
each_own w [] can = tt
each_own w (s ∷ ss) can = (can.0.own, each_own w ss can.1)

pub closed_at : (w : World) (steps : List Step) (closed : Closed) → All IsFineDecl w.maps → AllByRecursion (CanBeMade w) steps → MapsStand w steps closed → AreClosedAt (record { world = w; steps = steps }) closed
closed_at w steps closed fine can stand = record { fine = fine; possible = each_own w steps can; stand = stand }

-- where no stop came before the end, all entries were made
pub all_made : (entries made list : List Step) (stop : ℕ) → length made ≤ length entries → map without_item list ≡ map without_item made → stop ≤ length list → length entries ≤ stop → length made ≡ length entries
all_made entries made list stop short alike within every =
    let size : length list ≡ length made = sym (length-map list without_item) ∙ ap length alike ∙ length-map made without_item in omega arith

pub closed_by : (cpus ticks : ℕ) (own maps : List MapDecl) (made steps : List Step) (closed : Closed) → maps ≡ own → steps ≡ made → All IsFineDecl own
    → AllByRecursion (CanBeMade (record { cpus = cpus; ticks = ticks; maps = own })) made → MapsStand (record { cpus = cpus; ticks = ticks; maps = own }) made closed
    → AreClosedAt (record { world = record { cpus = cpus; ticks = ticks; maps = maps }; steps = steps }) closed
closed_by cpus ticks own maps made steps closed same is fine can stand =
    subst (λ (z : List MapDecl × List Step). AreClosedAt (record { world = record { cpus = cpus; ticks = ticks; maps = z.0 }; steps = z.1 }) closed) (λ i. (sym same i, sym is i))
    (closed_at (record { cpus = cpus; ticks = ticks; maps = own }) made closed fine can stand)

-- what is read after the steps that were made is what is in the maps after those with items
pub tells_end : (p : Replay) (told : Told) (made steps : List Step) (n : ℕ) (maps : List MapDecl) → n ≡ cpus_of p → steps ≡ made → maps ≡ p.maps → map without_item told.steps ≡ map without_item made
    → told.rows.items ≡ of_maps (rows_after maps n steps) 0 maps → told.lost.items ≡ of_maps (lost_after maps n steps) 0 maps → AllRowsFit maps told.rows.items → TellsEnd p told
tells_end p told made steps n maps main is same alike rows lost fit = record {
  rows = rows ∙ (λ i. of_maps (rows_after (same i) (main i) (is i)) 0 (same i)) ∙ sym (all_rows_alike p.maps (cpus_of p) told.steps made alike);
  lost = lost ∙ (λ i. of_maps (lost_after (same i) (main i) (is i)) 0 (same i)) ∙ sym (all_lost_alike p.maps (cpus_of p) told.steps made alike);
  fit = subst (λ (m : List MapDecl). AllRowsFit m told.rows.items) same fit;
}
