-- What one row more does to rows that are merged, by what they hold under its key.
use Rattle.std.proofs.Common.{◌≡◌, ℕ, suc, ◌<◌, ◌+◌, true, false, Bool, List, ◌∷◌, length, get_or, drop, drop-cons, add-one, map, Option, Some, None, refl, sym, ap, ◌∙◌}
use Rattle.std.specs.declared.cmp.Ordering.{Ordering}
use Rattle.std.specs.Prelude.{fold}
use Rattle.std.specs.BTreeMap.{insert_entry, is_at}
use Rattle.std.specs.Option.{is_some, IfSome}
use Rattle.std.specs.Map.{lookup, set_value}
use Rattle.std.proofs.lemmas.Map.Steps.{set_value_same}
use Rattle.std.proofs.lemmas.Map.Views.{IfSome-lookup_from_All, All-values-insert_entry, All-values-set_value}
use Rattle.bt_core.specs.declared.item.Cell.{Cell}
use Rattle.bt_core.specs.declared.item.Cell.TheVariants as cells
use Rattle.bt_core.specs.declared.map.AggKind.{AggKind}
use Rattle.bt_core.specs.declared.value.Value.{Value}
use Rattle.bt_core.specs.contracts.key.KeyOrd.TheImpl as key_ord
use Rattle.bt_core.specs.Order.{key_order}
use Rattle.agg_core.specs.Changes.{is_key}
use Rattle.map_rows.specs.Merged.{both_cells}
use Rattle.map_rows.specs.Merging.{row_beside, with_row, HasAggKind, AllHaveAggKind}
use Rattle.map_rows.proofs.KeyOrder.{order_is}

-- the test of a search by the order that is derived for keys
abbrev pub found_at : List Value → List Value → Bool
found_at key = is_at (key_ord.ghosts.cmp key)

beside : (rows : List (List Value × Cell)) (row : List Value × Cell) (held : Option Cell) → lookup (found_at row.0) rows ≡ held → with_row rows row ≡ row_beside held rows row
beside rows row held e =
    ap (λ (R : List Value → List Value → Ordering). row_beside (lookup (is_at (R row.0)) rows) rows row) (sym order_is)
    ∙ ap (λ (o : Option Cell). row_beside o rows row) e

pub none_of : {A : Type 0} (o : Option A) → is_some o ≡ false → o ≡ None
none_of None e = refl
none_of (Some x) e = cc

some_of : {A : Type 0} (o : Option A) → is_some o ≡ true → (x : A) × (o ≡ Some x)
some_of None e = cc
some_of (Some x) e = (x, refl)

-- a key that they do not have
pub inserted : (rows made : List (List Value × Cell)) (row : List Value × Cell) → lookup (found_at row.0) rows ≡ None → made ≡ insert_entry key_ord.ghosts.cmp rows row.0 row.1 → made ≡ with_row rows row
inserted rows made row absent e =
    e ∙ ap (λ (R : List Value → List Value → Ordering). insert_entry R rows row.0 row.1) order_is ∙ sym (beside rows row None absent)

-- a key that they have
pub written : (rows made : List (List Value × Cell)) (row : List Value × Cell) (cell next : Cell) → lookup (found_at row.0) rows ≡ Some cell → next ≡ both_cells cell row.1 → made ≡ set_value (found_at row.0) rows next → made ≡ with_row rows row
written rows made row cell next there joined e =
    e ∙ ap (λ (R : List Value → List Value → Ordering). set_value (is_at (R row.0)) rows next) order_is
    ∙ ap (λ (c : Cell). set_value (is_key row.0) rows c) joined ∙ sym (beside rows row (Some cell) there)

stays : (cell : Cell) (v : Value) → both_cells cell (cells.Value v) ≡ cell
stays (cells.Value u) v = refl
stays (cells.Agg a) v = refl

-- a value under a key that they have changes nothing
pub kept : (rows : List (List Value × Cell)) (key : List Value) (v : Value) → is_some (lookup (found_at key) rows) ≡ true → rows ≡ with_row rows (key, cells.Value v)
kept rows key v there =
    let held = some_of (lookup (found_at key) rows) there in
    written rows rows (key, cells.Value v) held.0 held.0 held.1 (sym (stays held.0 v)) (sym (set_value_same (found_at key) rows held.0 held.1))

-- aggregates of one kind, merged, are of it
both_kind : (kind : AggKind) (cell later : Cell) → HasAggKind kind cell → HasAggKind kind (both_cells cell later)
both_kind kind (cells.Value v) later e = tt
both_kind kind (cells.Agg a) (cells.Value v) e = e
both_kind kind (cells.Agg a) (cells.Agg b) e = e

-- one row more of the kind
pub with_row_kind : (kind : AggKind) (rows : List (List Value × Cell)) (row : List Value × Cell) → AllHaveAggKind kind rows → HasAggKind kind row.1 → AllHaveAggKind kind (with_row rows row)
with_row_kind kind rows row held is = by_held (lookup (is_key row.0) rows) (IfSome-lookup_from_All (HasAggKind kind) (is_key row.0) rows held)
  where
    by_held : (o : Option Cell) → IfSome o (HasAggKind kind) → AllHaveAggKind kind (row_beside o rows row)
    by_held None e = All-values-insert_entry key_order row.0 row.1 (HasAggKind kind) rows held is
    by_held (Some cell) e = All-values-set_value (is_key row.0) (HasAggKind kind) rows (both_cells cell row.1) held (both_kind kind cell row.1 e)

-- one item more of a list that is folded from its front
pub fold_next : {A B X : Type 0} (f : B → X → B) (g : A → X) (old new : B) (xs : List A) (i : ℕ) (x : A) → i < length xs → x ≡ get_or xs i x → new ≡ f old (g x) → fold f new (map g (drop (i + 1) xs)) ≡ fold f old (map g (drop i xs))
fold_next f g old new xs i x less is next =
    let cut : drop i xs ≡ x ∷ drop (i + 1) xs = rw (add-one, drop-cons xs i x less) (ap (λ (y : _). y ∷ drop (suc i) xs) (sym is)) in
    ap (λ b. fold f b (map g (drop (i + 1) xs))) next ∙ ap (λ l. fold f old (map g l)) (sym cut)
