-- Lists that are the same but for items: what tests that no item changes find of them.
use Rattle.std.proofs.Common.{◌≡◌, Bool, true, false, cond, ℕ, List, [], ◌∷◌, map, sym, refl, ap, ◌∙◌, ◌+◌, ◌||◌}
use Rattle.std.specs.List.{count_by, list_any, filter, fold}
use Rattle.bt_core.specs.declared.item.Item.{Item}
use Rattle.bt_core.specs.declared.item.Item.TheVariants.{Cut}
use Rattle.bt_core.specs.declared.step.ObjectId.{ObjectId}
use Rattle.bt_core.specs.declared.step.Op.{Op}
use Rattle.bt_core.specs.declared.step.Op.TheVariants.{Get, Set, Delete, Clear, Zero, ReadAll, Add, ClearOf, ZeroOf, Read, Cross, Check, Stop, Emit}
use Rattle.bt_core.specs.declared.step.Step.{Step}
use Rattle.bt_core.specs.Steps.{is_of, is_on, of_actor, on_object, operations}
use Rattle.step_entries.specs.Blank.{blank_op, without_item}

-- ---- what no item changes

pub at_blank : {X : Type 0} (f : Op → X) → ((one other : Item) → f (Emit one) ≡ f (Emit other)) → (op : Op) → f (blank_op op) ≡ f op
at_blank f h (Emit item) = h (Cut 0) item
at_blank f h (Get key) = refl
at_blank f h (Set key value) = refl
at_blank f h (Delete key) = refl
at_blank f h Clear = refl
at_blank f h Zero = refl
at_blank f h ReadAll = refl
at_blank f h (Add m key number) = refl
at_blank f h (ClearOf m) = refl
at_blank f h (ZeroOf m) = refl
at_blank f h (Read m) = refl
at_blank f h (Cross tick) = refl
at_blank f h Check = refl
at_blank f h Stop = refl

pub blind_map : {X : Type 0} (f : Op → X) → ((one other : Item) → f (Emit one) ≡ f (Emit other)) → (ops : List Op) → map f (map blank_op ops) ≡ map f ops
blind_map f h [] = refl
blind_map f h (op ∷ ops) = λ i. at_blank f h op i ∷ blind_map f h ops i

count_from : (f : Op → Bool) → ((one other : Item) → f (Emit one) ≡ f (Emit other)) → (n : ℕ) (ops : List Op)
    → fold (λ a x. a + cond (f x) 1 0) n (map blank_op ops) ≡ fold (λ a x. a + cond (f x) 1 0) n ops
count_from f h n [] = refl
count_from f h n (op ∷ ops) =
    ap (λ b. fold (λ a x. a + cond (f x) 1 0) (n + cond b 1 0) (map blank_op ops)) (at_blank f h op) ∙ count_from f h (n + cond (f op) 1 0) ops

pub blind_count : (f : Op → Bool) → ((one other : Item) → f (Emit one) ≡ f (Emit other)) → (ops : List Op) → count_by f (map blank_op ops) ≡ count_by f ops
blind_count f h ops = count_from f h 0 ops

pub blind_any : (f : Op → Bool) → ((one other : Item) → f (Emit one) ≡ f (Emit other)) → (ops : List Op) → list_any f (map blank_op ops) ≡ list_any f ops
blind_any f h [] = refl
blind_any f h (op ∷ ops) = λ i. at_blank f h op i || blind_any f h ops i

-- ---- lists that are the same but for items

pub filter_through : (f : Step → Step) (test : Step → Bool) → ((s : Step) → test (f s) ≡ test s) → (xs : List Step) → filter test (map f xs) ≡ map f (filter test xs)
filter_through f test same [] = refl
filter_through f test same (x ∷ xs) =
    (λ i. cond (same x i) (f x ∷ filter_through f test same xs i) (filter_through f test same xs i)) ∙ by_test (test x)
  where
    by_test : (b : Bool) → cond b (f x ∷ map f (filter test xs)) (map f (filter test xs)) ≡ map f (cond b (x ∷ filter test xs) (filter test xs))
    by_test true = refl
    by_test false = refl

blank_operations : (o : ObjectId) (xs : List Step) → map blank_op (operations (on_object o xs)) ≡ operations (on_object o (map without_item xs))
blank_operations o xs = twice (on_object o xs) ∙ ap operations (sym (filter_through without_item (is_on o) (λ s. refl) xs))
  where
    twice : (ys : List Step) → map blank_op (operations ys) ≡ operations (map without_item ys)
    twice [] = refl
    twice (y ∷ ys) = ap (λ l. blank_op y.op ∷ l) (twice ys)

pub operations_alike : (o : ObjectId) (xs ys : List Step) → map without_item xs ≡ map without_item ys → map blank_op (operations (on_object o xs)) ≡ map blank_op (operations (on_object o ys))
operations_alike o xs ys e = blank_operations o xs ∙ ap (λ l. operations (on_object o l)) e ∙ sym (blank_operations o ys)

pub actors_alike : (a : ℕ) (xs ys : List Step) → map without_item xs ≡ map without_item ys → map without_item (of_actor a xs) ≡ map without_item (of_actor a ys)
actors_alike a xs ys e = sym (filter_through without_item (is_of a) (λ s. refl) xs) ∙ ap (of_actor a) e ∙ filter_through without_item (is_of a) (λ s. refl) ys
