-- The text of emitted items, item by item.
use Rattle.std.proofs.Common.{◌≡◌, ◌++◌, ℕ, zero, suc, ◌<◌, ◌≤◌, ◌+◌, List, [], ◌∷◌, length, map, take, get_or, refl, sym, ap, ◌∙◌, subst, append-nil, arith}
use Rattle.std.specs.List.{AllByRecursion, cons_option, filter_map, flat_map}
use Rattle.std.proofs.lemmas.List.{take_more, take_all, map-append}
use Rattle.std.proofs.lemmas.List.Concat.{flat_map-append}
use Rattle.bt_core.specs.declared.item.Item.{Item}
use Rattle.bt_core.specs.declared.step.ObjectId.{ObjectId}
use Rattle.bt_core.specs.declared.step.Op.{Op}
use Rattle.bt_core.specs.declared.step.Op.TheVariants as ops
use Rattle.bt_core.specs.declared.step.Step.{Step}
use Rattle.bt_core.specs.declared.item.Cell.{Cell}
use Rattle.bt_core.specs.declared.value.Value.{Value}
use Rattle.step_list.specs.declared.emits.Emitted.{Emitted}
use Rattle.step_list.specs.Emits.{Sent, emit_of, sent, told}
use Rattle.walk_meaning.specs.Admits.{EmitsOnly}
use Rattle.map_printer.specs.Ends.{end_text}
use Rattle.map_printer.specs.ItemTexts.{item_text}
use Rattle.typed_tree.specs.declared.script.Typed.{Typed}
use Rattle.bt_meaning.specs.Texts.{item_of}
use Rattle.bt_meaning.specs.Prints.{emitted, item_in, rows_after, lost_after, of_maps, printed_text}

-- ---- what is told of emitted items

items_told : (found : List Emitted) → map item_of found ≡ map (λ (t : Sent). t.1.1) (map told found)
items_told [] = refl
items_told (e ∷ found) = ap (λ l. item_of e ∷ l) (items_told found)

one_sent : (stamp : ℕ) (object : ObjectId) (op : Op) (told : List Sent) (items : List Item) → map (λ (t : Sent). t.1.1) told ≡ items
    → map (λ (t : Sent). t.1.1) (cons_option (sent stamp object op) told) ≡ cons_option (item_in op) items
one_sent stamp object (ops.Emit item) told items e = ap (λ l. item ∷ l) e
one_sent stamp object (ops.Get k) told items e = e
one_sent stamp object (ops.Set k v) told items e = e
one_sent stamp object (ops.Delete k) told items e = e
one_sent stamp object ops.Clear told items e = e
one_sent stamp object ops.Zero told items e = e
one_sent stamp object ops.ReadAll told items e = e
one_sent stamp object (ops.Add m k n) told items e = e
one_sent stamp object (ops.ClearOf m) told items e = e
one_sent stamp object (ops.ZeroOf m) told items e = e
one_sent stamp object (ops.Read m) told items e = e
one_sent stamp object (ops.Cross t) told items e = e
one_sent stamp object ops.Check told items e = e
one_sent stamp object ops.Stop told items e = e

items_sent : (steps : List Step) → map (λ (t : Sent). t.1.1) (filter_map emit_of steps) ≡ emitted steps
items_sent [] = refl
items_sent (s ∷ steps) = one_sent s.stamp s.object s.op (filter_map emit_of steps) (emitted steps) (items_sent steps)

-- they are the emitted items
pub items_are : (found : List Emitted) (steps : List Step) → map told found ≡ filter_map emit_of steps → map item_of found ≡ emitted steps
items_are found steps is = items_told found ∙ ap (map (λ (t : Sent). t.1.1)) is ∙ items_sent steps

-- ---- each has a text

module _ (P : Item → Type 0) where
  one_own : (op : Op) (items : List Item) → EmitsOnly P op → AllByRecursion P items → AllByRecursion P (cons_option (item_in op) items)
  one_own (ops.Emit item) items own h = (own, h)
  one_own (ops.Get k) items own h = h
  one_own (ops.Set k v) items own h = h
  one_own (ops.Delete k) items own h = h
  one_own ops.Clear items own h = h
  one_own ops.Zero items own h = h
  one_own ops.ReadAll items own h = h
  one_own (ops.Add m k n) items own h = h
  one_own (ops.ClearOf m) items own h = h
  one_own (ops.ZeroOf m) items own h = h
  one_own (ops.Read m) items own h = h
  one_own (ops.Cross t) items own h = h
  one_own ops.Check items own h = h
  one_own ops.Stop items own h = h

  all_own : (steps : List Step) → AllByRecursion (λ (s : Step). EmitsOnly P s.op) steps → AllByRecursion P (emitted steps)
  all_own [] own = tt
  all_own (s ∷ steps) own = one_own s.op (emitted steps) own.0 (all_own steps own.1)

  pub at_place : (found : List Emitted) (i : ℕ) (e : Emitted) → i < length found → e ≡ get_or found i e → AllByRecursion P (map item_of found) → P (item_of e)
  at_place [] i e lt at h = absurd (omega arith)
  at_place (x ∷ found) zero e lt at h = subst (λ (x : Emitted). P (item_of x)) (sym at) h.0
  at_place (x ∷ found) (suc i) e lt at h = at_place found i e (omega arith) at h.1

  pub items_are_own : (found : List Emitted) (steps : List Step) → map told found ≡ filter_map emit_of steps
      → AllByRecursion (λ (s : Step). EmitsOnly P s.op) steps → AllByRecursion P (map item_of found)
  items_are_own found steps is own = subst (AllByRecursion P) (sym (items_are found steps is)) (all_own steps own)

-- ---- their texts

module _ (f : Item → List ℕ) where
  -- one item more
  pub next_text : (found : List Emitted) (i : ℕ) (e : Emitted) (old new : List ℕ) → i < length found → e ≡ get_or found i e
      → old ≡ flat_map f (map item_of (take i found)) → new ≡ old ++ f (item_of e) → new ≡ flat_map f (map item_of (take (i + 1) found))
  next_text found i e old new lt at was more =
      let one : take (i + 1) found ≡ take i found ++ e ∷ [] = take_more found i e lt ∙ ap (λ x. take i found ++ x ∷ []) (sym at) in
      more ∙ ap (λ l. l ++ f (item_of e)) was ∙ ap (λ l. flat_map f (map item_of (take i found)) ++ l) (sym (append-nil (f (item_of e))))
      ∙ sym (flat_map-append f (map item_of (take i found)) (item_of e ∷ []))
      ∙ ap (flat_map f) (sym (map-append item_of (take i found) (e ∷ []))) ∙ ap (λ l. flat_map f (map item_of l)) (sym one)

  -- all items
  pub all_texts : (found : List Emitted) (i : ℕ) (text : List ℕ) → length found ≤ i → text ≡ flat_map f (map item_of (take i found)) → text ≡ flat_map f (map item_of found)
  all_texts found i text done e = e ∙ ap (λ l. flat_map f (map item_of l)) (take_all i found done)

-- the text of a run, by its two parts
pub whole_text : (script : Typed) (cpus : ℕ) (steps : List Step) (rows : List (List (List Value × Cell))) (lost first end text : List ℕ)
    → first ≡ flat_map (item_text script.formats script.maps) (emitted steps) → end ≡ end_text script.maps rows lost → text ≡ first ++ end
    → rows ≡ of_maps (rows_after script.maps cpus steps) 0 script.maps → lost ≡ of_maps (lost_after script.maps cpus steps) 0 script.maps
    → text ≡ printed_text script cpus steps
unfolding printed_text
whole_text script cpus steps rows lost first end text a b e are were = e ∙ (λ i. a i ++ b i) ∙ (λ i. flat_map (item_text script.formats script.maps) (emitted steps) ++ end_text script.maps (are i) (were i))
