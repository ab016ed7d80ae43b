use Rattle.std.proofs.Common.{◌≡◌, ℕ, ◌+◌, List, [], ◌∷◌, ◌++◌, map, refl, sym, ap, ◌∙◌, subst, arith}
use Rattle.std.proofs.lemmas.List.{map-append}
use Rattle.bt_core.specs.declared.step.ObjectId.{ObjectId}
use Rattle.bt_core.specs.declared.step.ObjectId.TheVariants.{Cpu}
use Rattle.turn_lock.specs.History.{Each}
use Rattle.turn_lock.proofs.HistoryLemmas.{Each-snoc}
use Rattle.stamped.specs.Numbered.{numbered}
use Rattle.stamped.proofs.NumberedLemmas.{numbered_snoc}
use Rattle.step_objects.specs.declared.cpu.CpuTable.{CpuTable}
use Rattle.step_objects.specs.Objects.{cpu_kind, CpuStands}
use Rattle.percpu_tables.proofs.objects.new_tables.Goals as goal

-- one object more
one_more : {A B : Type 0} (f : A → B) (g : ℕ → B) (xs new : List A) (x : A) (n : ℕ) → new ≡ xs ++ x ∷ [] → f x ≡ g n → map f xs ≡ numbered g 0 n → map f new ≡ numbered g 0 (n + 1)
one_more f g xs new x n grew is h = ap (map f) grew ∙ map-append f xs (x ∷ [])
    ∙ (λ i. h i ++ (is ∙ ap g (let e : n ≡ 0 + n = omega arith in e)) i ∷ []) ∙ sym (numbered_snoc g 0 n)

pub loop-actor-preserved : goal.loop-actor-preserved
loop-actor-preserved c = let xs = c.loop-actor.objects.items in let n = c.loop-actor.actor in let table = c.in_ok-table.table in
    let x : ObjectId × CpuTable = (Cpu n, table) in let grew = c.in_ok-push.ensures.items in let i = c.loop-actor.invariant in record {
      ids = one_more (λ (o : ObjectId × CpuTable). o.0) Cpu xs _ x n grew refl i.ids;
      kinds = one_more (λ (o : ObjectId × CpuTable). cpu_kind o.1) (λ _. c.args.maps.now) xs _ x n grew (c.in_ok-table.ensures.kind ∙ c.in_ok-try_copy.ensures) i.kinds;
      stand = subst (Each (λ (o : ObjectId × CpuTable). CpuStands o.1 [])) (sym grew) (Each-snoc (λ (o : ObjectId × CpuTable). CpuStands o.1 []) xs x i.stand c.in_ok-table.ensures.stands);
    }
