use Rattle.std.proofs.Common.{◌≡◌, ℕ, ◌+◌, List, [], ◌∷◌, ◌++◌, sym, ap, ◌∙◌, subst, arith, append_assoc, append-nil}
use Rattle.std.proofs.lemmas.List.{map-append}
use Rattle.bt_core.specs.declared.map.MapDecl.{MapDecl}
use Rattle.bt_core.specs.declared.step.ObjectId.{ObjectId}
use Rattle.bt_core.specs.declared.step.ObjectId.TheVariants.{Shared}
use Rattle.turn_lock.specs.History.{Each}
use Rattle.turn_lock.proofs.HistoryLemmas.{Each-snoc}
use Rattle.stamped.specs.Numbered.{numbered}
use Rattle.stamped.proofs.NumberedLemmas.{numbered_snoc}
use Rattle.step_objects.specs.declared.shared.SharedPart.{SharedPart}
use Rattle.step_objects.specs.CpuTables.{map_at}
use Rattle.step_objects.specs.Objects.{shared_kind, SharedStands}
use Rattle.shared_maps.specs.Parts.{Part, part_at, made_for}
use Rattle.shared_maps.proofs.objects.push_map.Goals as goal

-- one part more
one_more : (first now new : List (ObjectId × SharedPart)) (x : ObjectId × SharedPart) (m p : ℕ) (decl : MapDecl) → new ≡ now ++ x ∷ [] → (let part : Part = (x.0, shared_kind x.1) in part) ≡ part_at m decl p
    → made_for now ≡ made_for first ++ numbered (part_at m decl) 0 p → made_for new ≡ made_for first ++ numbered (part_at m decl) 0 (p + 1)
one_more first now new x m p decl grew is h =
    ap made_for grew ∙ map-append (λ (o : ObjectId × SharedPart). let part : Part = (o.0, shared_kind o.1) in part) now (x ∷ [])
    ∙ (λ i. h i ++ (is ∙ ap (part_at m decl) (let e : p ≡ 0 + p = omega arith in e)) i ∷ [])
    ∙ append_assoc (made_for first) (numbered (part_at m decl) 0 p) (part_at m decl (0 + p) ∷ [])
    ∙ ap (λ (l : List Part). made_for first ++ l) (sym (numbered_snoc (part_at m decl) 0 p))

pub loop-part-init : goal.loop-part-init
loop-part-init c = record { parts = sym (append-nil (made_for c.args.objects.now.items)); stand = c.requires.stand }

pub loop-part-preserved : goal.loop-part-preserved
loop-part-preserved c = let xs = c.loop-part.objects.items in let m = c.args.number in let p = c.loop-part.part in let object = c.in_ok-object.object in
    let x : ObjectId × SharedPart = (Shared (map_at m) p, object) in let grew = c.in_ok-push.ensures.items in let i = c.loop-part.invariant in record {
      parts = one_more c.args.objects.now.items xs _ x m p c.args.decl.now grew
          (λ k. (Shared (map_at m) p, (c.in_ok-object.ensures.kind ∙ ap (λ (d : MapDecl). record { map = map_at m; decl = d }) c.in_ok-try_copy.ensures) k)) i.parts;
      stand = subst (Each (λ (o : ObjectId × SharedPart). SharedStands o.1 [])) (sym grew) (Each-snoc (λ (o : ObjectId × SharedPart). SharedStands o.1 []) xs x i.stand c.in_ok-object.ensures.stands);
    }
