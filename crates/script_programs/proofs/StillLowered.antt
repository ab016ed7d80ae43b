-- Folded bodies are lowered too.
use Rattle.std.proofs.Common.{◌≡◌, ℕ, zero, suc, List, [], ◌∷◌, ◌++◌, length, Some, refl, ap, ◌∙◌, subst, arith}
use Rattle.std.specs.Prelude.{slice_get}
use Rattle.std.specs.List.{AllZip}
use Rattle.bt_core.specs.declared.map.MapDecl.{MapDecl}
use Rattle.bt_core.specs.declared.map.Shape.{Shape}
use Rattle.ir_code.specs.declared.probe.IrProbe.{IrProbe}
use Rattle.bt_lower.specs.Bodies.{IsLowered, LowersScript}
use Rattle.ir_fold.specs.Folded.{IsFoldOf}
use Rattle.typed_tree.specs.declared.body.TypedBody.{TypedBody}
use Rattle.typed_tree.specs.declared.script.Typed.{Typed}

pub one_more : (bs cs : List IrProbe) (b c : IrProbe) → AllZip IsFoldOf bs cs → IsFoldOf b c → AllZip IsFoldOf (bs ++ b ∷ []) (cs ++ c ∷ [])
one_more [] [] b c h p = (p, tt)
one_more [] (d ∷ cs) b c h p = absurd h
one_more (d ∷ bs) [] b c h p = absurd h
one_more (d ∷ bs) (e ∷ cs) b c h p = (h.0, one_more bs cs b c h.1 p)

as_many : (bs cs : List IrProbe) → AllZip IsFoldOf bs cs → length cs ≡ length bs
as_many [] [] h = refl
as_many [] (d ∷ cs) h = absurd h
as_many (d ∷ bs) [] h = absurd h
as_many (d ∷ bs) (e ∷ cs) h = ap suc (as_many bs cs h.1)

record Folded (bs : List IrProbe) (n : ℕ) (c : IrProbe) : Type 0 where
  old : IrProbe
  at : slice_get bs n ≡ Some old
  folds : IsFoldOf old c

folded_at : (bs cs : List IrProbe) (n : ℕ) (c : IrProbe) → AllZip IsFoldOf bs cs → slice_get cs n ≡ Some c → Folded bs n c
folded_at [] [] n c h e = absurd (cc)
folded_at [] (d ∷ cs) n c h e = absurd h
folded_at (d ∷ bs) [] n c h e = absurd h
folded_at (d ∷ bs) (x ∷ cs) zero c h e = let s : x ≡ c = cc in record { old = d; at = refl; folds = subst (λ (y : IrProbe). IsFoldOf d y) s h.0 }
folded_at (d ∷ bs) (x ∷ cs) (suc n) c h e = let r = folded_at bs cs n c h.1 e in record { old = r.old; at = r.at; folds = r.folds }

still_lowered : (maps : List MapDecl) (formats : List (List Shape)) (body : TypedBody) (old new : IrProbe) → IsLowered maps formats body old
    → IsFoldOf old new → IsLowered maps formats body new
still_lowered maps formats body old new l f = record {
  runs = λ context payload actor actors. f.runs context payload actor actors ∙ l.runs context payload actor actors;
  variables = f.variables ∙ l.variables;
  maps_are = f.maps ∙ l.maps_are;
  formats_are = f.formats ∙ l.formats_are;
  reads = (let a = l.reads in let b = f.reads in omega (arith, a, b));
  frame = f.frame_need ∙ l.frame;
  code = f.code_need ∙ l.code;
}

pub script_still_lowered : (script : Typed) (bs cs : List IrProbe) → LowersScript script bs → AllZip IsFoldOf bs cs → LowersScript script cs
script_still_lowered script bs cs l h = record {
  as_many = as_many bs cs h ∙ l.as_many;
  each = λ n body c at on. (let r = folded_at bs cs n c h on in still_lowered _ _ body r.old c (l.each n body r.old at r.at) r.folds);
}
