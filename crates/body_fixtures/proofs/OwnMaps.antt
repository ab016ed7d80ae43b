-- A port over a probe's own maps serves its blocks.
use Rattle.std.proofs.Common.{◌≡◌, List, [], ◌∷◌, refl, sym, subst}
use Rattle.bt_core.specs.declared.map.MapDecl.{MapDecl}
use Rattle.ir_code.specs.declared.blocks.Block.{Block}
use Rattle.ir_code.specs.declared.instr.Instr.{Instr}
use Rattle.ir_code.specs.declared.instr.Instr.TheVariants as i
use Rattle.ir_code.specs.Serving.{ServesInstr, ServesInstrs, ServesBlocks}

instr_served : (maps : List MapDecl) (x : Instr) → ServesInstr maps maps x
instr_served maps (i.Put v) = tt
instr_served maps (i.Builtin b) = tt
instr_served maps i.Comm = tt
instr_served maps (i.NumberField f) = tt
instr_served maps (i.TextField f) = tt
instr_served maps (i.Load x shape) = tt
instr_served maps (i.Store x shape) = tt
instr_served maps (i.StepVar x plus prefix) = tt
instr_served maps (i.UpdateVar x op) = tt
instr_served maps (i.Unary op) = tt
instr_served maps (i.Binary op) = tt
instr_served maps (i.Compare equal) = tt
instr_served maps i.Truth = tt
instr_served maps (i.Get m key shape) = refl
instr_served maps (i.ReadAgg m key) = refl
instr_served maps (i.Set m key shape) = refl
instr_served maps (i.Delete m key) = refl
instr_served maps (i.Update m key op) = refl
instr_served maps (i.StepMap m key plus prefix) = refl
instr_served maps (i.Add m key) = refl
instr_served maps (i.Count m key) = refl
instr_served maps (i.Printf format shapes) = tt
instr_served maps (i.Print m top div) = refl
instr_served maps (i.Clear m) = refl
instr_served maps (i.Zero m) = refl
instr_served maps (i.Cut line) = tt
instr_served maps i.Stop = tt
instr_served maps i.Pop = tt

instrs_served : (maps : List MapDecl) (xs : List Instr) → ServesInstrs maps maps xs
instrs_served maps [] = tt
instrs_served maps (x ∷ xs) = (instr_served maps x, instrs_served maps xs)

blocks_served : (maps : List MapDecl) (bs : List Block) → ServesBlocks maps maps bs
blocks_served maps [] = tt
blocks_served maps (b ∷ bs) = (instrs_served maps b.instrs, blocks_served maps bs)

pub own_maps : (served maps : List MapDecl) (bs : List Block) → served ≡ maps → ServesBlocks served maps bs
own_maps served maps bs e = subst (λ (m : List MapDecl). ServesBlocks m maps bs) (sym e) (blocks_served maps bs)
