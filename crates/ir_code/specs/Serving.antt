-- What instructions read of a payload, and the maps that they name.
use Rattle.std.specs.Prelude.{◌≡◌, ℕ, max, List, [], ◌∷◌, slice_get}
use Rattle.bt_core.specs.declared.map.MapDecl.{MapDecl}
use Rattle.bt_core.specs.declared.map.MapId.{MapId}
use Rattle.event_layout.specs.Sizes.{end_of}
use Rattle.ir_code.specs.declared.blocks.Block.{Block}
use Rattle.ir_code.specs.declared.instr.Instr.{Instr}
use Rattle.ir_code.specs.declared.instr.Instr.TheVariants as i

-- where an instruction reads a field, the field's end
abbrev pub end_read : Instr → ℕ
end_read (i.NumberField f) = end_of f
end_read (i.TextField f) = end_of f
end_read instr = 0

-- the greatest end of a field that is read
abbrev pub ends_read : List Instr → ℕ
ends_read [] = 0
ends_read (x ∷ xs) = max (end_read x) (ends_read xs)

abbrev pub payload_need : List Block → ℕ
payload_need [] = 0
payload_need (b ∷ bs) = max (ends_read b.instrs) (payload_need bs)

-- the map that an instruction names is served as it is declared
abbrev pub IsServedAs : List MapDecl → List MapDecl → MapId → Type 0
IsServedAs served maps m = slice_get served m.0 ≡ slice_get maps m.0

abbrev pub ServesInstr : List MapDecl → List MapDecl → Instr → Type 0
ServesInstr served maps (i.Get m key shape) = IsServedAs served maps m
ServesInstr served maps (i.ReadAgg m key) = IsServedAs served maps m
ServesInstr served maps (i.Set m key shape) = IsServedAs served maps m
ServesInstr served maps (i.Delete m key) = IsServedAs served maps m
ServesInstr served maps (i.Update m key op) = IsServedAs served maps m
ServesInstr served maps (i.StepMap m key plus prefix) = IsServedAs served maps m
ServesInstr served maps (i.Add m key) = IsServedAs served maps m
ServesInstr served maps (i.Count m key) = IsServedAs served maps m
ServesInstr served maps (i.Print m top div) = IsServedAs served maps m
ServesInstr served maps (i.Clear m) = IsServedAs served maps m
ServesInstr served maps (i.Zero m) = IsServedAs served maps m
ServesInstr served maps instr = Unit {0}

abbrev pub ServesInstrs : List MapDecl → List MapDecl → List Instr → Type 0
ServesInstrs served maps [] = Unit {0}
ServesInstrs served maps (x ∷ xs) = ServesInstr served maps x × ServesInstrs served maps xs

abbrev pub ServesBlocks : List MapDecl → List MapDecl → List Block → Type 0
ServesBlocks served maps [] = Unit {0}
ServesBlocks served maps (b ∷ bs) = ServesInstrs served maps b.instrs × ServesBlocks served maps bs
