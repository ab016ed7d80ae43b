use Rattle.std.proofs.Common.{◌≡◌, List, ◌∷◌, ◌++◌, [], ◌∙◌, ap}
use Rattle.std.proofs.lemmas.Result.{IfOk-at_ok}
use Rattle.bt_core.specs.declared.map.Shape.{Shape}
use Rattle.ir_code.specs.declared.instr.Instr.{Instr}
use Rattle.bt_lower.specs.Code.{pushed, taken_back}
use Rattle.bt_lower.specs.declared.code.Code.{Code}
use Rattle.bt_lower.proofs.Arms.{at-ok}
use Rattle.bt_lower.proofs.code.Code.push.Goals as goal

-- an instruction more, and the types before it
one-more : (old : Code) (instr kept : Instr) (stack : List Shape) (instrs : List Instr) → stack ≡ taken_back instr old.stack → instrs ≡ old.instrs ++ kept ∷ [] → kept ≡ instr
    → ◌≡◌ {A = Code} (record { blocks = old.blocks; stack = stack; instrs = instrs; exit = old.exit; depth = old.depth }) (pushed instr old)
one-more old instr kept stack instrs hs hi hk =
    let all = hi ∙ ap (λ (x : Instr). old.instrs ++ x ∷ []) hk in
    (λ i. record { blocks = old.blocks; stack = hs i; instrs = all i; exit = old.exit; depth = old.depth })

pub returns-in-Ok : goal.returns-in-Ok
returns-in-Ok c =
    let stack = IfOk-at_ok (λ answer. c.take_back-taken.new.stack ≡ taken_back c.args.instr c.args.self.now.stack) c.in-Ok.ensures.1 c.take_back-taken.ensures in
    at-ok c.push.result c.push.ensures.ok (λ grown. one-more c.args.self.now c.args.instr _ _ _ stack grown c.in-Ok.ensures.0)
