use Rattle.std.proofs.Common.{List, ap, sym, arith}
use Rattle.bt_core.specs.declared.map.Shape.{Shape}
use Rattle.bt_lower.specs.declared.code.Code.{Code}
use Rattle.bt_lower.proofs.Lists.{front-short}
use Rattle.bt_lower.proofs.code.Code.untype.Goals as goal

pub returns-else-len-gt0 : goal.returns-else-len-gt0
returns-else-len-gt0 c =
    let short = sym (front-short c.args.self.now.stack (omega (arith, c.len-len.ensures, c.if-len-gt0.false))) in
    ap (λ (s : List Shape). let k : Code = record c.args.self.now { stack = s } in k) short
