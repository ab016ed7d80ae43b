use Rattle.std.proofs.Common.{◌≡◌, drop}
use Rattle.expr_types.specs.Known.{decl_in}
use Rattle.expr_types.proofs.known.decl_in.Given as goal

-- what is left to see decides
abbrev pub invariant-loop-decl : goal.invariant-loop-decl
invariant-loop-decl l = decl_in l.name (drop l.decl-index l.decls) ≡ decl_in l.name l.decls
