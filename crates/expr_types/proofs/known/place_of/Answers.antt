use Rattle.std.proofs.lemmas.Grind.{common_steps}
use Rattle.std.proofs.Common.{ap, sym, ◌∙◌, arith}
use Rattle.std.specs.Str.{bytes_eq}
use Rattle.expr_types.proofs.Finding.{name_found, name_passed}
use Rattle.expr_types.proofs.known.place_of.Goals as goal

pub returns-then-eq : goal.returns-then-eq
returns-then-eq c =
    name_found c.args.names.now c.loop-i.i c.index-names-i.result c.args.name.now (omega arith) c.index-names-i.is
    (ap (λ o. bytes_eq o c.args.name.now) (sym c.as_slice.ensures) ∙ (sym c.eq.ensures ∙ c.if-eq.true)) c.loop-i.invariant.there c.loop-i.invariant.placed

pub loop-i-preserved : goal.loop-i-preserved
loop-i-preserved c =
    let p = name_passed c.args.names.now c.loop-i.i c.index-names-i.result c.args.name.now (omega arith) c.index-names-i.is
    (ap (λ o. bytes_eq o c.args.name.now) (sym c.as_slice.ensures) ∙ (sym c.eq.ensures ∙ c.if-eq.false)) in
    record { there = p.0 ∙ c.loop-i.invariant.there; placed = p.1 ∙ c.loop-i.invariant.placed }

pub returns : goal.returns
returns c = grind (arith, common_steps)
