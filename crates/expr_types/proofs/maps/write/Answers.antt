use Rattle.std.proofs.lemmas.Grind.{common_steps}
use Rattle.std.proofs.Common.{◌≡◌, ℕ, true, List, Option, None, sym, subst, ◌∙◌, arith}
use Rattle.bt_core.specs.declared.map.MapKind.{MapKind}
use Rattle.bt_core.specs.declared.map.Shape.{Shape}
use Rattle.typed_tree.specs.Scope.{is_fine_kind, is_fine_decl}
use Rattle.expr_types.specs.declared.fault.Rule.{Rule}
use Rattle.expr_types.specs.declared.known.Known.{Known}
use Rattle.expr_types.specs.Rules.{write_breaks}
use Rattle.expr_types.proofs.Reading.{write_fine}
use Rattle.expr_types.proofs.maps.write.Goals as goal

fine : (k : Known) (name other : List ℕ) (kind : MapKind) (shapes others : List Shape) (breaks : Option Rule) → other ≡ name → others ≡ shapes → breaks ≡ write_breaks k other kind others → breaks ≡ None → is_fine_kind kind ≡ true
    → is_fine_decl (record { name = name; kind = kind; key_shape = shapes }) ≡ true
fine k name other kind shapes others breaks e f h g is = subst (λ (s : List Shape). is_fine_decl (record { name = name; kind = kind; key_shape = s }) ≡ true) f (write_fine k other kind others is (sym h ∙ g))

pub settle-requires : goal.settle-requires
settle-requires c =
    fine c.args.known.now c.args.name.now c.as_slice.result.now c.args.kind c.args.shapes c.as_slice-2.result.now c.write_breaks.result c.as_slice.ensures c.as_slice-2.ensures c.write_breaks.ensures c.in-None.is c.requires

pub returns-in-None-clause-refuses : goal.returns-in-None-clause-refuses
returns-in-None-clause-refuses c = grind (arith, common_steps)

pub returns-in-None-clause-learned : goal.returns-in-None-clause-learned
returns-in-None-clause-learned c = grind (arith, common_steps)

pub returns-in-Some-clause-refuses : goal.returns-in-Some-clause-refuses
returns-in-Some-clause-refuses c = grind (arith, common_steps)
