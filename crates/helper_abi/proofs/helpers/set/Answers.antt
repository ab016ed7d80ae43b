use Rattle.std.proofs.Common.{◌≡◌, List, Some, sym, ap, ◌∙◌, subst}
use Rattle.bt_core.specs.declared.map.Shape.{Shape}
use Rattle.bt_core.specs.Kinds.{HasShape, IsOfShape}
use Rattle.helper_abi.specs.Reading.{values_at, value_at}
use Rattle.helper_abi.proofs.CanDo.{value_map-is, few, small, can_set, of_kind}
use Rattle.helper_abi.proofs.Callings.{range-some, read-some, fault-some, fault-read, read-no-second, whole-some}
use Rattle.helper_abi.proofs.helpers.set.Goals as goal

pub key_at-requires : goal.key_at-requires
key_at-requires g c =
    let decl = c.in-Some.decl.now in
    let found = value_map-is c.args.maps.now c.args.map decl (sym c.in-Some.ensures) in
    rw c.as_slice.ensures (few c.args.maps.now (g.P.Port.fixed c.args.port.now).setting c.args.map decl c.requires found.0)

pub returns-in-Err-clause-called : goal.returns-in-Err-clause-called
returns-in-Err-clause-called g c =
    fault-some _ _ c.in-Some.decl.now _ _ _ (sym c.in-Some.ensures) (fault-read _ _ c.in-Err.fault _ (rw c.as_slice.ensures at c.in-Err.ensures.read))

pub returns-clause-called : goal.returns-clause-called
returns-clause-called g c =
    let key = subst (λ (hs : List Shape). values_at c.args.memory.now hs c.args.key ≡ Some c.in-Ok.key) c.as_slice.ensures c.in-Ok.ensures.read in
    let value = ap (λ h. value_at c.args.memory.now h c.args.value) (sym c.shape_of_kind.ensures) ∙ sym c.in-Some-value_at.ensures.value in
    let told = rw c.part-object.ensures at c.tell.ensures.called in
    range-some _ _ c.in-Some.decl.now _ _ _ _ (sym c.in-Some.ensures) (read-some _ _ c.in-Ok.key _ _ _ _ key (read-some _ _ c.in-Some-value_at.value _ _ _ _ value told))

pub returns-in_default-value_at-clause-called : goal.returns-in_default-value_at-clause-called
returns-in_default-value_at-clause-called g c =
    let none = ap (λ h. value_at c.args.memory.now h c.args.value) (sym c.shape_of_kind.ensures) ∙ sym c.in_default-value_at.ensures.value in
    whole-some _ _ c.in-Some.decl.now _ _ _ (sym c.in-Some.ensures) (read-no-second _ _ _ _ none)

pub tell-requires : goal.tell-requires
tell-requires g c =
    let decl = c.in-Some.decl.now in
    let shaped = subst (λ (hs : List Shape). HasShape hs c.in-Ok.key) c.as_slice.ensures c.in-Ok.ensures.shaped in
    let found = value_map-is c.args.maps.now c.args.map decl (sym c.in-Some.ensures) in
    let kind = of_kind decl.kind c.in-Some-value_at.value found.1 (subst (λ (h : Shape). IsOfShape h c.in-Some-value_at.value) c.shape_of_kind.ensures c.in-Some-value_at.ensures.shaped) in
    rw c.part-object.ensures (can_set c.args.maps.now (g.P.Port.fixed c.args.port.now).setting c.args.map decl c.requires c.in-Ok.key shaped (sym c.in-Some.ensures) c.in-Some-value_at.value kind)

pub overflow_cast-map : goal.overflow_cast-map
overflow_cast-map g c =
    let decl = c.in-Some.decl.now in
    record { fits = small c.args.maps.now c.args.map decl (value_map-is c.args.maps.now c.args.map decl (sym c.in-Some.ensures)).0 }
