use Rattle.std.proofs.Common.{◌≡◌, List, Some, sym, ◌∙◌, subst, SFits, w64, rules}
use Rattle.bt_core.specs.declared.map.Shape.{Shape}
use Rattle.bt_core.specs.Kinds.{HasShape}
use Rattle.helper_abi.specs.Reading.{values_at}
use Rattle.std.specs.Prelude.{ℤ}
use Rattle.std.proofs.lemmas.Int.{to_z-of_z}
use Rattle.bt_core.specs.declared.step.ObjectId.TheVariants.{Cpu}
use Rattle.bt_core.specs.declared.step.Op.TheVariants.{Add}
use Rattle.bpf_interp.specs.Running.{Called}
use Rattle.map_ops.specs.Asking.{tells}
use Rattle.helper_abi.specs.Helpers.{map_id}
use Rattle.helper_abi.specs.Steps.{frame_kept}
use Rattle.helper_abi.proofs.CanDo.{table_map-is, few, small, can_add}
use Rattle.helper_abi.proofs.Callings.{range-some, read-some, fault-some, fault-read}
use Rattle.helper_abi.proofs.helpers.aggregate.Goals as goal

pub key_at-requires : goal.key_at-requires
key_at-requires g c =
    let decl = c.in-Some.decl.now in
    let found = table_map-is c.args.maps.now c.args.map decl (sym c.in-Some.ensures) in
    rw c.as_slice.ensures (few c.args.maps.now (g.P.Port.fixed c.args.port.now).setting c.args.map decl c.requires.served found.0)

pub returns-in-Err-clause-called : goal.returns-in-Err-clause-called
returns-in-Err-clause-called g c =
    fault-some _ _ c.in-Some.decl.now _ _ _ (sym c.in-Some.ensures) (fault-read _ _ c.in-Err.fault _ (rw c.as_slice.ensures at c.in-Err.ensures.read))

pub returns-clause-called : goal.returns-clause-called
returns-clause-called g c =
    let key = subst (λ (hs : List Shape). values_at c.args.memory.now hs c.args.key ≡ Some c.in-Ok.key) c.as_slice.ensures c.in-Ok.ensures.read in
    let fits : SFits w64 c.cast_signed.result = search rules in
    let number = to_z-of_z w64 c.cast_signed.result fits ∙ c.cast_signed.ensures in
    let told = subst (λ (z : ℤ). Called (frame_kept c.args.memory.now (tells (Cpu c.args.actor) (Add (map_id c.args.map) c.in-Ok.key z))) (g.P.Port.steps c.args.port.now) (g.P.Port.steps c.tell.new.port) c.tell.result c.args.memory.now.frame) number c.tell.ensures.called in
    range-some _ _ c.in-Some.decl.now _ _ _ _ (sym c.in-Some.ensures) (read-some _ _ c.in-Ok.key _ _ _ _ key told)

pub tell-requires : goal.tell-requires
tell-requires g c =
    let decl = c.in-Some.decl.now in
    let shaped = subst (λ (hs : List Shape). HasShape hs c.in-Ok.key) c.as_slice.ensures c.in-Ok.ensures.shaped in
    can_add c.args.maps.now (g.P.Port.fixed c.args.port.now).setting c.args.map decl c.requires.served c.in-Ok.key shaped (sym c.in-Some.ensures) c.args.actor c.cast_signed.result c.requires.actor

pub overflow_cast-op : goal.overflow_cast-op
overflow_cast-op g c =
    let decl = c.in-Some.decl.now in
    record { fits = small c.args.maps.now c.args.map decl (table_map-is c.args.maps.now c.args.map decl (sym c.in-Some.ensures)).0 }
