use Rattle.std.proofs.Common.{◌≡◌, List, Some, sym, subst}
use Rattle.bt_core.specs.declared.map.Shape.{Shape}
use Rattle.bt_core.specs.Kinds.{HasShape}
use Rattle.helper_abi.specs.Reading.{values_at, shape_bytes, shape_of_kind}
use Rattle.helper_abi.proofs.CanDo.{value_map-is, few, small, can_get, room_is, room_at}
use Rattle.helper_abi.proofs.Callings.{range-some, read-some, room-some, fault-some, fault-read, read-no-room, whole-some}
use Rattle.helper_abi.proofs.helpers.get.Goals as goal

pub key_at-requires : goal.key_at-requires
key_at-requires g c =
    let decl = c.in-Some.decl.now in
    let found = value_map-is c.args.maps.now c.args.map decl (sym c.in-Some.ensures) in
    rw c.as_slice.ensures (few c.args.maps.now (g.P.Port.fixed c.args.port.now).setting c.args.map decl c.requires found.0)

pub returns-in-Err-clause-called : goal.returns-in-Err-clause-called
returns-in-Err-clause-called g c =
    fault-some _ _ c.in-Some.decl.now _ _ _ (sym c.in-Some.ensures) (fault-read _ _ c.in-Err.fault _ (rw c.as_slice.ensures at c.in-Err.ensures.read))

pub returns-in-Ok-clause-called : goal.returns-in-Ok-clause-called
returns-in-Ok-clause-called g c =
    let decl = c.in-Some.decl.now in
    let key = subst (λ (hs : List Shape). values_at c.args.memory.now hs c.args.key ≡ Some c.in-Ok.key) c.as_slice.ensures c.in-Ok.ensures.read in
    let room = room_is decl.kind c.shape_of_kind.result c.shape_bytes.result c.args.to _ c.shape_of_kind.ensures c.shape_bytes.ensures.value c.if-not-in_frame.ensures in
    range-some _ _ decl _ _ _ _ (sym c.in-Some.ensures) (read-some _ _ c.in-Ok.key _ _ _ _ key (room-some c.args.to (shape_bytes (shape_of_kind decl.kind)) _ _ _ _ _ room c.get_into.ensures.called))

pub returns-then-not-in_frame-clause-called : goal.returns-then-not-in_frame-clause-called
returns-then-not-in_frame-clause-called g c =
    let decl = c.in-Some.decl.now in
    let room = room_is decl.kind c.shape_of_kind.result c.shape_bytes.result c.args.to _ c.shape_of_kind.ensures c.shape_bytes.ensures.value c.if-not-in_frame.ensures in
    whole-some _ _ decl _ _ _ (sym c.in-Some.ensures) (read-no-room _ c.args.to _ _ _ room)

pub get_into-requires-clause-room : goal.get_into-requires-clause-room
get_into-requires-clause-room g c =
    let decl = c.in-Some.decl.now in
    let room = room_is decl.kind c.shape_of_kind.result c.shape_bytes.result c.args.to _ c.shape_of_kind.ensures c.shape_bytes.ensures.value c.if-not-in_frame.ensures in
    room_at c.args.maps.now (g.P.Port.fixed c.args.port.now).setting c.args.map c.args.to decl c.requires (sym c.in-Some.ensures) room

pub get_into-requires-clause-can : goal.get_into-requires-clause-can
get_into-requires-clause-can g c =
    let decl = c.in-Some.decl.now in
    let shaped = subst (λ (hs : List Shape). HasShape hs c.in-Ok.key) c.as_slice.ensures c.in-Ok.ensures.shaped in
    can_get c.args.maps.now (g.P.Port.fixed c.args.port.now).setting c.args.map decl c.requires c.in-Ok.key shaped (sym c.in-Some.ensures)

pub overflow_cast-map : goal.overflow_cast-map
overflow_cast-map g c =
    let decl = c.in-Some.decl.now in
    record { fits = small c.args.maps.now c.args.map decl (value_map-is c.args.maps.now c.args.map decl (sym c.in-Some.ensures)).0 }
