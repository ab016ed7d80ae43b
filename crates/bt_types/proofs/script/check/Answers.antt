use Rattle.std.proofs.Common.{◌∙◌, List, refl, sym, ap, subst}
use Rattle.std.specs.List.{AllZip}
use Rattle.std.proofs.lemmas.Result.{IfOk-at_ok}
use Rattle.bt_core.specs.declared.map.MapDecl.{MapDecl}
use Rattle.fmt_text.specs.declared.piece.Piece.{Piece}
use Rattle.typed_tree.specs.declared.body.TypedTree.{TypedTree}
use Rattle.bt_types.specs.Bodies.{nothing}
use Rattle.bt_types.specs.Open.{IsClosed}
use Rattle.bt_types.specs.Under.{AreUnder}
use Rattle.bt_types.proofs.Closing.{fault_said, none_said, done_at, end_sound, typed_bodies, trees_same, are_in, all_listed}
use Rattle.bt_types.proofs.Scoped.{maps_fine, bodies_close}
use Rattle.bt_types.proofs.script.check.Goals as goal

pub returns-in_err-known-clause-fault : goal.returns-in_err-known-clause-fault
returns-in_err-known-clause-fault c =
    fault_said c.args.script.now c.args.formats.now c.args.attached.now.bodies c.from_residual.result c.in_err-known.field-0.0 c.from_residual.ensures.1
    (rw (← c.as_slice.ensures) c.in_err-known.ensures)

pub close_bodies-closed-requires-clause-fine : goal.close_bodies-closed-requires-clause-fine
close_bodies-closed-requires-clause-fine c =
    let script = c.args.script.now in
    let formats = c.args.formats.now in
    let ids = c.args.attached.now.bodies in
    let k = c.in_ok-known.known in
    let opens = c.in_ok-known.bodies in
    let done = done_at script formats ids c.as_slice.result.now nothing k opens c.as_slice.ensures refl c.in_ok-known.ensures in
    let sound = end_sound script formats ids k opens done in
    let shared = IfOk-at_ok _ c.in_ok-bodies.ensures.1 c.shared_of-shared.ensures in
    rw shared.0 (maps_fine k sound)

pub close_bodies-closed-requires-clause-fits : goal.close_bodies-closed-requires-clause-fits
close_bodies-closed-requires-clause-fits c =
    let script = c.args.script.now in
    let formats = c.args.formats.now in
    let ids = c.args.attached.now.bodies in
    let k = c.in_ok-known.known in
    let opens = c.in_ok-known.bodies in
    let done = done_at script formats ids c.as_slice.result.now nothing k opens c.as_slice.ensures refl c.in_ok-known.ensures in
    let sound = end_sound script formats ids k opens done in
    let shared = IfOk-at_ok _ c.in_ok-bodies.ensures.1 c.shared_of-shared.ensures in
    rw (shared.0, shared.1, c.in_ok-bodies.ensures.0) (bodies_close script formats k ids opens sound done.each)

pub invariant_of-result : goal.invariant_of-result
invariant_of-result c =
    let script = c.args.script.now in
    let formats = c.args.formats.now in
    let ids = c.args.attached.now.bodies in
    let k = c.in_ok-known.known in
    let opens = c.in_ok-known.bodies in
    let done = done_at script formats ids c.as_slice.result.now nothing k opens c.as_slice.ensures refl c.in_ok-known.ensures in
    let sound = end_sound script formats ids k opens done in
    let shared = IfOk-at_ok _ c.in_ok-bodies.ensures.1 c.shared_of-shared.ensures in
    let maps_same = ap (λ (both : List MapDecl × List (List Piece)). both.0) c.in_ok-maps.ensures.0 in
    let formats_same = ap (λ (both : List MapDecl × List (List Piece)). both.1) c.in_ok-maps.ensures.0 in
    let closed : AllZip (IsClosed c.in_ok-maps.maps c.in_ok-maps.formats) opens c.in_ok-maps.bodies =
    rw (maps_same, formats_same, ← c.in_ok-bodies.ensures.0) (IfOk-at_ok _ c.in_ok-maps.ensures.1 c.close_bodies-closed.ensures) in
    record {
      fine = rw (maps_same, shared.0) (maps_fine k sound);
      placed = ∣ are_in c.in_ok-maps.maps c.in_ok-maps.formats opens c.in_ok-maps.bodies closed ∣₁;
    }

pub returns-clause-typed : goal.returns-clause-typed
returns-clause-typed c =
    let script = c.args.script.now in
    let formats = c.args.formats.now in
    let ids = c.args.attached.now.bodies in
    let k = c.in_ok-known.known in
    let opens = c.in_ok-known.bodies in
    let done = done_at script formats ids c.as_slice.result.now nothing k opens c.as_slice.ensures refl c.in_ok-known.ensures in
    let shared = IfOk-at_ok _ c.in_ok-bodies.ensures.1 c.shared_of-shared.ensures in
    let maps_same = ap (λ (both : List MapDecl × List (List Piece)). both.0) c.in_ok-maps.ensures.0 in
    let formats_same = ap (λ (both : List MapDecl × List (List Piece)). both.1) c.in_ok-maps.ensures.0 in
    let closed : AllZip (IsClosed c.in_ok-maps.maps c.in_ok-maps.formats) opens c.in_ok-maps.bodies =
    rw (maps_same, formats_same, ← c.in_ok-bodies.ensures.0) (IfOk-at_ok _ c.in_ok-maps.ensures.1 c.close_bodies-closed.ensures) in
    record {
      known = k;
      whole = done.whole;
      maps = maps_same ∙ shared.0;
      formats_read = formats_same ∙ shared.1;
      exits = c.script_exits.ensures;
      each = typed_bodies script formats k c.in_ok-maps.maps c.in_ok-maps.formats ids opens c.in_ok-maps.bodies done.each closed;
      under = subst (λ (l : List TypedTree). AreUnder script formats nothing ids l) (sym (trees_same c.in_ok-maps.maps c.in_ok-maps.formats opens c.in_ok-maps.bodies closed)) done.under;
      lists = all_listed script formats c.in_ok-maps.maps c.in_ok-maps.formats nothing ids opens c.in_ok-maps.bodies closed done.numbers;
    }

pub returns-clause-allowed : goal.returns-clause-allowed
returns-clause-allowed c =
    let script = c.args.script.now in
    let formats = c.args.formats.now in
    let ids = c.args.attached.now.bodies in
    let k = c.in_ok-known.known in
    let opens = c.in_ok-known.bodies in
    let done = done_at script formats ids c.as_slice.result.now nothing k opens c.as_slice.ensures refl c.in_ok-known.ensures in
    none_said script formats ids k done.whole
