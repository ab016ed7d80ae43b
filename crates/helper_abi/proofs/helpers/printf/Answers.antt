use Rattle.std.proofs.Common.{◌≡◌, List, Some, sym, subst}
use Rattle.fmt_text.specs.Arguments.{argument_shapes}
use Rattle.fmt_text.specs.declared.piece.Piece.{Piece}
use Rattle.helper_abi.specs.Reading.{values_at}
use Rattle.helper_abi.proofs.Callings.{range-some, read-some, fault-some, fault-read}
use Rattle.helper_abi.proofs.CanDo.{small}
use Rattle.helper_abi.proofs.helpers.printf.Goals as goal

pub returns-in-Err-clause-called : goal.returns-in-Err-clause-called
returns-in-Err-clause-called g c =
    fault-some _ _ c.in-Some.pieces.now _ _ _ (sym c.in-Some.ensures) (fault-read _ _ c.in-Err.fault _ (rw c.as_slice.ensures at c.in-Err.ensures.read))

pub returns-clause-called : goal.returns-clause-called
returns-clause-called g c =
    let values = subst (λ (ps : List Piece). values_at c.args.memory.now (argument_shapes ps) c.args.address ≡ Some c.in-Ok.values) c.as_slice.ensures c.in-Ok.ensures.read in
    range-some _ _ c.in-Some.pieces.now _ _ _ _ (sym c.in-Some.ensures) (read-some _ _ c.in-Ok.values _ _ _ _ values c.tell.ensures.called)

pub overflow_cast-format : goal.overflow_cast-format
overflow_cast-format g c =
    record { fits = small c.args.formats.now c.args.format c.in-Some.pieces.now (sym c.in-Some.ensures) }
