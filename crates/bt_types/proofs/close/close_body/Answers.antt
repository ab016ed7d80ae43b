use Rattle.std.proofs.lemmas.Result.{IfOk-at_ok}
use Rattle.bt_types.proofs.Scoped.{named_fine}
use Rattle.bt_types.proofs.close.close_body.Goals as goal

pub invariant_of-result : goal.invariant_of-result
invariant_of-result c =
    let kept = c.in_ok-body.ensures.0 in
    let named = IfOk-at_ok _ c.in_ok-body.ensures.1 c.named_in-named.ensures in
    record {
      fine = rw (named.0, c.as_slice.ensures) (named_fine c.args.maps.now c.args.body.named c.requires.fine);
      typed = rw (kept, named.0, named.1, c.as_slice.ensures, c.as_slice-2.ensures) c.requires.fits;
    }
