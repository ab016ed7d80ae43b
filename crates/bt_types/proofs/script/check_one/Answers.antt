use Rattle.std.proofs.Common.{◌≡◌, List, Some, length, slice_get, refl, subst}
use Rattle.std.proofs.lemmas.Option.{slice_get_read}
use Rattle.bt_ast.specs.declared.probe.Probe.{Probe}
use Rattle.bt_types.proofs.Opens.{one_done}
use Rattle.bt_types.proofs.script.check_one.Goals as goal

pub returns : goal.returns
returns c =
    let id = c.args.id.now in
    let within = c.requires.probe in
    let probes = c.as_slice.result.now in
    let there : slice_get probes id.probe ≡ Some c.index-as_slice-id.result =
    slice_get_read probes (length probes) id.probe c.index-as_slice-id.result refl (rw c.as_slice.ensures within) c.index-as_slice-id.is in
    one_done c.args.script.now c.args.formats.now id c.index-as_slice-id.result c.args.known.now c.check_body.new.known c.check_body.result
    (subst (λ (l : List Probe). slice_get l id.probe ≡ Some c.index-as_slice-id.result) c.as_slice.ensures there) c.check_body.ensures
