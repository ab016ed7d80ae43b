use Rattle.std.proofs.Common.{◌&&◌, ◌==◌}
use Rattle.std.specs.Str.{bytes_eq}
use Rattle.expr_types.specs.declared.printed.CallKey.{CallKey}
use Rattle.expr_types.proofs.Calling.{key_is, call_found}
use Rattle.expr_types.proofs.printed.Calls.find.Goals as goal

pub returns : goal.returns
returns c =
    let k = c.in_ok-key.key in
    let f = c.in_ok-key.ensures in
    call_found (λ (j : CallKey). record { line = j.line; column = j.column }) (λ j. j.text.items) (λ j. k.line == j.line && (k.column == j.column && bytes_eq k.text.items j.text.items)) c.args.format.now c.args.place c.self.inside.pieces.entries c.args.self.now c.get_index_of.result
    (λ j. key_is j.line j.column j.text.items c.args.format.now c.args.place k.line k.column k.text.items f.place.0 f.place.1 f.text) c.self.view_is c.get_index_of.ensures.index
