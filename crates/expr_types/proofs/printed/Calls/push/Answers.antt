use Rattle.std.proofs.Common.{◌≡◌, ◌&&◌, ◌==◌, ℕ, ap, ◌∙◌}
use Rattle.std.specs.Str.{bytes_eq}
use Rattle.bt_core.specs.declared.place.Place.{Place}
use Rattle.expr_types.specs.declared.printed.CallKey.{CallKey}
use Rattle.expr_types.proofs.Calling.{key_is, call_pushed}
use Rattle.expr_types.proofs.printed.Calls.push.Goals as goal

place_is : (line column : ℕ) (place : Place) → line ≡ place.line → column ≡ place.column → (let p : Place = record { line = line; column = column } in p) ≡ place
place_is line column place f g = ap (λ (n : ℕ). let p : Place = record { line = n; column = column } in p) f ∙ ap (λ (n : ℕ). let p : Place = record { line = place.line; column = n } in p) g

pub returns : goal.returns
returns c =
    let k = c.in_ok-key.key in
    let f = c.in_ok-key.ensures in
    let entries = c.in_ok-insert.ensures.entries in
    call_pushed (λ (j : CallKey). record { line = j.line; column = j.column }) (λ j. j.text.items) (λ (a b : CallKey). a.line == b.line && (a.column == b.column && bytes_eq a.text.items b.text.items)) k c.args.format.now c.args.place c.args.pieces c.self.inside.pieces.entries c.insert.new.self.entries c.args.self.now
    (λ j. key_is j.line j.column j.text.items c.args.format.now c.args.place k.line k.column k.text.items f.place.0 f.place.1 f.text) c.self.view_is c.requires (place_is k.line k.column c.args.place f.place.0 f.place.1) f.text c.in_ok-insert.ensures.entries
