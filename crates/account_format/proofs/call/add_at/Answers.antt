use Rattle.std.proofs.Common.{◌≡◌, ◌∙◌, List, None, ap, sym}
use Rattle.std.specs.Int.{w64}
use Rattle.bt_core.specs.declared.map.Shape.{Shape}
use Rattle.recordings.specs.Fronts.{number_at}
use Rattle.account_format.specs.Reading.{add_at, key_at, table_map_at}
use Rattle.account_format.proofs.Chained.{none_then, some_then}
use Rattle.account_format.proofs.Mapped.{mapped_none, mapped_some}
use Rattle.account_format.proofs.call.add_at.Goals as goal

pub returns-in_default-2 : goal.returns-in_default-2
unfolding add_at
returns-in_default-2 c =
    let read = c.in_ok-key.ensures ∙ ap (λ (hs : List Shape). key_at hs c.in-Some.rest.now) c.as_slice.ensures in
    let none : key_at c.in-Some.decl.now.key_shape c.in-Some.rest.now ≡ None = mapped_none _ c.in_ok-key.field-0 (key_at c.in-Some.decl.now.key_shape c.in-Some.rest.now) read (c.in_default-2).is in
    some_then (table_map_at c.args.maps.now c.args.bytes.now) _ ((c.in-Some.map, c.in-Some.decl.now), c.in-Some.rest.now) _ (sym c.in-Some.ensures)
    (none_then (key_at c.in-Some.decl.now.key_shape c.in-Some.rest.now) _ none)

pub returns-in_default-u64_at : goal.returns-in_default-u64_at
unfolding add_at
returns-in_default-u64_at c =
    let read = c.in_ok-key.ensures ∙ ap (λ (hs : List Shape). key_at hs c.in-Some.rest.now) c.as_slice.ensures in
    let there = mapped_some _ c.in_ok-key.field-0 (key_at c.in-Some.decl.now.key_shape c.in-Some.rest.now) _ read (c.in-Some-2).is in
    some_then (table_map_at c.args.maps.now c.args.bytes.now) _ ((c.in-Some.map, c.in-Some.decl.now), c.in-Some.rest.now) _ (sym c.in-Some.ensures)
    (some_then (key_at c.in-Some.decl.now.key_shape c.in-Some.rest.now) _ _ _ there (none_then (number_at w64 (c.in-Some-2).rest.now) _ (sym c.in_default-u64_at.ensures)))
