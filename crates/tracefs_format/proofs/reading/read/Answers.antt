use Rattle.std.proofs.Common.{◌≡◌, ◌∙◌, ap, sym, drop, Some, subst}
use Rattle.event_layout.specs.Lines.{text_lines}
use Rattle.event_layout.specs.Layouts.{line_at}
use Rattle.event_layout.specs.Reading.{name_on}
use Rattle.std.proofs.lemmas.Result.{err_from_is_err_and}
use Rattle.tracefs_format.proofs.HeadLemmas.{fault_of_fields, heads_taken, is_format, is_other, is_read, no_format, no_id, no_name, second_taken}
use Rattle.tracefs_format.specs.Tables.{Fails}
use Rattle.tracefs_format.proofs.LoopLemmas.{few_lines}
use Rattle.tracefs_format.proofs.reading.read.Goals as goal

pub read_fields-requires : goal.read_fields-requires
read_fields-requires c =
    let named : name_on (line_at 0 (text_lines c.args.text.now)) ≡ Some c.in-Some.name.now = ap name_on (sym (c.next_or_empty.ensures.line ∙ ap (line_at 0) c.of-lines.ensures)) ∙ c.in-Some.ensures in
    few_lines c.args.text.now c.in-Some.name.now c.next_or_empty.new.self c.next_or_empty-2.new.self c.next_or_empty-3.new.self c.requires named
    (c.next_or_empty.ensures.rest ∙ ap (drop 1) c.of-lines.ensures) c.next_or_empty-2.ensures.rest c.next_or_empty-3.ensures.rest

pub returns-in_default : goal.returns-in_default
returns-in_default c = no_name c.args.text.now c.next_or_empty.result.now (c.next_or_empty.ensures.line ∙ ap (line_at 0) c.of-lines.ensures) c.in_default.ensures

pub returns-in_default-id_on : goal.returns-in_default-id_on
returns-in_default-id_on c =
    no_id c.args.text.now c.next_or_empty.result.now c.next_or_empty-2.result.now c.in-Some.name.now (c.next_or_empty.ensures.line ∙ ap (line_at 0) c.of-lines.ensures) c.in-Some.ensures
    (second_taken c.args.text.now c.next_or_empty-2.result.now c.of-lines.result c.next_or_empty.new.self c.of-lines.ensures c.next_or_empty.ensures.rest c.next_or_empty-2.ensures.line)
    (sym c.in_default-id_on.ensures)

pub returns-then-ne : goal.returns-then-ne
returns-then-ne c =
    let heads =
    heads_taken c.args.text.now c.next_or_empty.result.now c.next_or_empty-2.result.now c.next_or_empty-3.result.now c.of-lines.result c.next_or_empty.new.self c.next_or_empty-2.new.self
    c.next_or_empty-3.new.self c.of-lines.ensures c.next_or_empty.ensures.line c.next_or_empty.ensures.rest c.next_or_empty-2.ensures.line c.next_or_empty-2.ensures.rest
    c.next_or_empty-3.ensures.line c.next_or_empty-3.ensures.rest in
    no_format c.args.text.now c.next_or_empty.result.now c.next_or_empty-2.result.now c.next_or_empty-3.result.now c.next_or_empty-3.new.self c.in-Some.name.now c.in-Some-id_on.id heads
    c.in-Some.ensures (sym c.in-Some-id_on.ensures) (is_other c.ne.result c.next_or_empty-3.result.now c.as_slice.result.now c.ne.ensures c.as_slice.ensures c.if-ne.true)

pub returns-in_err-table : goal.returns-in_err-table
returns-in_err-table c =
    let heads =
    heads_taken c.args.text.now c.next_or_empty.result.now c.next_or_empty-2.result.now c.next_or_empty-3.result.now c.of-lines.result c.next_or_empty.new.self c.next_or_empty-2.new.self
    c.next_or_empty-3.new.self c.of-lines.ensures c.next_or_empty.ensures.line c.next_or_empty.ensures.rest c.next_or_empty-2.ensures.line c.next_or_empty-2.ensures.rest
    c.next_or_empty-3.ensures.line c.next_or_empty-3.ensures.rest in
    let p = err_from_is_err_and c.from_residual.result c.from_residual.ensures.1 in
    let same =
    fault_of_fields c.args.text.now c.next_or_empty.result.now c.next_or_empty-2.result.now c.next_or_empty-3.result.now c.next_or_empty-3.new.self c.in-Some.name.now c.in-Some-id_on.id heads
    c.in-Some.ensures (sym c.in-Some-id_on.ensures) (is_format c.ne.result c.next_or_empty-3.result.now c.as_slice.result.now c.ne.ensures c.as_slice.ensures c.if-ne.false) in
    rw (p.1, p.2) (subst (Fails c.in_err-table.field-0.0) same c.in_err-table.ensures)

pub returns-in_err-from_slice : goal.returns-in_err-from_slice
returns-in_err-from_slice c = let p = err_from_is_err_and c.from_residual-in_err-from_slice.result c.from_residual-in_err-from_slice.ensures.1 in rw (p.1, p.2) tt

pub returns : goal.returns
returns c =
    let heads =
    heads_taken c.args.text.now c.next_or_empty.result.now c.next_or_empty-2.result.now c.next_or_empty-3.result.now c.of-lines.result c.next_or_empty.new.self c.next_or_empty-2.new.self
    c.next_or_empty-3.new.self c.of-lines.ensures c.next_or_empty.ensures.line c.next_or_empty.ensures.rest c.next_or_empty-2.ensures.line c.next_or_empty-2.ensures.rest
    c.next_or_empty-3.ensures.line c.next_or_empty-3.ensures.rest in
    is_read c.args.text.now c.next_or_empty.result.now c.next_or_empty-2.result.now c.next_or_empty-3.result.now c.next_or_empty-3.new.self c.in-Some.name.now c.in_ok-from_slice.field-0
    c.in-Some-id_on.id c.in_ok-table.table c.into_layout.result heads c.in-Some.ensures (sym c.in-Some-id_on.ensures)
    (is_format c.ne.result c.next_or_empty-3.result.now c.as_slice.result.now c.ne.ensures c.as_slice.ensures c.if-ne.false)
    c.in_ok-table.ensures.0 c.in_ok-table.ensures.1 c.in_ok-from_slice.ensures c.into_layout.ensures
