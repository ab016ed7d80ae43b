use Rattle.std.proofs.Common.{◌≡◌, ◌∙◌, sym, false, arith, [], ap, length}
use Rattle.std.proofs.lemmas.Result.{err_from_is_err_and}
use Rattle.event_layout.specs.Layouts.{is_print_line, read_lines, lines_fault, described}
use Rattle.tracefs_format.proofs.LoopLemmas.{line_fails, line_passes, line_described}
use Rattle.tracefs_format.proofs.reading.read_fields.Goals as goal

pub returns-in_err-table : goal.returns-in_err-table
returns-in_err-table c =
    let plain : is_print_line c.in-Some.line.now ≡ false = sym c.starts_with.ensures.value ∙ c.if-starts_with.false in
    let p = err_from_is_err_and c.from_residual.result c.from_residual.ensures.1 in
    rw (p.1, p.2) (line_fails c.in_err-table.field-0.0 c.loop-line.number c.loop-line.table c.in-Some.line.now c.loop-line.lines c.next.new.self (lines_fault 4 [] (read_lines c.args.lines)) c.in-Some.ensures plain c.in_err-table.ensures c.loop-line.invariant.fault)

pub loop-line-preserved : goal.loop-line-preserved
loop-line-preserved c =
    let plain : is_print_line c.in-Some.line.now ≡ false = sym c.starts_with.ensures.value ∙ c.if-starts_with.false in
    record {
      fault = line_passes c.loop-line.number c.loop-line.table c.in_ok-table.table c.in-Some.line.now c.loop-line.lines c.next.new.self (lines_fault 4 [] (read_lines c.args.lines)) c.in-Some.ensures plain c.in_ok-table.ensures.0 c.in_ok-table.ensures.1 c.loop-line.invariant.fault;
      fields = line_described c.loop-line.table c.in_ok-table.table c.in-Some.line.now c.loop-line.lines c.next.new.self (described (read_lines c.args.lines)) c.in-Some.ensures plain c.in_ok-table.ensures.1 c.loop-line.invariant.fields;
      counted = omega (arith, c.loop-line.invariant.counted, ap length c.in-Some.ensures);
    }
