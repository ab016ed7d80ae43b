use Rattle.std.proofs.Common.{sym, arith}
use Rattle.std.proofs.lemmas.Result.{err_from_is_err_and}
use Rattle.rec_format.specs.Heads.{format_part}
use Rattle.recordings.specs.Recordings.{formats_bytes}
use Rattle.recordings.proofs.Fields.{IsBytes}
use Rattle.rec_format.proofs.HeadLaws.{format_reads}
use Rattle.rec_format.proofs.Lists.{suffix_fits}
use Rattle.rec_format.proofs.LoopLaws.{format_next, format_cut, format_refused}
use Rattle.rec_format.proofs.formats.read_formats.Goals as goal

pub returns-in_default : goal.returns-in_default
returns-in_default c = λ _. format_cut c.args.whole c.args.count c.loop.counter c.args.bytes.now c.loop.rest.now c.loop.table c.loop-test.true c.loop.invariant (sym c.in_default.ensures)

pub with-requires-clause-short : goal.with-requires-clause-short
with-requires-clause-short c =
    let fits : IsBytes c.args.bytes.now = λ i. omega (arith, c.type_inv.bytes i) in
    (format_reads.takes c.loop.rest.now (format_part c.in-Some.format) c.in-Some.after.now (suffix_fits (formats_bytes c.loop.table) c.loop.rest.now c.args.bytes.now c.loop.invariant.spelled fits) (sym c.in-Some.ensures)).1.text

pub returns-in_err-table : goal.returns-in_err-table
returns-in_err-table c =
    let fits : IsBytes c.args.bytes.now = λ i. omega (arith, c.type_inv.bytes i) in
    let p = err_from_is_err_and c.from_residual.result c.from_residual.ensures.1 in
    rw (p.1, p.2) (λ other. format_refused c.args.whole c.args.count c.loop.counter c.args.bytes.now c.loop.rest.now c.in-Some.after.now c.loop.table (format_part c.in-Some.format) c.in_err-table.field-0.0 fits c.loop-test.true c.loop.invariant (sym c.in-Some.ensures) (c.in_err-table.ensures other))

pub loop-preserved : goal.loop-preserved
loop-preserved c =
    let fits : IsBytes c.args.bytes.now = λ i. omega (arith, c.type_inv.bytes i) in
    format_next c.loop.counter c.args.bytes.now c.loop.rest.now c.in-Some.after.now c.loop.table c.in_ok-table.table (format_part c.in-Some.format) fits c.loop.invariant (sym c.in-Some.ensures) c.in_ok-table.ensures
