use Rattle.std.proofs.Common.{ℕ, ◌++◌, get_or, refl, sym, ap, arith, ◌∙◌}
use Rattle.std.proofs.lemmas.Option.{slice_get-get_or}
use Rattle.bt_ast.specs.declared.attached.BodyId.{BodyId}
use Rattle.bt_ast.specs.declared.attached.BodyPoint.TheVariants.{Begin}
use Rattle.top_jobs.specs.Vetting.{program_line, line_of}
use Rattle.top_jobs.proofs.Listed.{listing_all, next_listed}
use Rattle.top_jobs.proofs.Passing.{all_passed, first_refused, pass_more, read_at}
use Rattle.top_jobs.proofs.vetting.vet_programs.Goals as goal

abbrev first : BodyId
first = record { probe = 0; point = Begin }

pub loop-number-preserved : goal.loop-number-preserved
loop-number-preserved c =
    let n = c.loop-number.number in
    let low = c.loop-number-test.true in
    let many = c.requires.as_many in
    let named = c.requires.named in
    let id = get_or c.args.ids.now n first in
    record {
      lines = next_listed (program_line c.args.formats.now) c.args.ids.now c.args.programs.now n id first c.index-programs-number.result
          c.loop-number.text.items c.push_line.new.text.items (omega (arith, low, many, named)) low refl c.index-programs-number.is
          c.loop-number.invariant.lines
          (c.in_ok-push_line.ensures ∙ ap (λ (most : ℕ). c.loop-number.text.items ++ line_of c.args.formats.now id most) c.in-Ok.ensures.most);
      before = pass_more c.args.typed.now c.args.programs.now n c.index-as_slice-number.result c.index-programs-number.result
          (read_at c.as_slice.result.now c.args.typed.now.bodies n c.index-as_slice-number.result c.as_slice.ensures c.index-as_slice-number.is (omega (arith, low, many)))
          (read_at c.args.programs.now c.args.programs.now n c.index-programs-number.result refl c.index-programs-number.is low)
          c.loop-number.invariant.before c.in-Ok.ensures.passes;
    }

pub returns-in-Err : goal.returns-in-Err
returns-in-Err c =
    let n = c.loop-number.number in
    let low = c.loop-number-test.true in
    let many = c.requires.as_many in
    let named = c.requires.named in
    first_refused c.args.ids.now c.args.typed.now c.args.programs.now n (get_or c.args.ids.now n first) c.index-as_slice-number.result
    c.index-programs-number.result c.in-Err.fault c.in_ok-why-in-Err.why (slice_get-get_or c.args.ids.now n first (omega (arith, low, many, named)))
    (read_at c.as_slice.result.now c.args.typed.now.bodies n c.index-as_slice-number.result c.as_slice.ensures c.index-as_slice-number.is (omega (arith, low, many)))
    (read_at c.args.programs.now c.args.programs.now n c.index-programs-number.result refl c.index-programs-number.is low)
    c.loop-number.invariant.before c.in-Err.ensures.refused (sym c.in_ok-why-in-Err.ensures)

pub returns : goal.returns
returns c =
    let n = c.loop-number.number in
    let past = c.loop-number-test.false in
    let many = c.requires.as_many in
    let named = c.requires.named in (
      all_passed c.args.typed.now c.args.programs.now n past c.loop-number.invariant.before,
      c.of.ensures ∙ c.loop-number.invariant.lines
          ∙ listing_all (program_line c.args.formats.now) c.args.ids.now c.args.programs.now n (omega (arith, past, many, named)),
    )
