use Rattle.std.proofs.Common.{get_or, refl, arith, ◌∙◌}
use Rattle.bt_ast.specs.declared.attached.BodyId.{BodyId}
use Rattle.bt_ast.specs.declared.attached.BodyPoint.TheVariants.{Begin}
use Rattle.top_jobs.specs.Listings.{body_listing}
use Rattle.top_jobs.proofs.Listed.{listing_all, next_listed}
use Rattle.top_jobs.proofs.listing.script_listing.Goals as goal

abbrev first : BodyId
first = record { probe = 0; point = Begin }

pub loop-number-preserved : goal.loop-number-preserved
loop-number-preserved c =
    let low = c.loop-number-test.true in
    let many = c.min-many.ensures in
    next_listed (body_listing c.args.formats.now) c.args.bodies.now c.args.programs.now c.loop-number.number (get_or c.args.bodies.now c.loop-number.number first) first c.index-programs-number.result c.loop-number.text.items
    c.push_body.new.text.items (omega (arith, low, many)) (omega (arith, low, many)) refl c.index-programs-number.is c.loop-number.invariant c.in_ok-push_body.ensures

pub returns : goal.returns
returns c =
    let past = c.loop-number-test.false in
    let many = c.min-many.ensures in
    c.of.ensures ∙ c.loop-number.invariant
    ∙ listing_all (body_listing c.args.formats.now) c.args.bodies.now c.args.programs.now c.loop-number.number (omega (arith, past, many))
