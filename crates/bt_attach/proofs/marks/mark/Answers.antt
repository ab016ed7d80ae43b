use Rattle.std.proofs.Common.{false, refl}
use Rattle.bt_attach.specs.Marks.{is_named}
use Rattle.bt_attach.proofs.Rounds.{marks_more, marks_end, found_more, found_end}
use Rattle.bt_attach.proofs.marks.mark.Goals as goal

pub loop-k-preserved : goal.loop-k-preserved
loop-k-preserved c =
    let test = is_named c.args.system.now c.args.name.now in
    record {
      marks = marks_more test c.args.marks.now c.args.formats.now c.loop-k.k false _ c.in_ok-here.here c.index-formats-k.result c.loop-k.next c.push.new.self _
          c.loop-k-test.true c.requires c.index-formats-k.is c.loop-k.invariant.marks c.in_ok-here.ensures refl c.in_ok-push.ensures.ok;
      found = found_more test c.args.formats.now c.loop-k.k c.index-formats-k.result c.in_ok-here.here c.loop-k.found _ _
          c.loop-k-test.true c.index-formats-k.is c.in_ok-here.ensures refl c.loop-k.invariant.found;
    }

pub returns-clause-marks : goal.returns-clause-marks
returns-clause-marks c =
    marks_end (is_named c.args.system.now c.args.name.now) c.args.marks.now c.args.formats.now c.loop-k.k c.loop-k.next _ c.loop-k-test.false c.requires c.loop-k.invariant.marks

pub returns-clause-found : goal.returns-clause-found
returns-clause-found c = found_end (is_named c.args.system.now c.args.name.now) c.args.formats.now c.loop-k.k c.loop-k.found _ c.loop-k-test.false c.loop-k.invariant.found
