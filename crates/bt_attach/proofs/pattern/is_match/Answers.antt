use Rattle.std.proofs.Common.{◌≡◌, ◌∙◌, sym, ap, length, get_or, List, Bool, Vec}
use Rattle.bt_attach.specs.Pattern.{matches}
use Rattle.bt_attach.specs.Rows.{some_reached, after_byte}
use Rattle.bt_attach.proofs.Rows.{first_long, first_reached, next_row, length-after_byte, all_read}
use Rattle.bt_attach.proofs.Deciding.{matched, matching}
use Rattle.bt_attach.proofs.pattern.is_match.Goals as goal

pub loop-byte-init : goal.loop-byte-init
loop-byte-init c =
    record {
      left = ap (λ (row : List Bool). some_reached (matches c.args.pattern.now) row c.args.name.now) c.in_ok-row.ensures ∙ first_reached (matches c.args.pattern.now) (length c.args.name.now) c.args.name.now;
      long = ap length c.in_ok-row.ensures ∙ first_long (length c.args.name.now);
    }

pub loop-byte-preserved : goal.loop-byte-preserved
loop-byte-preserved c =
    let row = c.loop-byte.row.items in
    let next = c.swap.new.x.items in
    let e : next ≡ after_byte (get_or c.args.pattern.now c.loop-byte.byte-index 0) row c.args.name.now =
    ap (λ (v : Vec Bool _). v.items) c.swap.ensures.x_after
    ∙ (c.in_ok-after_byte.ensures ∙ ap (λ (l : List Bool). after_byte (get_or c.args.pattern.now c.loop-byte.byte-index 0) l c.args.name.now) c.deref.ensures.value) in
    record {
      left = next_row c.args.pattern.now c.args.name.now row next c.loop-byte.byte-index _ c.loop-byte-test.true e c.loop-byte.invariant.long c.loop-byte.invariant.left;
      long = ap length e ∙ length-after_byte _ row c.args.name.now c.loop-byte.invariant.long;
    }

pub returns-clause-test : goal.returns-clause-test
returns-clause-test c = all_read c.args.pattern.now c.args.name.now c.loop-byte.row.items c.loop-byte.byte-index c.index.result.now c.index.ensures c.loop-byte-test.false c.loop-byte.invariant.long c.loop-byte.invariant.left

pub returns-clause-matched : goal.returns-clause-matched
returns-clause-matched c =
    let e = all_read c.args.pattern.now c.args.name.now c.loop-byte.row.items c.loop-byte.byte-index c.index.result.now c.index.ensures c.loop-byte-test.false c.loop-byte.invariant.long c.loop-byte.invariant.left in
    (λ t. matched c.args.pattern.now c.args.name.now (sym e ∙ t), λ m. e ∙ matching c.args.pattern.now c.args.name.now m)

pub after_byte-requires : goal.after_byte-requires
after_byte-requires c = ap length c.deref.ensures.value ∙ c.loop-byte.invariant.long
