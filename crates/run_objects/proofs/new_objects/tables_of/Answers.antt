use Rattle.std.proofs.Common.{refl, ◌∙◌, arith}
use Rattle.step_objects.specs.declared.cpu.CpuTable.{CpuTable}
use Rattle.step_objects.specs.Objects.{cpu_kind, CpuStands}
use Rattle.run_objects.specs.declared.own.OwnObject.{OwnObject}
use Rattle.run_objects.specs.News.{IsNew}
use Rattle.run_objects.proofs.MoreLemmas.{all_more, count_more}
use Rattle.run_objects.proofs.new_objects.tables_of.Goals as goal

pub loop-preserved : goal.loop-preserved
loop-preserved c =
    let own : OwnObject CpuTable = record { object = c.in_ok-object.object; clock = 0 } in
    let l = count_more c.loop.tables.items _ own c.in_ok-push.ensures.items in let i = c.loop.invariant.count in record {
      new = all_more (IsNew cpu_kind CpuStands c.args.maps.now) c.loop.tables.items _ own c.loop.invariant.new
          (record { same = c.in_ok-object.ensures.kind ∙ c.in_ok-try_copy.ensures; stood = c.in_ok-object.ensures.stands; unstamped = refl }) c.in_ok-push.ensures.items;
      count = omega arith;
    }
