use Rattle.std.proofs.Common.{rules}
use Rattle.run_objects.proofs.own.take_in.Goals as goal

pub returns : goal.returns
returns g c = let e = c.take.ensures in record {
  one = c.index_mut.result.now;
  other = c.take.new.self;
  was = search rules;
  now = search rules;
  took = record { kind = e.kind; replies = e.replies; taken = e.taken; stamp = e.stamp; clock = e.clock; memory = e.memory; same = e.same };
}
