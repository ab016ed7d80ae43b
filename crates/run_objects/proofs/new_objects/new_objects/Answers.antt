use Rattle.std.proofs.Common.{refl, subst}
use Rattle.run_objects.specs.News.{NewMaps}
use Rattle.run_objects.proofs.NewLemmas.{new_stand}
use Rattle.run_objects.proofs.new_objects.new_objects.Goals as goal

pub returns : goal.returns
returns c =
    let e = c.in_ok-clock.ensures in
    new_stand (record { cpus = c.args.cpus; ticks = c.args.ticks; maps = c.args.maps.now }) (record {
      shared = c.in_ok-shared.shared;
      tables = c.in_ok-tables.tables;
      ticks = record { object = c.in_ok-clock.clock; clock = 0 };
      out = record { object = c.in_ok-out.out; clock = 0 };
    })
    (subst (λ l. NewMaps l c.in_ok-shared.shared.items) c.as_slice.ensures c.in_ok-shared.ensures)
    c.in_ok-tables.ensures.new c.in_ok-tables.ensures.count
    (record { same = e.kind; stood = e.stands; unstamped = refl }) refl
