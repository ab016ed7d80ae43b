use Rattle.std.proofs.Common.{rules}
use Rattle.body_fixtures.proofs.OwnMaps.{own_maps}
use Rattle.body_fixtures.proofs.lowered.run.Goals as goal

pub run_ir-requires : goal.run_ir-requires
run_ir-requires c = record {
  payload_is_long = search rules;
  length_is_named = search rules;
  maps_are_served = own_maps _ _ _ c.in_ok-port.ensures.maps;
  actor_is_the_ports = search rules;
  actor_is_below = search rules;
  actors_are_the_ports = search rules;
}
