-- Where an actor that is at work began.
use Rattle.cpu_worker.specs.declared.world_port.Start.{Start}
use Rattle.cpu_worker.specs.AtWork.{AtWork}

abbrev pub start_of : AtWork → Start
start_of p = record { maps = p.sets.maps; tables = p.sets.tables; sides = p.sets.sides; turns = p.first_turns; trace = p.first_trace }
