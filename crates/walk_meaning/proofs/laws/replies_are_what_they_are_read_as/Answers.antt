use Rattle.walk_meaning.specs.Reading.{walk_by}
use Rattle.walk_meaning.specs.Walk.{walk}
use Rattle.walk_meaning.proofs.Readings.{same_under, same_always}
use Rattle.walk_meaning.proofs.SameLaws.{SameUnder-calls, SameUnder-value}
use Rattle.walk_meaning.proofs.laws.replies_are_what_they_are_read_as.Goals as goal

pub returns-clause-own : goal.returns-clause-own
returns-clause-own c body context payload actor actors = same_always body context payload actor actors

pub returns-clause-same : goal.returns-clause-same
returns-clause-same c setting body context payload actor actors reader can takes = same_under setting body context payload actor actors reader can takes

pub returns-clause-calls : goal.returns-clause-calls
returns-clause-calls c setting body context payload actor actors reader replies can takes fit =
    SameUnder-calls setting.maps (walk_by reader body context payload actor actors) (walk body context payload actor actors) replies (same_under setting body context payload actor actors reader can takes) fit

pub returns-clause-ending : goal.returns-clause-ending
returns-clause-ending c setting body context payload actor actors reader replies can takes fit =
    SameUnder-value setting.maps (walk_by reader body context payload actor actors) (walk body context payload actor actors) replies (same_under setting body context payload actor actors reader can takes) fit
