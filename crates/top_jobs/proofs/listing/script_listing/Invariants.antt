use Rattle.std.proofs.Common.{◌≡◌, take}
use Rattle.top_jobs.specs.Listings.{script_listing}
use Rattle.top_jobs.proofs.listing.script_listing.Given as goal

abbrev pub invariant-loop-number : goal.invariant-loop-number
invariant-loop-number l = l.text.items ≡ script_listing l.formats (take l.number l.bodies) (take l.number l.programs)
