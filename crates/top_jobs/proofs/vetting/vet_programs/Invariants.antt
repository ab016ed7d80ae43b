use Rattle.std.proofs.Common.{◌≡◌, take}
use Rattle.top_jobs.specs.Listings.{of_bodies}
use Rattle.top_jobs.specs.Vetting.{PassBefore, program_line}
use Rattle.top_jobs.proofs.vetting.vet_programs.Given as goal

-- the programs so far are accepted, and their lines are there
abbrev pub invariant-loop-number : goal.invariant-loop-number
invariant-loop-number l = record {
  lines : l.text.items ≡ of_bodies (program_line l.formats) (take l.number l.ids) (take l.number l.programs);
  before : PassBefore l.typed l.programs l.number;
}
