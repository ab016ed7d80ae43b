use Rattle.std.proofs.Common.{◌≡◌, drop, map}
use Rattle.mem_io.specs.MemShelf.{file_of, file_named}
use Rattle.mem_io.proofs.mem_shelf.find.Given as goal

abbrev pub invariant-loop-held : goal.invariant-loop-held
invariant-loop-held l = file_named l.name (map file_of l.files) ≡ file_named l.name (map file_of (drop l.held-index l.files))
