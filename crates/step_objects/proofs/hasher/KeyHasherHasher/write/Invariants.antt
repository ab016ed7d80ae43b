use Rattle.std.specs.Prelude.{◌≡◌, fold}
use Rattle.step_objects.specs.Hashing.{first_words, mixed}
use Rattle.step_objects.proofs.hasher.KeyHasherHasher.write.Given as goal

-- the words so far are taken in
abbrev pub invariant-loop-n : goal.invariant-loop-n
invariant-loop-n l = l.self.state ≡ fold mixed l.initial.self.state (first_words l.bytes l.n)
