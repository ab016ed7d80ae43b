use Rattle.std.specs.Prelude.{◌≡◌}
use Rattle.byteorder.specs.Endian.{big_number}
use Rattle.step_objects.proofs.hasher.rest_word.Given as goal

-- the bytes so far are in the word
abbrev pub invariant-loop-n : goal.invariant-loop-n
invariant-loop-n l = l.word ≡ big_number l.n l.bytes
