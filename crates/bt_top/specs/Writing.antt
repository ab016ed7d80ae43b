-- How what an order comes to was written.
use Rattle.std.specs.Prelude.{◌≡◌, ℕ, ◌⊎◌, List, Option, Some, None}
use Rattle.std.specs.Io.KnownBytes.{Appends, Keeps}
use Rattle.bt_io.specs.Taken.{AppendsPart}
use Rattle.top_refusals.specs.declared.refusal.Denial.{Denial}
use Rattle.top_refusals.specs.declared.refusal.Refusal.{Refusal}
use Rattle.top_refusals.specs.declared.refusal.Refusal.TheVariants.{WriteFault, Denied}
use Rattle.top_refusals.specs.Lines.{SinkUse, SinkFailed}

-- the bytes were written, or a part of them where the count of faults rose
abbrev pub WroteBytes : SinkUse → Option Refusal → List ℕ → Type 0
WroteBytes out refusal bytes =
    ((refusal ≡ None) × Appends out.taken out.taken_after bytes)
    ⊎ ((refusal ≡ Some WriteFault) × SinkFailed out × AppendsPart out.taken out.taken_after bytes)

-- so it is where nothing that was checked is refused; else that is told, and nothing was written
abbrev pub Wrote : SinkUse → Option Denial → Option Refusal → List ℕ → Type 0
Wrote out None refusal bytes = WroteBytes out refusal bytes
Wrote out (Some why) refusal bytes = (refusal ≡ Some (Denied why)) × Keeps out.taken out.taken_after
