-- What helpers ask of maps, and what is answered after it.
use Rattle.std.specs.Prelude.{ℕ, ◌-◌, List}
use Rattle.bt_core.specs.declared.map.MapId.{MapId}
use Rattle.bt_core.specs.declared.value.Value.{Value}
use Rattle.bt_core.specs.declared.value.Value.TheVariants.{Int}
use Rattle.bt_core.specs.Interaction.{Interaction, Ended, and_then}
use Rattle.bt_core.specs.KeyBytes.{value_bytes}
use Rattle.bpf_insn.specs.declared.address.TheConstants.{FRAME}
use Rattle.bpf_insn.specs.Regions.{Spaces, written}
use Rattle.bpf_insn.specs.Machine.{Answer, Gave}
use Rattle.map_ops.specs.Asking.{got, summed}

-- each helper sets R0 to 0; the frame is as it was, or a value was written at an address
abbrev pub nothing : Spaces → Answer
nothing s = Gave 0 s.frame

abbrev pub wrote : Spaces → ℕ → Value → Answer
wrote s to value = Gave 0 (written s.frame (to - FRAME) (value_bytes value))

-- what is asked, and then the frame as it was
abbrev pub frame_kept : {A : Type 0} → Spaces → Interaction A → Interaction Answer
frame_kept s t = and_then t (λ value. Ended (nothing s))

-- the value under a key is read and written at an address
abbrev pub got_into : Spaces → MapId → List Value → ℕ → Interaction Answer
got_into s m key to = and_then (got m key) (λ value. Ended (wrote s to value))

-- the number of an aggregation under a key is read and written at an address
abbrev pub summed_into : Spaces → MapId → List Value → ℕ → ℕ → Interaction Answer
summed_into s m key to actors = and_then (summed m key actors) (λ n. Ended (wrote s to (Int n)))
