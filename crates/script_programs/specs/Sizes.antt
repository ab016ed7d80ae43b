-- Scripts of which a body would have too large a frame, or too large a code.
use Rattle.std.specs.Prelude.{◌≡◌, ℕ, ◌+◌, ◌<◌, ◌^◌, nat_lt, if◌then◌else◌, List, [], ◌∷◌, Option, Some, None, slice_get}
use Rattle.std.specs.Option.{option_map}
use Rattle.bt_core.specs.declared.limits.TheConstants.{FRAME_BYTES, CODE_SLOTS}
use Rattle.bt_lower.specs.Needs.{tree_need, IsTooMuch}
use Rattle.typed_tree.specs.declared.body.TypedBody.{TypedBody}
use Rattle.script_programs.specs.declared.error.SizeFault.{SizeFault}
use Rattle.script_programs.specs.declared.error.SizeFault.TheVariants.{FrameTooLarge, CodeTooLarge}

-- so many bytes of frame are more than 512; or else so many slots of code more than 4,096
abbrev pub too_large : (frame code : ℕ) → Option SizeFault
too_large frame code =
    if nat_lt FRAME_BYTES frame then Some (FrameTooLarge frame) else if nat_lt CODE_SLOTS code then Some (CodeTooLarge code) else None

-- what is too large of a body
abbrev pub size_fault : TypedBody → Option SizeFault
size_fault body = too_large (tree_need body.tree).frame (tree_need body.tree).code

abbrev pub or_else : Option (ℕ × SizeFault) → Option (ℕ × SizeFault) → Option (ℕ × SizeFault)
or_else (Some fault) later = Some fault
or_else None later = later

-- the first fault of these bodies, with the body's place counted from this one on
abbrev pub first_size_fault : ℕ → List TypedBody → Option (ℕ × SizeFault)
first_size_fault place [] = None
first_size_fault place (b ∷ bs) = or_else (option_map (λ fault. (place, fault)) (size_fault b)) (first_size_fault (place + 1) bs)

-- the numbers of a fault cannot tell it of the body at a place: that has no number of 32 bits, or what the body needs none of 64
abbrev pub IsUntold : List TypedBody → ℕ → Type 0
IsUntold bodies place = (body : TypedBody) → slice_get bodies place ≡ Some body → place < 2 ^ 32 → IsTooMuch (tree_need body.tree)
