-- No body of the script is too large.
use Rattle.std.proofs.Common.{◌≡◌, Option, Some, None, ap, ◌∙◌}
use Rattle.std.specs.Prelude.{nat_lt, if◌then◌else◌}
use Rattle.std.specs.Option.{option_map}
use Rattle.bt_core.specs.declared.limits.TheConstants.{FRAME_BYTES, CODE_SLOTS}
use Rattle.bt_lower.specs.declared.need.Need.{Need}
use Rattle.script_programs.specs.declared.error.SizeFault.{SizeFault}
use Rattle.script_programs.specs.declared.error.SizeFault.TheVariants.{FrameTooLarge, CodeTooLarge}
use Rattle.script_programs.specs.Sizes.{first_size_fault, or_else}
use Rattle.typed_tree.specs.declared.script.Typed.{Typed}
use Rattle.rec_gen.proofs.Needs.{body_need}
use Rattle.rec_gen.proofs.Typed.{IsTyped}

abbrev fault_of : Need → Option SizeFault
fault_of n =
    if nat_lt FRAME_BYTES n.frame then Some (FrameTooLarge n.frame)
    else if nat_lt CODE_SLOTS n.code then Some (CodeTooLarge n.code)
    else None

pub no_size_fault : (typed : Typed) → IsTyped typed → first_size_fault 0 typed.bodies ≡ None
no_size_fault typed is =
    ap (first_size_fault 0) is.one ∙ ap (λ (n : Need). or_else (option_map (λ (f : SizeFault). (0, f)) (fault_of n)) None) (body_need is.body.tree is.is)
