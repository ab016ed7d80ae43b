-- Bytes that are accepted spell code that ends.
use Rattle.std.proofs.Common.{◌≡◌, ℕ, ◌*◌, ◌<◌, ◌≤◌, List, length, sym, ap, ◌∙◌, subst, Ok}
use Rattle.std.specs.Prelude.{◌^◌}
use Rattle.bpf_insn.specs.declared.insn.Insn.{Insn}
use Rattle.bpf_encode.specs.Decoding.{IsCodeOf}
use Rattle.typed_tree.specs.declared.script.Typed.{Typed}
use Rattle.helper_abi.specs.Helpers.{helpers}
use Rattle.helper_abi.specs.Running.{script_run}
use Rattle.helper_abi.specs.Served.{desk_of}
use Rattle.bpf_check.specs.Sheet.{sheet_of}
use Rattle.bpf_check.specs.Closed.{IsClosedCode}
use Rattle.bpf_check.specs.Answers.{IsAnswer}
use Rattle.bpf_check.proofs.Answering.{same_code}
use Rattle.bt_core.specs.Same.{Yields}
use Rattle.check_laws.specs.Safe.{CanReply, EndsWell}
use Rattle.check_laws.proofs.Serving.{script_serves}
use Rattle.check_laws.proofs.Whole.{safe_code}

pub accepted_ends : (typed : Typed) (bytes : List ℕ) (code : List Insn) (least most actor actors : ℕ) (context payload : List ℕ)
    → IsAnswer (sheet_of typed least) bytes (Ok most) → IsCodeOf code bytes → least ≤ length payload → length payload < 2 ^ 32
    → Yields (CanReply typed.maps) EndsWell (script_run (desk_of typed actor actors) code context payload most)
accepted_ends typed bytes code least most actor actors context payload accepted is long short =
    subst (λ (n : ℕ). Yields (CanReply typed.maps) EndsWell (script_run (desk_of typed actor actors) code context payload n))
    (sym (accepted.is_most ∙ ap (λ (l : List Insn). 4097 * length l) same))
    (safe_code (CanReply typed.maps) (sheet_of typed least) (helpers (desk_of typed actor actors)) code closed.0 context payload
    (script_serves typed least actor actors) closed.1 long short)
  where
    same : accepted.code ≡ code
    same = same_code accepted.code code bytes accepted.is_code_of is

    closed : IsClosedCode (sheet_of typed least) code
    closed = subst (IsClosedCode (sheet_of typed least)) same accepted.closed
