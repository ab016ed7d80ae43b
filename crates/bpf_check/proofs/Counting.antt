-- Bytes of values, one behind the other.
use Rattle.std.proofs.Common.{◌≡◌, ℕ, ◌+◌, ◌<◌, ◌≤◌, List, [], ◌∷◌, ◌++◌, length, drop, sym, ap, ◌∙◌, arith, Some, None, Bool, get_or}
use Rattle.std.specs.Prelude.{cond}
use Rattle.std.proofs.lemmas.Bool.{le-leb, lt-leb}
use Rattle.std.proofs.lemmas.List.{at_drop_more}
use Rattle.bt_core.specs.declared.limits.TheConstants.{FRAME_BYTES}
use Rattle.bt_core.specs.declared.map.Shape.{Shape}
use Rattle.bpf_encode.specs.Decoding.{IsCodeOf}
use Rattle.bpf_encode.proofs.CodeLemmas.{length-code_bytes}
use Rattle.bpf_insn.specs.declared.insn.Insn.{Insn}
use Rattle.fmt_text.specs.Arguments.{argument_shapes, piece_shapes}
use Rattle.fmt_text.specs.declared.piece.Piece.{Piece}
use Rattle.helper_abi.specs.Reading.{shape_bytes, bytes_of_shapes}
use Rattle.bpf_check.specs.Calls.{in_bounds}

bytes-append : (xs ys : List Shape) → bytes_of_shapes (xs ++ ys) ≡ bytes_of_shapes xs + bytes_of_shapes ys
bytes-append [] ys = omega arith
bytes-append (x ∷ xs) ys = let h = bytes-append xs ys in omega (arith, h)

pub shapes_more : (hs : List Shape) (i : ℕ) (h : Shape) → i < length hs → h ≡ get_or hs i h → bytes_of_shapes (drop i hs) ≡ shape_bytes h + bytes_of_shapes (drop (i + 1) hs)
shapes_more hs i h lt is = at_drop_more bytes_of_shapes hs i h lt ∙ ap (λ (x : Shape). shape_bytes x + bytes_of_shapes (drop (i + 1) hs)) (sym is)

pub pieces_more : (ps : List Piece) (i : ℕ) (p : Piece) → i < length ps → p ≡ get_or ps i p
    → bytes_of_shapes (argument_shapes (drop i ps)) ≡ bytes_of_shapes (piece_shapes p) + bytes_of_shapes (argument_shapes (drop (i + 1) ps))
pieces_more ps i p lt is =
    at_drop_more (λ (l : List Piece). bytes_of_shapes (argument_shapes l)) ps i p lt
    ∙ bytes-append (piece_shapes (get_or ps i p)) (argument_shapes (drop (i + 1) ps))
    ∙ ap (λ (x : Piece). bytes_of_shapes (piece_shapes x) + bytes_of_shapes (argument_shapes (drop (i + 1) ps))) (sym is)

pub in_bounds_small : (n : ℕ) → n ≤ 512 → in_bounds n ≡ Some n
in_bounds_small n le = ap (λ (b : Bool). cond b (Some n) None) (le-leb n FRAME_BYTES le)

pub in_bounds_large : (n : ℕ) → 512 < n → in_bounds n ≡ None
in_bounds_large n lt = ap (λ (b : Bool). cond b (Some n) None) (lt-leb n FRAME_BYTES lt)

-- code has an instruction for each eight bytes
pub slots_few : (code : List Insn) (bytes : List ℕ) → IsCodeOf code bytes → length bytes ≤ 32768 → length code ≤ 4096
slots_few code bytes is le = let l = length-code_bytes code in let e = ap (λ (l : List ℕ). length l) is.spelt in omega (arith, l, e, le)
