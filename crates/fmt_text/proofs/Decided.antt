-- The pieces that are read from the front are those of the format.
use Rattle.std.proofs.Common.{◌≡◌, ◌≤◌, ◌++◌, ℕ, zero, suc, List, [], ◌∷◌, length, Option, Some, None, refl, ap, ◌∙◌, arith}
use Rattle.std.specs.Option.{option_map}
use Rattle.fmt_text.specs.declared.piece.Piece.{Piece}
use Rattle.fmt_text.specs.declared.conversion.Front.{Front}
use Rattle.fmt_text.specs.Deciding.{read_on, pieces_within, format_pieces}
use Rattle.fmt_text.specs.Formats.{Part, part_text, AreParts, parts_text, part_piece, joined, pieces_of, IsFormat, IsBadAt}
use Rattle.fmt_text.specs.Reading.{front_of, front_piece}
use Rattle.fmt_text.proofs.Stages.{pair, none_some}
use Rattle.fmt_text.proofs.Fronts.{front_part, part_front}
use Rattle.fmt_text.proofs.Uniqueness.{front_shorter, no_bad_place}

-- one front, and what is read behind it
one_read : (n : ℕ) (bytes rest : List ℕ) (front : Front) (pieces : List Piece) → length bytes ≤ n → front_of bytes ≡ Some (pair front rest)
    → ((m : ℕ) → length rest ≤ m → pieces_within m rest ≡ Some pieces) → pieces_within n bytes ≡ Some (joined (front_piece front) pieces)
one_read n [] rest front pieces short read others = absurd (none_some read)
one_read zero (b ∷ bs) rest front pieces short read others = absurd (omega arith)
one_read (suc m) (b ∷ bs) rest front pieces short read others =
    let shorter = front_shorter (b ∷ bs) rest front read in
    ap (read_on (pieces_within m)) read ∙ ap (option_map (joined (front_piece front))) (others m (omega (arith, shorter, short)))

parts_read : (parts : List Part) → AreParts parts → (n : ℕ) → length (parts_text parts) ≤ n → pieces_within n (parts_text parts) ≡ Some (pieces_of parts)
parts_read [] allowed n short = refl
parts_read (p ∷ ps) allowed n short =
    let first = part_front p allowed.0 (parts_text ps) in
    one_read n (parts_text (p ∷ ps)) (parts_text ps) first.front (pieces_of ps) short first.read (parts_read ps allowed.1)
    ∙ ap (λ (x : Piece). Some (joined x (pieces_of ps))) first.meant

-- what was read behind a front, where something was
front_format : (bytes : List ℕ) (front : Front) (rest : List ℕ) (o : Option (List Piece)) (pieces : List Piece) → front_of bytes ≡ Some (pair front rest)
    → ((ps : List Piece) → o ≡ Some ps → IsFormat rest ps) → option_map (joined (front_piece front)) o ≡ Some pieces → IsFormat bytes pieces
front_format bytes front rest None pieces read others h = absurd (none_some h)
front_format bytes front rest (Some ps) pieces read others h =
    let p = front_part bytes front rest read in
    let f = others ps refl in
    record {
      parts = p.part ∷ f.parts;
      allowed = (p.allowed, f.allowed);
      spelled = p.spelled ∙ ap (λ (l : List ℕ). part_text p.part ++ l) f.spelled;
      meant = (let a : pieces ≡ joined (front_piece front) ps = cc in
          a ∙ (ap (λ (x : Piece). joined x ps) p.meant ∙ ap (λ (l : List Piece). joined (part_piece p.part) l) f.meant));
    }

within_format : (n : ℕ) (bytes : List ℕ) (pieces : List Piece) → pieces_within n bytes ≡ Some pieces → IsFormat bytes pieces
within_format n [] pieces h = record { parts = []; allowed = tt; spelled = refl; meant = cc }
within_format zero (b ∷ bs) pieces h = absurd (none_some h)
within_format (suc n) (b ∷ bs) pieces h =
    let by : (o : Option (Front × List ℕ)) → front_of (b ∷ bs) ≡ o → read_on (pieces_within n) o ≡ Some pieces → IsFormat (b ∷ bs) pieces =
    λ o. elim o as (λ o. front_of (b ∷ bs) ≡ o → read_on (pieces_within n) o ≡ Some pieces → IsFormat (b ∷ bs) pieces) [
      | None ↦ λ e f. absurd (none_some f)
      | Some front ↦ λ e f. front_format (b ∷ bs) front.0 front.1 (pieces_within n front.1) pieces e (within_format n front.1) f
    ] in
    by (front_of (b ∷ bs)) refl h

pub format_read : (text : List ℕ) (pieces : List Piece) → IsFormat text pieces → format_pieces text ≡ Some pieces
unfolding format_pieces
format_read text pieces f =
    let read = parts_read f.parts f.allowed in
    rw (f.spelled, f.meant) (read (length (parts_text f.parts)) (omega arith))

pub read_is_format : (text : List ℕ) (pieces : List Piece) → format_pieces text ≡ Some pieces → IsFormat text pieces
unfolding format_pieces
read_is_format text pieces h = within_format (length text) text pieces h

nothing_read : (text : List ℕ) (offset : ℕ) (o : Option (List Piece)) → format_pieces text ≡ o → IsBadAt text offset → o ≡ None
nothing_read text offset None e bad = refl
nothing_read text offset (Some pieces) e bad = absurd (no_bad_place text pieces offset (read_is_format text pieces e) bad)

pub bad_unread : (text : List ℕ) (offset : ℕ) → IsBadAt text offset → format_pieces text ≡ None
bad_unread text offset bad = nothing_read text offset (format_pieces text) refl bad
