-- Pieces that are written one after another.
use Rattle.std.proofs.Common.{◌≡◌, ℕ, zero, suc, ◌<◌, ◌≤◌, List, [], ◌∷◌, ◌++◌, refl, sym, ap, subst, ◌∙◌, arith, append_assoc, length-append, take}
use Rattle.std.proofs.Common.{drop, length, get_or, codes}
use Rattle.std.specs.Prelude.{Option, Result, Ok, Err, OnErr, map, Some, None}
use Rattle.std.specs.Io.KnownBytes.{Appends, Keeps}
use Rattle.std.specs.List.{flat_map}
use Rattle.std.proofs.lemmas.List.{take-append-le}
use Rattle.bt_io.specs.Taken.{AppendsPart}
use Rattle.bt_io.proofs.Appending.{AppendsPart-after}
use Rattle.top_refusals.specs.declared.line.Piece.{Piece as Written}
use Rattle.top_refusals.specs.Lines.{piece_bytes, piece_by, line_bytes}

-- the bytes of a piece, and of pieces without the newline
abbrev pub bytes_of : Written → List ℕ
bytes_of piece = piece_bytes (piece_by piece)

abbrev pub all_bytes : List Written → List ℕ
all_bytes pieces = flat_map piece_bytes (map piece_by pieces)

-- a part of a front is a part of the whole
AppendsPart-front : (a b : Option (List ℕ)) (xs ys : List ℕ) → AppendsPart a b xs → AppendsPart a b (xs ++ ys)
AppendsPart-front a b xs ys part = record {
  count = part.count;
  within = omega (arith, length-append xs ys, part.within);
  appends = subst (λ l. Appends a b l) (sym (take-append-le part.count xs ys part.within)) part.appends;
}

after : (a b c : Option (List ℕ)) (xs ys : List ℕ) → Appends a b xs → AppendsPart b c ys → AppendsPart a c (xs ++ ys)
after a b c xs ys first second = AppendsPart-after {E = Unit {0}} a b c xs ys (Err tt) first second

-- a line is what stands before a piece, the piece, and the rest
split : (pieces : List Written) (i : ℕ) (piece d : Written) → i < length pieces → piece ≡ get_or pieces i d
    → line_bytes (map piece_by pieces) ≡ all_bytes (take i pieces) ++ (bytes_of piece ++ line_bytes (map piece_by (drop (suc i) pieces)))
split [] i piece d lt is = absurd (omega arith)
split (q ∷ pieces) zero piece d lt is =
    append_assoc (bytes_of q) (all_bytes pieces) (codes "\n") ∙ ap (λ (p : Written). bytes_of p ++ line_bytes (map piece_by pieces)) (sym is)
split (q ∷ pieces) (suc i) piece d lt is =
    append_assoc (bytes_of q) (all_bytes pieces) (codes "\n")
    ∙ ap (λ (l : List ℕ). bytes_of q ++ l) (split pieces i piece d (omega arith) is)
    ∙ sym (append_assoc (bytes_of q) (all_bytes (take i pieces)) (bytes_of piece ++ line_bytes (map piece_by (drop (suc i) pieces))))

pub on_err : {T E : Type 0} (r : Result T E) (P : Type 0) → P → OnErr r P
on_err (Ok x) P p = tt
on_err (Err e) P p = p

pub on_err-map : {T E : Type 0} (r : Result T E) (P Q : Type 0) → (P → Q) → OnErr r P → OnErr r Q
on_err-map (Ok x) P Q f p = tt
on_err-map (Err e) P Q f p = f p

pub stops : (a b c : Option (List ℕ)) (pieces : List Written) (i : ℕ) (d : Written) → i < length pieces
    → Appends a b (all_bytes (take i pieces)) → AppendsPart b c (bytes_of (get_or pieces i d)) → AppendsPart a c (line_bytes (map piece_by pieces))
stops a b c pieces i d lt before part =
    subst (λ l. AppendsPart a c l) (sym (split pieces i (get_or pieces i d) d lt refl))
    (after a b c _ _ before (AppendsPart-front b c (bytes_of (get_or pieces i d)) _ part))

taken_all : (pieces : List Written) (i : ℕ) → length pieces ≤ i → take i pieces ≡ pieces
taken_all [] zero past = refl
taken_all [] (suc i) past = refl
taken_all (q ∷ pieces) zero past = absurd (omega arith)
taken_all (q ∷ pieces) (suc i) past = ap (λ (l : List Written). q ∷ l) (taken_all pieces i (omega arith))

pub ends_early : (a b c : Option (List ℕ)) (pieces : List Written) (i : ℕ) → length pieces ≤ i
    → Appends a b (all_bytes (take i pieces)) → AppendsPart b c (codes "\n") → AppendsPart a c (line_bytes (map piece_by pieces))
ends_early a b c pieces i past before part =
    after a b c (all_bytes pieces) (codes "\n") (subst (λ (l : List Written). Appends a b (all_bytes l)) (taken_all pieces i past) before) part

-- where nothing is written the bytes stay
pub kept : (told : Option (List ℕ)) → Keeps told told
kept None = tt
kept (Some bytes) = refl
