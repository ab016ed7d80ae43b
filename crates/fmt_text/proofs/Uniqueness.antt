-- A text is cut into parts in one way.
use Rattle.std.proofs.Common.{◌≡◌, ◌≢◌, ◌+◌, ◌-◌, ◌<◌, ◌++◌, ◌⊎◌, inl, inr, ℕ, List, [], ◌∷◌, Some, None, length, refl, sym, ap, ◌∙◌, arith, append_assoc, MatchResult, Result, Ok, Err}
use Rattle.std.proofs.lemmas.List.{length-append}
use Rattle.fmt_text.specs.declared.piece.Piece.{Piece}
use Rattle.bt_core.specs.Want.{out_of_memory}
use Rattle.fmt_text.specs.declared.piece.FormatFault.{FormatFault}
use Rattle.fmt_text.specs.declared.piece.FormatFault.TheVariants.{BadAt, Memory}
use Rattle.fmt_text.specs.declared.conversion.Front.{Front}
use Rattle.fmt_text.specs.Formats.{Part, Byte, Percent, Converted, part_text, IsPart, AreParts, part_piece, parts_text, joined, pieces_of, BeginsWithNone, IsFormat, IsBadAt}
use Rattle.fmt_text.specs.Reading.{front_of, front_piece, going_on, IsFault}
use Rattle.fmt_text.proofs.Stages.{pair, none_some, some_first, some_second}
use Rattle.fmt_text.proofs.Fronts.{front_part, part_front}

part_some : (part : Part) (others : List ℕ) → [] ≢ part_text part ++ others
part_some (Byte b) others h = cc
part_some Percent others h = cc
part_some (Converted s) others h = cc

pub none_at_end : BeginsWithNone []
none_at_end part is others h = part_some part others h

pub none_read : (bytes : List ℕ) → front_of bytes ≡ None → BeginsWithNone bytes
none_read bytes none part is others h =
    let read = part_front part is others in
    none_some (sym none ∙ (ap front_of h ∙ read.read))

pub record SameCut (ps qs : List Part) (r s : List ℕ) : Type 0 where
  pub pieces : pieces_of ps ≡ pieces_of qs
  pub rest : r ≡ s

pub same_cut : (ps qs : List Part) (r s : List ℕ) → AreParts ps → AreParts qs → BeginsWithNone r → BeginsWithNone s → parts_text ps ++ r ≡ parts_text qs ++ s → SameCut ps qs r s
same_cut [] [] r s allowed allowed' none none' e = record { pieces = refl; rest = e }
same_cut [] (q ∷ qs) r s allowed allowed' none none' e =
    absurd (none q allowed'.0 (parts_text qs ++ s) (e ∙ append_assoc (part_text q) (parts_text qs) s))
same_cut (p ∷ ps) [] r s allowed allowed' none none' e =
    absurd (none' p allowed.0 (parts_text ps ++ r) (sym e ∙ append_assoc (part_text p) (parts_text ps) r))
same_cut (p ∷ ps) (q ∷ qs) r s allowed allowed' none none' e =
    let one = part_front p allowed.0 (parts_text ps ++ r) in
    let other = part_front q allowed'.0 (parts_text qs ++ s) in
    let same : part_text p ++ (parts_text ps ++ r) ≡ part_text q ++ (parts_text qs ++ s) =
    sym (append_assoc (part_text p) (parts_text ps) r) ∙ (e ∙ append_assoc (part_text q) (parts_text qs) s) in
    let both : Some (pair one.front (parts_text ps ++ r)) ≡ Some (pair other.front (parts_text qs ++ s)) = sym one.read ∙ (ap front_of same ∙ other.read) in
    let first = some_first one.front other.front _ _ both in
    let later = same_cut ps qs r s allowed.1 allowed'.1 none none' (some_second one.front other.front _ _ both) in
    record {
      pieces = ap (λ (x : List Piece). joined (part_piece p) x) later.pieces
          ∙ ap (λ (x : Piece). joined x (pieces_of qs)) (sym one.meant ∙ (ap front_piece first ∙ other.meant));
      rest = later.rest;
    }

no_rest : (bytes : List ℕ) → bytes ++ [] ≡ bytes
no_rest [] = refl
no_rest (b ∷ bs) = ap (λ (l : List ℕ). b ∷ l) (no_rest bs)

-- a format has one list of pieces
pub one_format : (text : List ℕ) (ps qs : List Piece) → IsFormat text ps → IsFormat text qs → ps ≡ qs
one_format text ps qs f g =
    let cut = same_cut f.parts g.parts [] [] f.allowed g.allowed none_at_end none_at_end
    (no_rest (parts_text f.parts) ∙ (sym f.spelled ∙ (g.spelled ∙ sym (no_rest (parts_text g.parts))))) in
    f.meant ∙ (cut.pieces ∙ sym g.meant)

-- a format has no bad place
pub no_bad_place : (text : List ℕ) (ps : List Piece) (offset : ℕ) → IsFormat text ps → IsBadAt text offset → ⊥
no_bad_place text ps offset f g =
    let cut = same_cut f.parts g.parts [] g.rest f.allowed g.allowed none_at_end g.bad
    (no_rest (parts_text f.parts) ∙ (sym f.spelled ∙ g.spelled)) in
    g.there (sym cut.rest)

-- a text has one bad place at most
pub one_bad_place : (text : List ℕ) (a b : ℕ) → IsBadAt text a → IsBadAt text b → a ≡ b
one_bad_place text a b f g =
    let cut = same_cut f.parts g.parts f.rest g.rest f.allowed g.allowed f.bad g.bad (sym f.spelled ∙ g.spelled) in
    let long : length (parts_text f.parts) + length f.rest ≡ length (parts_text g.parts) + length g.rest =
    sym (length-append (parts_text f.parts) f.rest) ∙ (ap length (sym f.spelled ∙ g.spelled) ∙ length-append (parts_text g.parts) g.rest) in
    let rests : length f.rest ≡ length g.rest = ap length cut.rest in
    let one = f.place in
    let other = g.place in
    omega (arith, long, rests, one, other)

-- how far a text is read: behind these parts, with these pieces so far
pub record Reached (text rest : List ℕ) (done : List Piece) (literal : List ℕ) : Type 0 where
  pub parts : List Part
  pub allowed : AreParts parts
  pub spelled : text ≡ parts_text parts ++ rest
  pub meant : (more : List Part) → going_on done literal (pieces_of more) ≡ pieces_of (parts ++ more)

pub reached_none : (text : List ℕ) (done : List Piece) (literal : List ℕ) → ((pieces : List Piece) → going_on done literal pieces ≡ pieces) → Reached text text done literal
reached_none text done literal h = record { parts = []; allowed = tt; spelled = refl; meant = λ more. h (pieces_of more) }

all_more : (ps : List Part) (p : Part) → AreParts ps → IsPart p → AreParts (ps ++ p ∷ [])
all_more [] p h is = (is, tt)
all_more (q ∷ qs) p h is = (h.0, all_more qs p h.1 is)

text_more : (ps : List Part) (p : Part) (rest : List ℕ) → parts_text (ps ++ p ∷ []) ++ rest ≡ parts_text ps ++ (part_text p ++ rest)
text_more [] p rest = ap (λ (l : List ℕ). l ++ rest) (no_rest (part_text p))
text_more (q ∷ qs) p rest = append_assoc (part_text q) (parts_text (qs ++ p ∷ [])) rest
    ∙ (ap (λ (l : List ℕ). part_text q ++ l) (text_more qs p rest) ∙ sym (append_assoc (part_text q) (parts_text qs) (part_text p ++ rest)))

one_before : (ps : List Part) (p : Part) (more : List Part) → (ps ++ p ∷ []) ++ more ≡ ps ++ (p ∷ more)
one_before ps p more = append_assoc ps (p ∷ []) more

pub reached_more : (text bytes rest : List ℕ) (done : List Piece) (literal : List ℕ) (done' : List Piece) (literal' : List ℕ) (front : Front)
    → Reached text bytes done literal → front_of bytes ≡ Some (pair front rest)
    → ((pieces : List Piece) → going_on done' literal' pieces ≡ going_on done literal (joined (front_piece front) pieces))
    → Reached text rest done' literal'
reached_more text bytes rest done literal done' literal' front so_far read step =
    let p = front_part bytes front rest read in
    record {
      parts = so_far.parts ++ p.part ∷ [];
      allowed = all_more so_far.parts p.part so_far.allowed p.allowed;
      spelled = so_far.spelled ∙ (ap (λ (l : List ℕ). parts_text so_far.parts ++ l) p.spelled ∙ sym (text_more so_far.parts p.part rest));
      meant = λ more. step (pieces_of more)
          ∙ (ap (λ (x : Piece). going_on done literal (joined x (pieces_of more))) p.meant
          ∙ (so_far.meant (p.part ∷ more) ∙ ap pieces_of (sym (one_before so_far.parts p.part more))));
    }

no_more : (ps : List Part) → ps ++ [] ≡ ps
no_more [] = refl
no_more (p ∷ ps) = ap (λ (l : List Part). p ∷ l) (no_more ps)

pub reached_end : (text rest : List ℕ) (done : List Piece) (literal : List ℕ) (pieces : List Piece) → Reached text rest done literal → rest ≡ [] → pieces ≡ going_on done literal [] → IsFormat text pieces
reached_end text rest done literal pieces r e h = record {
  parts = r.parts;
  allowed = r.allowed;
  spelled = r.spelled ∙ (ap (λ (l : List ℕ). parts_text r.parts ++ l) e ∙ no_rest (parts_text r.parts));
  meant = h ∙ (r.meant [] ∙ ap pieces_of (no_more r.parts));
}

pub reached_bad : (text rest : List ℕ) (done : List Piece) (literal : List ℕ) (offset : ℕ) → Reached text rest done literal → front_of rest ≡ None → rest ≢ [] → offset ≡ length text - length rest → IsBadAt text offset
reached_bad text rest done literal offset r none some long = record {
  parts = r.parts;
  rest = rest;
  allowed = r.allowed;
  spelled = r.spelled;
  bad = none_read rest none;
  there = some;
  place = (let e = ap length r.spelled ∙ length-append (parts_text r.parts) rest in omega (arith, e, long));
}

-- what was answered, said in four ways
pub only_this : (text : List ℕ) (r : Result (List Piece) FormatFault) (pieces : List Piece) → MatchResult r (IsFormat text) (IsFault text) → IsFormat text pieces → (r ≡ Ok pieces) ⊎ (r ≡ Err (Memory out_of_memory))
only_this text (Ok found) pieces h is = inl (ap (λ (x : List Piece). Ok x) (one_format text found pieces h is))
only_this text (Err (BadAt offset)) pieces h is = absurd (no_bad_place text pieces offset is h)
only_this text (Err (Memory _)) pieces h is = inr refl

pub this_place : (text : List ℕ) (r : Result (List Piece) FormatFault) (offset : ℕ) → MatchResult r (IsFormat text) (IsFault text) → IsBadAt text offset → (r ≡ Err (BadAt offset)) ⊎ (r ≡ Err (Memory out_of_memory))
this_place text (Ok found) offset h is = absurd (no_bad_place text found offset h is)
this_place text (Err (BadAt other)) offset h is = inl (ap (λ (x : ℕ). Err (BadAt x)) (one_bad_place text other offset h is))
this_place text (Err (Memory _)) offset h is = inr refl

part_long : (part : Part) → 0 < length (part_text part)
part_long (Byte b) = omega arith
part_long Percent = omega arith
part_long (Converted s) = omega arith

-- something is read at each front
pub front_shorter : (bytes rest : List ℕ) (front : Front) → front_of bytes ≡ Some (pair front rest) → length rest < length bytes
front_shorter bytes rest front h =
    let p = front_part bytes front rest h in
    let e = ap length p.spelled ∙ length-append (part_text p.part) rest in
    let some = part_long p.part in
    omega (arith, e, some)
