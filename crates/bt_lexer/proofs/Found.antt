-- What is found at a place is the longest piece that begins there, or the fault that does.
use Rattle.std.proofs.Common.{◌≡◌, ℕ, List, ◌∷◌, subst, sym, refl}
use Rattle.bt_lexer.specs.Scan.{piece_at, map_piece, var_piece, string_piece, slash_piece}
use Rattle.bt_lexer.proofs.Classes.{Class, Blank, Letter, Digit, At, Dollar, Quote, Slash, Other, class_of, Facts, facts, by_class, piece_by_class}
use Rattle.bt_lexer.proofs.Pieces.{Answers}
use Rattle.bt_lexer.proofs.WordPieces.{word_sound, map_sound, var_sound}
use Rattle.bt_lexer.proofs.NumberPieces.{number_sound}
use Rattle.bt_lexer.proofs.StringPieces.{string_sound}
use Rattle.bt_lexer.proofs.SeparatorPieces.{blank_sound}
use Rattle.bt_lexer.proofs.MarkPieces.{slash_sound, other_sound}

class_sound : (offset b : ℕ) (bs : List ℕ) (c : Class) → class_of b ≡ c → Facts b c → Answers offset (b ∷ bs) (by_class offset b bs c)
class_sound offset b bs Blank q h = blank_sound offset b bs h
class_sound offset b bs Letter q h = word_sound offset (b ∷ bs) h
class_sound offset b bs Digit q h = number_sound offset (b ∷ bs) h
class_sound offset b bs At q h = subst (λ (x : ℕ). Answers offset (x ∷ bs) (map_piece (x ∷ bs))) (sym h) (map_sound offset bs)
class_sound offset b bs Dollar q h = subst (λ (x : ℕ). Answers offset (x ∷ bs) (var_piece offset (x ∷ bs))) (sym h) (var_sound offset bs)
class_sound offset b bs Quote q h = subst (λ (x : ℕ). Answers offset (x ∷ bs) (string_piece offset bs)) (sym h) (string_sound offset bs)
class_sound offset b bs Slash q h = subst (λ (x : ℕ). Answers offset (x ∷ bs) (slash_piece offset bs)) (sym h) (slash_sound offset bs)
class_sound offset b bs Other q h = other_sound offset b bs q

pub sound : (offset b : ℕ) (bs : List ℕ) → Answers offset (b ∷ bs) (piece_at offset (b ∷ bs))
sound offset b bs = rw (piece_by_class offset b bs) (class_sound offset b bs (class_of b) refl (facts b))
