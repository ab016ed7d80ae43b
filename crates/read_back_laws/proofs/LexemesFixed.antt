-- The kinds of the classes that one word or mark has, by the list of words and the list of marks.
use Rattle.std.proofs.Common.{◌≡◌, ℕ, suc, Bool, true, false, ◌&&◌, List, [], ◌∷◌, refl, sym, ap, ◌∙◌, arith}
use Rattle.std.specs.Prelude.{not, ◌||◌, bytes_eq, if◌then◌else◌}
use Rattle.std.specs.List.{Contains, list_all}
use Rattle.std.proofs.lemmas.Bool.{false≢true}
use Rattle.std.proofs.lemmas.Slice.Eq.{bytes_eq-Decides}
use Rattle.bt_lexer.specs.declared.token.TokenKind.{TokenKind}
use Rattle.bt_lexer.specs.declared.token.TokenKind.TheVariants as kinds
use Rattle.bt_core.specs.Bytes.{is_letter, is_word_byte}
use Rattle.bt_lexer.specs.Bytes.{Every}
use Rattle.bt_lexer.specs.Marks as lexer
use Rattle.bt_grammar.specs.declared.class.Class.{Class}
use Rattle.bt_grammar.specs.declared.class.Class.TheVariants.{UpdateMark, OtherWord, TracepointPoint, IntervalPoint, MapName, VarName, NumberLiteral, TextLiteral, Foreign}
use Rattle.bt_grammar.specs.Classes.{is, is_word, compares}
use Rattle.bt_grammar.specs.Tokens.{class_of}
use Rattle.bt_grammar.specs.Words.{words, marks, text_in, word_class, mark_class}
use Rattle.bt_grammar.proofs.AllClasses.{and_first, and_second, every_is, is_same}
use Rattle.read_back_laws.proofs.Lexemes.{Valid}

-- the kind of the word or mark
abbrev pub kind_of : Class → TokenKind
kind_of c = if is_word c then kinds.Word (text_in words c) else kinds.Mark (text_in marks c)

-- whether the class has one word or mark
abbrev pub is_fixed : Class → Bool
is_fixed OtherWord = false
is_fixed TracepointPoint = false
is_fixed IntervalPoint = false
is_fixed MapName = false
is_fixed VarName = false
is_fixed NumberLiteral = false
is_fixed TextLiteral = false
is_fixed Foreign = false
is_fixed (UpdateMark op) = not (compares op)
is_fixed _ = true

-- ---- a test of each class

unless : (a b : Bool) → (not a || b) ≡ true → a ≡ true → b ≡ true
unless true b h k = h
unless false b h k = absurd (false≢true k)

pub fixed_class : (c : Class) → is_fixed c ≡ true → class_of (kind_of c) ≡ c
unfolding word_class mark_class
fixed_class c h = sym (is_same (class_of (kind_of c)) c (unless (is_fixed c) (is (class_of (kind_of c)) c) (every_is (λ d. not (is_fixed d) || is (class_of (kind_of d)) d) refl c) h))

-- ---- a word or mark can be written

abbrev has : List (List ℕ) → List ℕ → Bool
has [] mark = false
has (x ∷ xs) mark = bytes_eq x mark || has xs mark

abbrev spelled : TokenKind → Bool
spelled (kinds.Word (b ∷ bs)) = is_letter b && list_all is_word_byte bs
spelled (kinds.Mark mark) = has lexer.marks mark
spelled _ = false

every_word : (bs : List ℕ) → list_all is_word_byte bs ≡ true → Every is_word_byte bs
every_word [] h = tt
every_word (b ∷ bs) h = (and_first (is_word_byte b) (list_all is_word_byte bs) h, every_word bs (and_second (is_word_byte b) (list_all is_word_byte bs) h))

contained : (xs : List (List ℕ)) (mark : List ℕ) → has xs mark ≡ true → Contains xs mark
contained [] mark h = absurd (false≢true h)
contained (x ∷ xs) mark h = by (bytes_eq x mark) refl (contained xs mark)
  where
    by : (b : Bool) → bytes_eq x mark ≡ b → (has xs mark ≡ true → Contains xs mark) → Contains (x ∷ xs) mark
    by true e rest = (0, omega arith, (bytes_eq-Decides x mark).0 e)
    by false e rest = let k = rest (sym (ap (λ b. b || has xs mark) e) ∙ h) in (suc k.0, omega (arith, k.1), k.2)

spelled_valid : (k : TokenKind) → spelled k ≡ true → Valid k
spelled_valid (kinds.Word []) h = absurd (false≢true h)
spelled_valid (kinds.Word (b ∷ bs)) h = ((refl, (and_first (is_letter b) (list_all is_word_byte bs) h, every_word bs (and_second (is_letter b) (list_all is_word_byte bs) h))), tt)
spelled_valid (kinds.Mark mark) h = ((refl, contained lexer.marks mark h), tt)
spelled_valid (kinds.Attach x) h = absurd (false≢true h)
spelled_valid (kinds.Map x) h = absurd (false≢true h)
spelled_valid (kinds.Var x) h = absurd (false≢true h)
spelled_valid (kinds.Number x) h = absurd (false≢true h)
spelled_valid (kinds.Text x) h = absurd (false≢true h)

pub fixed_valid : (c : Class) → is_fixed c ≡ true → Valid (kind_of c)
fixed_valid c h = spelled_valid (kind_of c) (unless (is_fixed c) (spelled (kind_of c)) (every_is (λ d. not (is_fixed d) || spelled (kind_of d)) refl c) h)
