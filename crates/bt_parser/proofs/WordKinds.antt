-- Which tokens are words, and which are numbers.
use Rattle.std.proofs.Common.{◌≡◌, Bool, true, false, List, ℕ, refl, ap, sym, ◌∙◌}
use Rattle.std.proofs.lemmas.Bool.{false≢true}
use Rattle.bt_lexer.specs.declared.token.TokenKind.{TokenKind}
use Rattle.bt_lexer.specs.declared.token.TokenKind.TheVariants as kinds
use Rattle.bt_grammar.specs.declared.class.Class.{Class}
use Rattle.bt_grammar.specs.declared.class.Class.TheVariants.{BeginWord, EndWord, TracepointPoint, IntervalPoint, NumberLiteral}
use Rattle.bt_grammar.specs.Attach.{attach_point}
use Rattle.bt_grammar.specs.Classes.{is, is_point, is_word}
use Rattle.bt_grammar.specs.Tokens.{class_of, origin}
use Rattle.bt_grammar.specs.Words.{mark_class}
use Rattle.bt_grammar.proofs.AllClasses.{is_same, is_refl}
use Rattle.bt_grammar.proofs.KindClasses.{is_mark, word_is_word, point_no_word, mark_is_mark, mark_no_word, number_kind}
use Rattle.bt_parser.specs.ClassLists.{is_number_kind}
use Rattle.bt_parser.specs.Mirror.{is_word_kind}

refuted : (b : Bool) → (b ≡ true → ⊥) → b ≡ false
refuted true h = absurd (h refl)
refuted false h = refl

pub word_kinds : (kind : TokenKind) → is_word (class_of kind) ≡ is_word_kind kind
word_kinds (kinds.Word word) = word_is_word word
word_kinds (kinds.Attach bytes) = refuted _ (point_no_word (attach_point bytes origin))
word_kinds (kinds.Map name) = refl
word_kinds (kinds.Var name) = refl
word_kinds (kinds.Number n) = refl
word_kinds (kinds.Text text) = refl
word_kinds (kinds.Mark mark) = refuted _ (mark_no_word (mark_class mark) (mark_is_mark mark))

-- a token of the class of numbers is a number, and a token of another class none
pub number_found : (kind : TokenKind) → is NumberLiteral (class_of kind) ≡ true → is_number_kind kind ≡ true
number_found kind h = ap is_number_kind (number_kind kind (sym (is_same NumberLiteral (class_of kind) h)))

pub no_number : (class : Class) (kind : TokenKind) → is NumberLiteral class ≡ false → is class (class_of kind) ≡ true → is_number_kind kind ≡ false
no_number class kind other h = refuted (is_number_kind kind) (λ n. false≢true (sym other ∙ is_refl NumberLiteral class (sym (is_same class (class_of kind) h) ∙ classed kind n)))
  where
    classed : (k : TokenKind) → is_number_kind k ≡ true → class_of k ≡ NumberLiteral
    classed (kinds.Number n) h = refl
    classed (kinds.Word x) h = absurd (false≢true h)
    classed (kinds.Attach x) h = absurd (false≢true h)
    classed (kinds.Map x) h = absurd (false≢true h)
    classed (kinds.Var x) h = absurd (false≢true h)
    classed (kinds.Text x) h = absurd (false≢true h)
    classed (kinds.Mark x) h = absurd (false≢true h)

-- ---- a token that begins a probe is one of two words, or an attach token

word_point : (c : Class) → is_word c ≡ true → is_point c ≡ true → (c ≡ BeginWord → ⊥) → (c ≡ EndWord → ⊥) → ⊥
word_point BeginWord w p b e = b refl
word_point EndWord w p b e = e refl
word_point TracepointPoint w p b e = false≢true w
word_point IntervalPoint w p b e = false≢true w
word_point _ w p b e = false≢true p

mark_point : (c : Class) → is_mark c ≡ true → is_point c ≡ true → ⊥
mark_point BeginWord m p = false≢true m
mark_point EndWord m p = false≢true m
mark_point TracepointPoint m p = false≢true m
mark_point IntervalPoint m p = false≢true m
mark_point _ m p = false≢true p

pub point_kinds : (class : Class) (kind : TokenKind) → class ≡ class_of kind → is_point class ≡ true → (class ≡ BeginWord → ⊥) → (class ≡ EndWord → ⊥)
    → ((bytes : List ℕ) → kind ≡ kinds.Attach bytes → ⊥) → ⊥
point_kinds class (kinds.Word word) e p b n a = word_point class (ap is_word e ∙ word_is_word word) p b n
point_kinds class (kinds.Attach bytes) e p b n a = a bytes refl
point_kinds class (kinds.Map name) e p b n a = false≢true (ap is_point (sym e) ∙ p)
point_kinds class (kinds.Var name) e p b n a = false≢true (ap is_point (sym e) ∙ p)
point_kinds class (kinds.Number x) e p b n a = false≢true (ap is_point (sym e) ∙ p)
point_kinds class (kinds.Text text) e p b n a = false≢true (ap is_point (sym e) ∙ p)
point_kinds class (kinds.Mark mark) e p b n a = mark_point class (ap is_mark e ∙ mark_is_mark mark) p
