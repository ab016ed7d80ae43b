-- The words and marks that the grammar names: a list of texts with their classes, which is read both ways.
use Rattle.std.specs.Prelude.{ℕ, bytes_eq, List, [], ◌∷◌, map, if◌then◌else◌}
use Rattle.bt_grammar.specs.declared.class.Class.{Class}
use Rattle.bt_grammar.specs.declared.class.Class.TheVariants.{OtherWord, Foreign}
use Rattle.bt_grammar.specs.declared.words.TheConstants.{WORDS, MARKS}
use Rattle.bt_grammar.specs.Classes.{is}

abbrev pub words : List (List ℕ × Class)
words = map (λ row. (row.0.now, row.1)) WORDS

abbrev pub marks : List (List ℕ × Class)
marks = map (λ row. (row.0.now, row.1)) MARKS

-- the class of the first row with the text, or the other class where there is none
abbrev pub class_in : List (List ℕ × Class) → List ℕ → Class → Class
class_in [] text other = other
class_in (row ∷ rows) text other = if bytes_eq row.0 text then row.1 else class_in rows text other

-- the text of the first row of the class, or nothing where there is none
abbrev pub text_in : List (List ℕ × Class) → Class → List ℕ
text_in [] class = []
text_in (row ∷ rows) class = if is class row.1 then row.0 else text_in rows class

unfoldable pub word_class : List ℕ → Class
word_class word = class_in words word OtherWord

unfoldable pub mark_class : List ℕ → Class
mark_class mark = class_in marks mark Foreign

-- the word of a class, and the mark
unfoldable pub word_of : Class → List ℕ
word_of class = text_in words class

unfoldable pub mark_of : Class → List ℕ
mark_of class = text_in marks class
