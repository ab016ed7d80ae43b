-- Marks: operators and punctuation.
use Rattle.std.specs.Prelude.{ℕ, List, [], ◌∷◌, Contains, codes}

abbrev pub marks : List (List ℕ)
marks =
    codes "<<=" ∷ codes ">>=" ∷ codes "++" ∷ codes "--" ∷ codes "+=" ∷ codes "-=" ∷ codes "*=" ∷ codes "/=" ∷ codes "%=" ∷ codes "&=" ∷ codes "|=" ∷ codes "^="
    ∷ codes "<<" ∷ codes ">>" ∷ codes "<=" ∷ codes ">=" ∷ codes "==" ∷ codes "!=" ∷ codes "&&" ∷ codes "||" ∷ codes "->"
    ∷ codes "{" ∷ codes "}" ∷ codes "(" ∷ codes ")" ∷ codes "[" ∷ codes "]" ∷ codes "," ∷ codes ";" ∷ codes "." ∷ codes "=" ∷ codes "+" ∷ codes "-" ∷ codes "*" ∷ codes "/" ∷ codes "%"
    ∷ codes "&" ∷ codes "|" ∷ codes "^" ∷ codes "~" ∷ codes "!" ∷ codes "<" ∷ codes ">" ∷ codes "?" ∷ codes ":" ∷ []

abbrev pub IsMark : List ℕ → Type 0
IsMark bs = Contains marks bs
