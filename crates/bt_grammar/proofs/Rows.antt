-- One step through the rows of texts with their classes.
use Rattle.std.proofs.Common.{◌≡◌, ℕ, ◌+◌, ◌<◌, Bool, true, false, List, length, get_or, drop, ap, ◌∙◌}
use Rattle.std.specs.Prelude.{map, if◌then◌else◌}
use Rattle.std.proofs.lemmas.List.{drop_more}
use Rattle.bt_grammar.specs.declared.class.Class.{Class}
use Rattle.bt_grammar.specs.Classes.{is}
use Rattle.bt_grammar.specs.Words.{text_in}

module _ {X : Type 0} (row_of : X → List ℕ × Class) (rows : List X) (i : ℕ) (d : X) (class : Class) (h : i < length rows) where
  by_row : (b : Bool) → is class (row_of (get_or rows i d)).1 ≡ b
      → text_in (map row_of (drop i rows)) class ≡ (if b then (row_of (get_or rows i d)).0 else text_in (map row_of (drop (i + 1) rows)) class)
  by_row b e = ap (λ (z : List X). text_in (map row_of z) class) (drop_more rows i d h)
      ∙ ap (λ (t : Bool). if t then (row_of (get_or rows i d)).0 else text_in (map row_of (drop (i + 1) rows)) class) e

  -- a row of the class has the text
  pub text_here : is class (row_of (get_or rows i d)).1 ≡ true → text_in (map row_of (drop i rows)) class ≡ (row_of (get_or rows i d)).0
  text_here e = by_row true e

  -- another one is passed over
  pub text_further : is class (row_of (get_or rows i d)).1 ≡ false → text_in (map row_of (drop i rows)) class ≡ text_in (map row_of (drop (i + 1) rows)) class
  text_further e = by_row false e
