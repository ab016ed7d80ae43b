-- Fields and layouts are equal where what they say is.
use Rattle.std.proofs.Common.{◌≡◌, ℕ, ◌+◌, ◌≤◌, Bool, true, List, [], ◌∷◌, map, refl, ap, sym, subst, ◌∙◌}
use Rattle.std.specs.Prelude.{IsTrue}
use mathlib.Core.Bool.{Bool-set}
use Rattle.std.proofs.Props.{props}
use Rattle.bt_core.specs.declared.limits.TheConstants.{LAYOUT_END}
use Rattle.event_layout.specs.declared.field.Field.{Field}
use Rattle.event_layout.specs.declared.layout.Layout.{Layout}
use Rattle.event_layout.specs.FieldLines.{Description, description}
use Rattle.event_layout.specs.Kinds.{fits_kind}
use Rattle.event_layout.specs.Sizes.{greatest_end}

test_prop : (b : Bool) → IsProp (b ≡ true)
test_prop b = Bool-set b true

number_prop : (m n : ℕ) → IsProp (m ≡ n)
number_prop m n = hlevel props

order_prop : (m n : ℕ) → IsProp (m ≤ n)
order_prop m n = hlevel props

abbrev field_of : (d : Description) → IsTrue (fits_kind d.kind d.size) → d.offset + d.size ≤ LAYOUT_END → Field
field_of d p q = record { name = d.name; offset = d.offset; size = d.size; signed = d.signed; kind = d.kind; sized = p; inside = q }

pub same_field : (f g : Field) → description f ≡ description g → f ≡ g
same_field f g e =
    let P : Description → Type 0 = λ d. (p : IsTrue (fits_kind d.kind d.size)) (q : d.offset + d.size ≤ LAYOUT_END) → field_of (description f) f.sized f.inside ≡ field_of d p q in
    subst P e (λ p q.
    ap (λ (s : IsTrue (fits_kind f.kind f.size)). field_of (description f) s f.inside) (test_prop (fits_kind f.kind f.size) f.sized p)
    ∙ ap (λ (s : f.offset + f.size ≤ LAYOUT_END). field_of (description f) p s) (order_prop (f.offset + f.size) LAYOUT_END f.inside q)) g.sized g.inside

abbrev first_of_two : List Description → Description → Description
first_of_two [] d = d
first_of_two (e ∷ es) d = e

abbrev others_of : List Description → List Description
others_of [] = []
others_of (e ∷ es) = es

pub same_fields : (fs gs : List Field) → map description fs ≡ map description gs → fs ≡ gs
same_fields [] [] h = refl
same_fields [] (g ∷ gs) h = absurd cc
same_fields (f ∷ fs) [] h = absurd cc
same_fields (f ∷ fs) (g ∷ gs) h =
    let first : f ≡ g = same_field f g (ap (λ es. first_of_two es (description f)) h) in
    let others : fs ≡ gs = same_fields fs gs (ap others_of h) in
    rw (first, others) refl

-- a layout without the fact that it keeps
record Parts : Type 0 where
  name : List ℕ
  id : ℕ
  fields : List Field
  size : ℕ

abbrev parts_of : Layout → Parts
parts_of l = record { name = l.name; id = l.id; fields = l.fields; size = l.size }

abbrev layout_of : (p : Parts) → p.size ≡ greatest_end p.fields → Layout
layout_of p c = record { name = p.name; id = p.id; fields = p.fields; size = p.size; covers = c }

same_parts : (a b : Layout) → parts_of a ≡ parts_of b → a ≡ b
same_parts a b e =
    let P : Parts → Type 0 = λ p. (c : p.size ≡ greatest_end p.fields) → layout_of (parts_of a) a.covers ≡ layout_of p c in
    subst P e (λ c. ap (layout_of (parts_of a)) (number_prop a.size (greatest_end a.fields) a.covers c)) b.covers

pub same_layout : (a b : Layout) → a.name ≡ b.name → a.id ≡ b.id → map description a.fields ≡ map description b.fields → a ≡ b
same_layout a b names ids fields =
    let same : a.fields ≡ b.fields = same_fields a.fields b.fields fields in
    let sizes : a.size ≡ b.size = a.covers ∙ ap greatest_end same ∙ sym b.covers in
    let named : List ℕ → Parts = λ n. record { name = n; id = a.id; fields = a.fields; size = a.size } in
    let numbered : ℕ → Parts = λ n. record { name = b.name; id = n; fields = a.fields; size = a.size } in
    let filled : List Field → Parts = λ fs. record { name = b.name; id = b.id; fields = fs; size = a.size } in
    let sized : ℕ → Parts = λ n. record { name = b.name; id = b.id; fields = b.fields; size = n } in
    same_parts a b (ap named names ∙ ap numbered ids ∙ ap filled same ∙ ap sized sizes)
