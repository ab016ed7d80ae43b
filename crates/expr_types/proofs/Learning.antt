-- What is known after one list has grown.
use Rattle.std.proofs.Common.{◌≡◌, ◌++◌, ◌==◌, ℕ, Bool, false, List, [], ◌∷◌, unwrap_or, Option, Some, sym, ap, ◌∙◌}
use Rattle.std.specs.List.{list_any}
use Rattle.std.specs.Prelude.{if◌then◌else◌}
use Rattle.bt_core.specs.declared.place.Place.{Place}
use Rattle.fmt_text.specs.Deciding.{format_pieces}
use Rattle.fmt_text.specs.declared.piece.Piece.{Piece}
use Rattle.expr_types.specs.declared.known.Known.{Known}
use Rattle.expr_types.specs.declared.known.Printed.{Printed}
use Rattle.expr_types.specs.Known.{has_name, has_call, printed, add_name, add_number, add_call, with_mention}

pub name_learned : (k : Known) (name copied : List ℕ) (names : List (List ℕ)) → has_name name k.names ≡ false → copied ≡ name → names ≡ k.names ++ copied ∷ []
    → (let x : Known = record k { names = names } in x) ≡ add_name k name
name_learned k name copied names none same is =
    ap (λ (l : List (List ℕ)). (let x : Known = record k { names = l } in x)) (is ∙ ap (λ (n : List ℕ). k.names ++ n ∷ []) same)
    ∙ ap (λ (b : Bool). (if b then k else (let x : Known = record k { names = k.names ++ name ∷ [] } in x))) (sym none)

pub call_learned : (k : Known) (format text : List ℕ) (place : Place) (pieces : List Piece) (now : List Printed) → has_call format place k.printed ≡ false → format_pieces format ≡ Some pieces
    → text ≡ format → now ≡ k.printed ++ (let p : Printed = record { place = place; text = text; pieces = pieces } in p) ∷ [] → (let x : Known = record k { printed = now } in x) ≡ add_call k format place
call_learned k format text place pieces now none read same is =
    let p : Printed = record { place = place; text = text; pieces = pieces } in
    let e : p ≡ printed format place =
    ap (λ (t : List ℕ). (let q : Printed = record { place = place; text = t; pieces = pieces } in q)) same
    ∙ ap (λ (o : Option (List Piece)). (let q : Printed = record { place = place; text = format; pieces = unwrap_or o [] } in q)) (sym read) in
    ap (λ (l : List Printed). (let x : Known = record k { printed = l } in x)) (is ∙ ap (λ (q : Printed). k.printed ++ q ∷ []) e)
    ∙ ap (λ (b : Bool). (if b then k else (let x : Known = record k { printed = k.printed ++ printed format place ∷ [] } in x))) (sym none)

pub mention_learned : (k : Known) (name given copied : List ℕ) (names : List (List ℕ)) → false ≡ has_name given k.mentioned → given ≡ name → copied ≡ name → names ≡ k.mentioned ++ copied ∷ []
    → (let x : Known = record k { mentioned = names } in x) ≡ with_mention k name
mention_learned k name given copied names none same made is =
    ap (λ (l : List (List ℕ)). (let x : Known = record k { mentioned = l } in x)) (is ∙ ap (λ (n : List ℕ). k.mentioned ++ n ∷ []) made)
    ∙ ap (λ (b : Bool). (if b then k else (let x : Known = record k { mentioned = k.mentioned ++ name ∷ [] } in x))) (none ∙ ap (λ (n : List ℕ). has_name n k.mentioned) same)

pub number_learned : (k : Known) (number : ℕ) (given named : List ℕ) → false ≡ list_any (λ n. n == number) given → given ≡ k.named → named ≡ k.named ++ number ∷ []
    → (let x : Known = record k { named = named } in x) ≡ add_number k number
number_learned k number given named none same is =
    ap (λ (l : List ℕ). (let x : Known = record k { named = l } in x)) is
    ∙ ap (λ (b : Bool). (if b then k else (let x : Known = record k { named = k.named ++ number ∷ [] } in x))) (none ∙ ap (λ (l : List ℕ). list_any (λ n. n == number) l) same)
