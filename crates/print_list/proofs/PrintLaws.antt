-- Items stay where they lie.
use Rattle.std.proofs.Common.{◌≡◌, ◌⊎◌, inl, inr, ℕ, ◌-◌, ◌≤◌, List, [], ◌∷◌, ◌++◌, length, take, drop, refl, sym, ap, subst, ◌∙◌, append-nil, length-append, arith, Result, Ok, Err, OnErr}
use Rattle.std.specs.List.{AllByRecursion}
use Rattle.std.proofs.lemmas.List.{drop-append-le, take-append-le, length-drop, map-append, take_all}
use Rattle.std.proofs.Math.Seq.{drop-append_seam}
use Rattle.bt_core.specs.declared.item.Item.TheVariants.{Printf}
use Rattle.bt_core.specs.declared.value.Value.{Value}
use Rattle.bt_core.specs.KeyBytes.{FitsValue}
use Rattle.print_list.specs.declared.list.Print.{Print}
use Rattle.print_list.specs.Codes.{Extends, values_code, values_in}
use Rattle.print_list.specs.Prints.{print_in, prints_in, AreWithin}
use Rattle.print_list.proofs.CodeLaws.{values_back}

-- the bytes between two places are the same with more behind all
piece_stays : (bytes more : List ℕ) (s e : ℕ) → e ≤ length bytes → (s ≤ e) ⊎ (e ≤ s) → take (e - s) (drop s (bytes ++ more)) ≡ take (e - s) (drop s bytes)
piece_stays bytes more s e le (inl below) =
    ap (take (e - s)) (drop-append-le s bytes more (omega (arith, le, below)))
    ∙ take-append-le (e - s) (drop s bytes) more (omega (arith, le, below, length-drop s bytes))
piece_stays bytes more s e le (inr over) =
    let none : e - s ≡ 0 = omega (arith, over) in
    ap (λ (n : ℕ). take n (drop s (bytes ++ more))) none ∙ ap (λ (n : ℕ). take n (drop s bytes)) (sym none)

in_order : (s e : ℕ) → (s ≤ e) ⊎ (e ≤ s)
in_order s e = search arith

prints_stay : (bytes more : List ℕ) (ps : List Print) → AreWithin bytes ps → prints_in (bytes ++ more) ps ≡ prints_in bytes ps
prints_stay bytes more [] h = refl
prints_stay bytes more (p ∷ ps) h =
    λ i. Printf p.format (values_in p.count (piece_stays bytes more p.start p.end h.0 (in_order p.start p.end) i)) ∷ prints_stay bytes more ps h.1 i

within_more : (bytes more : List ℕ) (ps : List Print) → AreWithin bytes ps → AreWithin (bytes ++ more) ps
within_more bytes more [] h = tt
within_more bytes more (p ∷ ps) h = (omega (arith, h.0, length-append bytes more), within_more bytes more ps h.1)

-- bytes that grew hold the same items
pub items_stay : (bytes news : List ℕ) (ps : List Print) → Extends bytes news → AreWithin bytes ps → prints_in news ps ≡ prints_in bytes ps
items_stay bytes news ps x h = ap (λ (l : List ℕ). prints_in l ps) x.1 ∙ prints_stay bytes x.0 ps h

pub within_stays : (bytes news : List ℕ) (ps : List Print) → Extends bytes news → AreWithin bytes ps → AreWithin news ps
within_stays bytes news ps x h = subst (λ (l : List ℕ). AreWithin l ps) (sym x.1) (within_more bytes x.0 ps h)

within_snoc : (bytes : List ℕ) (ps : List Print) (p : Print) → AreWithin bytes ps → p.end ≤ length bytes → AreWithin bytes (ps ++ p ∷ [])
within_snoc bytes [] p h le = (le, tt)
within_snoc bytes (q ∷ ps) p h le = (h.0, within_snoc bytes ps p h.1 le)

-- an item that was put behind the bytes
module _ (bytes news : List ℕ) (ps qs : List Print) (p : Print) (values : List Value) where
  pub one_more_within : AreWithin bytes ps → news ≡ bytes ++ values_code values → qs ≡ ps ++ p ∷ [] → p.end ≡ length news → AreWithin news qs
  one_more_within h put pushed end =
      subst (AreWithin news) (sym pushed) (within_snoc news ps p (within_stays bytes news ps (values_code values, put) h) (omega (arith, end)))

  pub one_more_item : AreWithin bytes ps → news ≡ bytes ++ values_code values → AllByRecursion FitsValue values → qs ≡ ps ++ p ∷ []
      → p.start ≡ length bytes → p.end ≡ length news → p.count ≡ length values → prints_in news qs ≡ prints_in bytes ps ++ Printf p.format values ∷ []
  one_more_item h put fit pushed start end count =
      let lies : drop p.start news ≡ values_code values = ap (λ (n : ℕ). drop n news) start ∙ ap (drop (length bytes)) put ∙ drop-append_seam bytes (values_code values) in
      let long : p.end - p.start ≡ length (values_code values) = omega (arith, start, end, ap (λ (l : List ℕ). length l) put, length-append bytes (values_code values)) in
      let all : take (p.end - p.start) (drop p.start news) ≡ values_code values ++ [] =
      ap (take (p.end - p.start)) lies ∙ take_all (p.end - p.start) (values_code values) (omega (arith, long)) ∙ sym (append-nil (values_code values)) in
      let item : print_in news p ≡ Printf p.format values =
      ap (λ (l : List ℕ). Printf p.format (values_in p.count l)) all ∙ ap (λ (n : ℕ). Printf p.format (values_in n (values_code values ++ []))) count ∙ ap (Printf p.format) (values_back values [] fit) in
      ap (prints_in news) pushed ∙ map-append (print_in news) ps (p ∷ [])
      ∙ (λ i. items_stay bytes news ps (values_code values, put) h i ++ item i ∷ [])

pub on_err : {T E : Type 0} (r : Result T E) (P : Type 0) → P → OnErr r P
on_err (Ok x) P p = tt
on_err (Err e) P p = p
