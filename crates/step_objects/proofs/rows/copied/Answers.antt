use Rattle.std.proofs.Common.{◌≡◌, ◌<◌, ◌+◌, ℕ, List, [], ◌∷◌, ◌++◌, map, take, length, get_or, add-one, sym, ap, ◌∙◌, arith}
use Rattle.std.proofs.Math.Seq.{take-suc}
use Rattle.std.proofs.lemmas.List.{map-append, take_all, length-map, length-take}
use Rattle.std.specs.Map.Iter.{deref_pair}
use Rattle.step_objects.proofs.rows.copied.Goals as goal

one-more : {A B : Type 0} (f : A → B) (xs : List A) (i : ℕ) (x : A) → i < length xs → x ≡ get_or xs i x → map f (take i xs) ++ f x ∷ [] ≡ map f (take (i + 1) xs)
one-more f xs i x low is =
    sym (ap (λ n. map f (take n xs)) (add-one i) ∙ ap (map f) (take-suc xs i x low) ∙ map-append f (take i xs) (get_or xs i x ∷ []) ∙ (λ j. map f (take i xs) ++ f (sym is j) ∷ []))

pub loop-row-preserved : goal.loop-row-preserved
loop-row-preserved g c = (
  c.in_ok-push_row.ensures.row ∙ ap (λ rows. rows ++ deref_pair c.row-item.result ∷ []) c.loop-row.invariant.0
      ∙ one-more deref_pair c.args.rows.now c.loop-row.row-index c.row-item.result c.loop-row-test.true c.row-item.is,
  c.in_ok-push_row.ensures.room ∙ c.loop-row.invariant.1,
)

room_left : {A B : Type 0} (f : A → B) (ys : List B) (xs : List A) (i : ℕ) → ys ≡ map f (take i xs) → i < length xs → length ys < length xs
room_left f ys xs i is low = omega (arith, ap length is, length-map (take i xs) f, length-take i xs)

pub push_row-requires : goal.push_row-requires
push_row-requires g c =
    let more = room_left deref_pair c.loop-row.list.items c.args.rows.now c.loop-row.row-index c.loop-row.invariant.0 c.loop-row-test.true in
    omega (arith, more, c.loop-row.list.ok.0, c.loop-row.invariant.1)

pub loop-row-init : goal.loop-row-init
loop-row-init g c = (c.in_ok-list.ensures.items, c.in_ok-list.ensures.exact)

pub returns : goal.returns
returns g c = c.of.ensures ∙ c.loop-row.invariant.0 ∙ ap (map deref_pair) (take_all c.loop-row.row-index c.args.rows.now c.loop-row-test.false)
