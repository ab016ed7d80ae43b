use Rattle.std.proofs.Common.{◌≡◌, ◌≢◌, ◌≤◌, ◌++◌, ◌==◌, ℕ, Bool, true, false, Option, Some, None, option_map, List, [], ◌∷◌, length, refl, sym, ap, ◌∙◌, arith}
use Rattle.std.proofs.lemmas.List.{length-append}
use Rattle.std.proofs.lemmas.Bool.{eqb-true}
use Rattle.fmt_text.proofs.Uniqueness.{front_shorter, reached_none, reached_more, reached_end, reached_bad}
use Rattle.fmt_text.proofs.read.read.Goals as goal

pub loop-front-smaller : goal.loop-front-smaller
loop-front-smaller c = front_shorter c.loop-front.rest.now c.in-Some.others.now c.in-Some.front (sym c.in-Some.ensures)

pub loop-front-init : goal.loop-front-init
loop-front-init c = reached_none c.args.text.now c.new-pieces.result.done c.new-pieces.result.literal c.new-pieces.ensures

pub loop-front-preserved : goal.loop-front-preserved
loop-front-preserved c =
    reached_more c.args.text.now c.loop-front.rest.now c.in-Some.others.now c.loop-front.pieces.done c.loop-front.pieces.literal
    c.add.new.self.done c.add.new.self.literal c.in-Some.front c.loop-front.invariant (sym c.in-Some.ensures) c.in_ok-add.ensures

none_given : {A B : Type 0} (f : A → B) (o : Option A) (there : Option B) → ((x : A) → o ≡ Some x → ⊥) → option_map f o ≡ there → there ≡ None
none_given f None there h e = sym e
none_given f (Some x) there h e = absurd (h x refl)

some_bytes : (bytes : List ℕ) (empty : Bool) → empty ≡ (length bytes == 0) → empty ≡ false → bytes ≢ []
some_bytes [] empty is known none = cc
some_bytes (b ∷ bs) empty is known none = cc

no_bytes : (bytes : List ℕ) (empty : Bool) → empty ≡ (length bytes == 0) → empty ≡ true → bytes ≡ []
no_bytes [] empty is known = refl
no_bytes (b ∷ bs) empty is known = let e = eqb-true (length (b ∷ bs)) 0 (sym is ∙ known) in absurd (omega (arith, e))

rest_short : (text front rest : List ℕ) → text ≡ front ++ rest → length rest ≤ length text
rest_short text front rest e = omega (arith, ap length e, length-append front rest)

pub returns-then-not-is_empty : goal.returns-then-not-is_empty
returns-then-not-is_empty c =
    reached_bad c.args.text.now c.loop-front.rest.now c.loop-front.pieces.done c.loop-front.pieces.literal _ c.loop-front.invariant
    (none_given _ c.front_of.result _ c.in_default.not-Some c.front_of.ensures)
    (some_bytes c.loop-front.rest.now c.is_empty.result c.is_empty.ensures c.if-not-is_empty.true) refl

pub returns : goal.returns
returns c =
    reached_end c.args.text.now c.loop-front.rest.now c.loop-front.pieces.done c.loop-front.pieces.literal _ c.loop-front.invariant
    (no_bytes c.loop-front.rest.now c.is_empty.result c.is_empty.ensures c.if-not-is_empty.false) c.in_ok-close.ensures

pub overflow_sub-result : goal.overflow_sub-result
overflow_sub-result c =
    let reached = c.loop-front.invariant in
    rest_short _ _ _ reached.spelled
