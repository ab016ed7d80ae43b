-- Instructions that do the same as others.
use Rattle.std.proofs.Common.{◌≡◌, ℕ, ◌+◌, ◌-◌, ◌≤◌, List, [], ◌∷◌, ◌++◌, length, take, drop, Bool, true, false, refl, sym, ap, ◌∙◌, arith, append_assoc}
use Rattle.std.proofs.Common.{append-nil, length-append}
use Rattle.std.specs.Prelude.{◌&&◌, nat_le, max}
use Rattle.std.proofs.lemmas.Bool.{and_parts, le-leb, leb-true}
use Rattle.std.proofs.Math.Seq.{take-append_seam, take-length, drop-length}
use Rattle.bt_core.specs.declared.map.Shape.{Shape}
use Rattle.bt_core.specs.declared.map.Shape.TheVariants as shapes
use Rattle.bt_core.specs.declared.operator.BinOp.{BinOp}
use Rattle.bt_core.specs.declared.operator.UnOp.{UnOp}
use Rattle.bt_core.specs.declared.value.Value.{Value}
use Rattle.bt_core.specs.declared.value.Value.TheVariants.{Int, Str}
use Rattle.bt_core.specs.Arithmetic.{binary_value, unary_value, truth}
use Rattle.bt_core.specs.Interaction.{Interaction, Ended, Asks, and_then}
use Rattle.bt_core.proofs.InteractionLaws.{and_then_assoc}
use Rattle.ir_code.specs.declared.instr.Instr.{Instr}
use Rattle.ir_code.specs.declared.instr.Instr.TheVariants as i
use Rattle.ir_code.specs.declared.state.State.{State}
use Rattle.ir_code.specs.Figures.{size_of, sizes_of, instr_slots, instrs_slots}
use Rattle.ir_code.specs.Meaning.{Scene, instr_run, instrs_run, put, with_stack, popped, binary_on, unary_on, truth_on}
use Rattle.ir_code.specs.Serving.{ends_read}
use Rattle.ir_code.specs.Typing.{Ground, operand_shapes, gives, last_of, front_of, end_with, has_room, turned, may_stand, all_stand, all_turned}
use Rattle.ir_code.specs.Stacks.{top, below}
use Rattle.map_ops.specs.Values.{number_of, holds, shape_of}
use Rattle.ir_fold.specs.Folded.{Betters}

-- ---- lists

pub and_then-same : {A B : Type 0} (t : Interaction A) (k m : A → Interaction B) → ((a : A) → k a ≡ m a) → and_then t k ≡ and_then t m
and_then-same (Ended a) k m p = p a
and_then-same (Asks c f) k m p = ap (λ g. Asks c g) (λ i r. and_then-same (f r) k m p i)

pub top-append : (vs : List Value) (v : Value) → top (vs ++ v ∷ []) ≡ v
top-append [] v = refl
top-append (x ∷ []) v = refl
top-append (x ∷ y ∷ vs) v = top-append (y ∷ vs) v

below-append : (vs : List Value) (v : Value) → below (vs ++ v ∷ []) ≡ vs
below-append [] v = refl
below-append (x ∷ []) v = refl
below-append (x ∷ y ∷ vs) v = ap (λ l. x ∷ l) (below-append (y ∷ vs) v)

front-append : {A : Type 0} (n : ℕ) (xs ys : List A) → length ys ≡ n → front_of n (xs ++ ys) ≡ xs
front-append n xs ys e =
    let at : length (xs ++ ys) - n ≡ length xs = omega (arith, length-append xs ys, e) in
    ap (λ (m : ℕ). take m (xs ++ ys)) at ∙ take-append_seam xs ys

front-none : {A : Type 0} (xs : List A) → front_of 0 xs ≡ xs
front-none xs = let at : length xs - 0 ≡ length xs = omega arith in ap (λ (m : ℕ). take m xs) at ∙ take-length xs

last-none : {A : Type 0} (xs : List A) → last_of 0 xs ≡ []
last-none xs = let at : length xs - 0 ≡ length xs = omega arith in ap (λ (m : ℕ). drop m xs) at ∙ drop-length xs

pub both : (a b : Bool) → a ≡ true → b ≡ true → (a && b) ≡ true
both true b e f = f
both false b e f = cc

-- ---- instructions one after another

pub runs-append : (xs ys : List Instr) (scene : Scene) (s : State) → instrs_run (xs ++ ys) scene s ≡ and_then (instrs_run xs scene s) (instrs_run ys scene)
runs-append [] ys scene s = refl
runs-append (x ∷ xs) ys scene s =
    and_then-same (instr_run x scene s) _ _ (λ s1. runs-append xs ys scene s1)
    ∙ sym (and_then_assoc (instr_run x scene s) (instrs_run xs scene) (instrs_run ys scene))

pub turned-append : (xs ys : List Instr) (stack : List Shape) → all_turned (xs ++ ys) stack ≡ all_turned ys (all_turned xs stack)
turned-append [] ys stack = refl
turned-append (x ∷ xs) ys stack = turned-append xs ys (turned x stack)

-- all but the room at the end
abbrev pass : Ground → List Instr → List Shape → Bool
pass g [] stack = true
pass g (x ∷ xs) stack = may_stand g x stack && pass g xs (turned x stack)

pub record Split (g : Ground) (xs ys : List Instr) (stack : List Shape) : Type 0 where
  pub first : pass g xs stack ≡ true
  pub second : all_stand g ys (all_turned xs stack) ≡ true

pub split : (g : Ground) (xs ys : List Instr) (stack : List Shape) → all_stand g (xs ++ ys) stack ≡ true → Split g xs ys stack
split g [] ys stack h = record { first = refl; second = h }
split g (x ∷ xs) ys stack h =
    let p = and_parts (may_stand g x stack) (all_stand g (xs ++ ys) (turned x stack)) h in
    let q = split g xs ys (turned x stack) p.1 in
    record { first = both (may_stand g x stack) (pass g xs (turned x stack)) p.0 q.first; second = q.second }

pub join : (g : Ground) (xs ys : List Instr) (stack : List Shape) → Split g xs ys stack → all_stand g (xs ++ ys) stack ≡ true
join g [] ys stack h = h.second
join g (x ∷ xs) ys stack h =
    let p = and_parts (may_stand g x stack) (pass g xs (turned x stack)) h.first in
    both (may_stand g x stack) (all_stand g (xs ++ ys) (turned x stack)) p.0 (join g xs ys (turned x stack) (record { first = p.1; second = h.second }))

pub slots-append : (xs ys : List Instr) → instrs_slots (xs ++ ys) ≡ instrs_slots xs + instrs_slots ys
slots-append [] ys = omega arith
slots-append (x ∷ xs) ys = omega (arith, slots-append xs ys)

reads-less : (xs ys zs : List Instr) → ends_read ys ≤ ends_read zs → ends_read (xs ++ ys) ≤ ends_read (xs ++ zs)
reads-less [] ys zs h = h
reads-less (x ∷ xs) ys zs h = grind (arith, reads-less xs ys zs h)

-- ---- the relation

pub betters-self : (xs : List Instr) → Betters xs xs
betters-self xs = record { runs = λ scene s. refl; turns = λ stack. refl; stands = λ g stack more h. h; slots = omega arith; reads = omega arith }

pub betters-then : (xs ys zs : List Instr) → Betters xs ys → Betters ys zs → Betters xs zs
betters-then xs ys zs p q = record {
  runs = λ scene s. q.runs scene s ∙ p.runs scene s;
  turns = λ stack. q.turns stack ∙ p.turns stack;
  stands = λ g stack more h. q.stands g stack more (p.stands g stack more h);
  slots = omega (arith, p.slots, q.slots);
  reads = omega (arith, p.reads, q.reads);
}

-- behind the same
pub betters-behind : (xs ys zs : List Instr) → Betters ys zs → Betters (xs ++ ys) (xs ++ zs)
betters-behind xs ys zs p = record {
  runs = λ scene s. runs-append xs zs scene s ∙ and_then-same (instrs_run xs scene s) _ _ (λ s1. p.runs scene s1) ∙ sym (runs-append xs ys scene s);
  turns = λ stack. turned-append xs zs stack ∙ p.turns (all_turned xs stack) ∙ sym (turned-append xs ys stack);
  stands = λ g stack more h.
      (let q = split g xs (ys ++ more) stack (ap (λ (l : List Instr). all_stand g l stack) (sym (append_assoc xs ys more)) ∙ h) in
      ap (λ (l : List Instr). all_stand g l stack) (append_assoc xs zs more)
      ∙ join g xs (zs ++ more) stack (record { first = q.first; second = p.stands g (all_turned xs stack) more q.second }));
  slots = omega (arith, p.slots, slots-append xs ys, slots-append xs zs);
  reads = reads-less xs zs ys p.reads;
}

reads-append : (xs ys : List Instr) → ends_read (xs ++ ys) ≡ max (ends_read xs) (ends_read ys)
reads-append [] ys = grind arith
reads-append (x ∷ xs) ys = grind (arith, reads-append xs ys)

-- before the same
pub betters-before : (xs ys zs : List Instr) → Betters xs ys → Betters (xs ++ zs) (ys ++ zs)
betters-before xs ys zs p = record {
  runs = λ scene s. runs-append ys zs scene s ∙ ap (λ (t : Interaction State). and_then t (instrs_run zs scene)) (p.runs scene s)
      ∙ sym (runs-append xs zs scene s);
  turns = λ stack. turned-append ys zs stack ∙ ap (λ (l : List Shape). all_turned zs l) (p.turns stack) ∙ sym (turned-append xs zs stack);
  stands = λ g stack more h. ap (λ (l : List Instr). all_stand g l stack) (append_assoc ys zs more)
      ∙ p.stands g stack (zs ++ more) (ap (λ (l : List Instr). all_stand g l stack) (sym (append_assoc xs zs more)) ∙ h);
  slots = omega (arith, p.slots, slots-append xs zs, slots-append ys zs);
  reads = grind (arith, p.reads, reads-append xs zs, reads-append ys zs);
}

-- one more of each
pub betters-one : (old folded new : List Instr) (x : Instr) → Betters old folded → Betters (folded ++ x ∷ []) new → Betters (old ++ x ∷ []) new
betters-one old folded new x p q = betters-then (old ++ x ∷ []) (folded ++ x ∷ []) new (betters-before old folded (x ∷ []) p) q

-- ---- what literals make

put-twice : (a b : Value) (s : State) → top (put b (put a s)).stack ≡ b
put-twice a b s = top-append (s.stack ++ a ∷ []) b

binary-is : (op : BinOp) (a b : Value) (s : State) → binary_on op (put b (put a s)) ≡ put (Int (binary_value op (number_of a) (number_of b))) s
binary-is op a b s =
    let e1 = top-append (s.stack ++ a ∷ []) b in
    let e2 = below-append (s.stack ++ a ∷ []) b in
    let e3 : top (below ((s.stack ++ a ∷ []) ++ b ∷ [])) ≡ a = ap top e2 ∙ top-append s.stack a in
    let e4 : below (below ((s.stack ++ a ∷ []) ++ b ∷ [])) ≡ s.stack = ap below e2 ∙ below-append s.stack a in
    ap (λ (v : Value). put (Int (binary_value op (number_of v) (number_of (top ((s.stack ++ a ∷ []) ++ b ∷ []))))) (popped (popped (put b (put a s))))) e3
    ∙ ap (λ (v : Value). put (Int (binary_value op (number_of a) (number_of v))) (popped (popped (put b (put a s))))) e1
    ∙ ap (λ (l : List Value). put (Int (binary_value op (number_of a) (number_of b))) (with_stack s l)) e4

unary-is : (op : UnOp) (a : Value) (s : State) → unary_on op (put a s) ≡ put (Int (unary_value op (number_of a))) s
unary-is op a s =
    ap (λ (v : Value). put (Int (unary_value op (number_of v))) (popped (put a s))) (top-append s.stack a)
    ∙ ap (λ (l : List Value). put (Int (unary_value op (number_of a))) (with_stack s l)) (below-append s.stack a)

truth-is : (a : Value) (s : State) → truth_on (put a s) ≡ put (Int (truth (holds (number_of a)))) s
truth-is a s =
    ap (λ (v : Value). put (Int (truth (holds (number_of v)))) (popped (put a s))) (top-append s.stack a)
    ∙ ap (λ (l : List Value). put (Int (truth (holds (number_of a)))) (with_stack s l)) (below-append s.stack a)

pub popped-is : (a : Value) (s : State) → popped (put a s) ≡ s
popped-is a s = ap (λ (l : List Value). with_stack s l) (below-append s.stack a)

-- the types after a literal, and after one and another
after-put : (v : Value) (stack : List Shape) → turned (i.Put v) stack ≡ stack ++ shape_of v ∷ []
after-put v stack = ap (λ (l : List Shape). l ++ shape_of v ∷ []) (front-none stack)

over-one : (x : Instr) (h : Shape) (stack : List Shape) → length (operand_shapes x) ≡ 1 → turned x (stack ++ h ∷ []) ≡ stack ++ gives x
over-one x h stack e = ap (λ (l : List Shape). l ++ gives x) (front-append (length (operand_shapes x)) stack (h ∷ []) (sym e))

over-two : (x : Instr) (h k : Shape) (stack : List Shape) → length (operand_shapes x) ≡ 2 → turned x ((stack ++ h ∷ []) ++ k ∷ []) ≡ stack ++ gives x
over-two x h k stack e =
    ap (λ (l : List Shape). turned x l) (append_assoc stack (h ∷ []) (k ∷ []))
    ∙ ap (λ (l : List Shape). l ++ gives x) (front-append (length (operand_shapes x)) stack (h ∷ k ∷ []) (sym e))

one-turns : (a : Value) (x : Instr) (stack : List Shape) → length (operand_shapes x) ≡ 1 → turned x (turned (i.Put a) stack) ≡ stack ++ gives x
one-turns a x stack e = ap (λ (l : List Shape). turned x l) (after-put a stack) ∙ over-one x (shape_of a) stack e

two-turn : (a b : Value) (x : Instr) (stack : List Shape) → length (operand_shapes x) ≡ 2 → turned x (turned (i.Put b) (turned (i.Put a) stack)) ≡ stack ++ gives x
two-turn a b x stack e =
    ap (λ (l : List Shape). turned x (turned (i.Put b) l)) (after-put a stack) ∙ ap (λ (l : List Shape). turned x l) (after-put b (stack ++ shape_of a ∷ []))
    ∙ over-two x (shape_of a) (shape_of b) stack e

size-least : (s : Shape) → 8 ≤ size_of s
size-least shapes.Int = omega arith
size-least shapes.Str = omega arith

-- a number may stand where a literal may
number-stands : (g : Ground) (a : Value) (z : Rattle.std.specs.Prelude.ℤ) (stack : List Shape) → may_stand g (i.Put a) stack ≡ true
    → may_stand g (i.Put (Int z)) stack ≡ true
number-stands g a z stack h =
    let p = and_parts (true && end_with [] stack) (has_room g (sizes_of stack + size_of (shape_of a))) h in
    let r = leb-true (24 + sizes_of g.variables + (sizes_of stack + size_of (shape_of a))) g.frame p.1 in
    both (true && end_with [] stack) (has_room g (sizes_of stack + 8)) p.0
    (le-leb (24 + sizes_of g.variables + (sizes_of stack + 8)) g.frame (omega (arith, r, size-least (shape_of a))))

-- a literal leaves room for what is under it
under-stands : (g : Ground) (a : Value) (more : List Instr) (stack : List Shape) → may_stand g (i.Put a) stack ≡ true → has_room g (sizes_of stack) ≡ true
under-stands g a more stack h =
    let p = and_parts (true && end_with [] stack) (has_room g (sizes_of stack + size_of (shape_of a))) h in
    let r = leb-true (24 + sizes_of g.variables + (sizes_of stack + size_of (shape_of a))) g.frame p.1 in
    le-leb (24 + sizes_of g.variables + sizes_of stack) g.frame (omega (arith, r))

put-slots : (v : Value) → 4 ≤ instr_slots (i.Put v)
put-slots (Int z) = omega arith
put-slots (Str s) = omega arith

pub binary-folds : (op : BinOp) (a b : Value) → Betters (i.Put a ∷ i.Put b ∷ i.Binary op ∷ []) (i.Put (Int (binary_value op (number_of a) (number_of b))) ∷ [])
binary-folds op a b =
    let z = Int (binary_value op (number_of a) (number_of b)) in
    let x = i.Binary op in
    record {
      runs = λ scene s. ap (λ (t : State). Ended t) (sym (binary-is op a b s));
      turns = λ stack. after-put z stack ∙ sym (two-turn a b x stack refl);
      stands = λ g stack more h.
          (let p = and_parts (may_stand g (i.Put a) stack) (all_stand g (i.Put b ∷ x ∷ more) (turned (i.Put a) stack)) h in
          let q = and_parts (may_stand g (i.Put b) (turned (i.Put a) stack)) (all_stand g (x ∷ more) (turned (i.Put b) (turned (i.Put a) stack))) p.1 in
          let r = and_parts (may_stand g x (turned (i.Put b) (turned (i.Put a) stack)))
          (all_stand g more (turned x (turned (i.Put b) (turned (i.Put a) stack)))) q.1 in
          both (may_stand g (i.Put z) stack) (all_stand g more (turned (i.Put z) stack))
          (number-stands g a (binary_value op (number_of a) (number_of b)) stack p.0)
          (ap (λ (l : List Shape). all_stand g more l) (after-put z stack ∙ sym (two-turn a b x stack refl)) ∙ r.1));
      slots = omega (arith, put-slots a, put-slots b);
      reads = omega arith;
    }

pub unary-folds : (op : UnOp) (a : Value) → Betters (i.Put a ∷ i.Unary op ∷ []) (i.Put (Int (unary_value op (number_of a))) ∷ [])
unary-folds op a =
    let z = Int (unary_value op (number_of a)) in
    let x = i.Unary op in
    record {
      runs = λ scene s. ap (λ (t : State). Ended t) (sym (unary-is op a s));
      turns = λ stack. after-put z stack ∙ sym (one-turns a x stack refl);
      stands = λ g stack more h.
          (let p = and_parts (may_stand g (i.Put a) stack) (all_stand g (x ∷ more) (turned (i.Put a) stack)) h in
          let q = and_parts (may_stand g x (turned (i.Put a) stack)) (all_stand g more (turned x (turned (i.Put a) stack))) p.1 in
          both (may_stand g (i.Put z) stack) (all_stand g more (turned (i.Put z) stack)) (number-stands g a (unary_value op (number_of a)) stack p.0)
          (ap (λ (l : List Shape). all_stand g more l) (after-put z stack ∙ sym (one-turns a x stack refl)) ∙ q.1));
      slots = omega (arith, put-slots a);
      reads = omega arith;
    }

pub truth-folds : (a : Value) → Betters (i.Put a ∷ i.Truth ∷ []) (i.Put (Int (truth (holds (number_of a)))) ∷ [])
truth-folds a =
    let z = Int (truth (holds (number_of a))) in
    record {
      runs = λ scene s. ap (λ (t : State). Ended t) (sym (truth-is a s));
      turns = λ stack. after-put z stack ∙ sym (one-turns a i.Truth stack refl);
      stands = λ g stack more h.
          (let p = and_parts (may_stand g (i.Put a) stack) (all_stand g (i.Truth ∷ more) (turned (i.Put a) stack)) h in
          let q = and_parts (may_stand g i.Truth (turned (i.Put a) stack)) (all_stand g more (turned i.Truth (turned (i.Put a) stack))) p.1 in
          both (may_stand g (i.Put z) stack) (all_stand g more (turned (i.Put z) stack)) (number-stands g a (truth (holds (number_of a))) stack p.0)
          (ap (λ (l : List Shape). all_stand g more l) (after-put z stack ∙ sym (one-turns a i.Truth stack refl)) ∙ q.1));
      slots = omega (arith, put-slots a);
      reads = omega arith;
    }

pub pop-turns : (a : Value) (stack : List Shape) → turned i.Pop (turned (i.Put a) stack) ≡ stack
pop-turns a stack = one-turns a i.Pop stack refl ∙ append-nil stack

pub pop-folds : (a : Value) → Betters (i.Put a ∷ i.Pop ∷ []) []
pop-folds a = record {
  runs = λ scene s. ap (λ (t : State). Ended t) (sym (popped-is a s));
  turns = λ stack. sym (pop-turns a stack);
  stands = λ g stack more h.
      (let p = and_parts (may_stand g (i.Put a) stack) (all_stand g (i.Pop ∷ more) (turned (i.Put a) stack)) h in
      let q = and_parts (may_stand g i.Pop (turned (i.Put a) stack)) (all_stand g more (turned i.Pop (turned (i.Put a) stack))) p.1 in
      ap (λ (l : List Shape). all_stand g more l) (sym (pop-turns a stack)) ∙ q.1);
  slots = omega arith;
  reads = omega arith;
}

-- what stands before a literal stands alone
pub front-stands : (g : Ground) (xs : List Instr) (a : Value) (stack : List Shape) → all_stand g (xs ++ i.Put a ∷ []) stack ≡ true → all_stand g xs stack ≡ true
front-stands g xs a stack h =
    let q = split g xs (i.Put a ∷ []) stack h in
    let p = and_parts (may_stand g (i.Put a) (all_turned xs stack)) (all_stand g [] (turned (i.Put a) (all_turned xs stack))) q.second in
    ap (λ (l : List Instr). all_stand g l stack) (sym (append-nil xs))
    ∙ join g xs [] stack (record { first = q.first; second = under-stands g a [] (all_turned xs stack) p.0 })

pub front-turns : (xs : List Instr) (a : Value) (stack : List Shape) → front_of 1 (all_turned (xs ++ i.Put a ∷ []) stack) ≡ all_turned xs stack
front-turns xs a stack =
    ap (λ (l : List Shape). front_of 1 l) (turned-append xs (i.Put a ∷ []) stack ∙ after-put a (all_turned xs stack))
    ∙ front-append 1 (all_turned xs stack) (shape_of a ∷ []) refl
