-- What is left of a list needs no more than the whole list.
use Rattle.std.proofs.Common.{◌≡◌, ◌∙◌, ℕ, zero, suc, ◌+◌, ◌≤◌, ◌<◌, List, [], ◌∷◌, length, map, drop, get_or, refl, sym, ap, arith}
use Rattle.std.proofs.lemmas.List.{get_or_default}
use Rattle.std.specs.Prelude.{max}
use Rattle.bt_core.specs.declared.map.Shape.{Shape}
use Rattle.typed_tree.specs.declared.expr.AnyExpr.{AnyExpr}
use Rattle.typed_tree.specs.declared.expr.NumExpr.{NumExpr}
use Rattle.typed_tree.specs.declared.stmt.TypedBlock.{TypedBlock}
use Rattle.ir_code.specs.Figures.{size_of, sizes_of}
use Rattle.bt_lower.specs.declared.need.Listed.{Listed}
use Rattle.bt_lower.specs.declared.need.Valued.{Valued}
use Rattle.bt_lower.specs.Needs.{Need, greater, listed, before_others, all_need, arm_need, block_need, tree_arms_need, list_frame, codes_in, value_need, values_need}

-- the bytes of values from a place on
pub sizes_from : (ss : List Shape) (k m : ℕ) (d : Shape) → m ≡ suc k → k < length ss → size_of (get_or ss k d) + sizes_of (drop m ss) ≤ sizes_of ss
sizes_from [] k m d hm hk = absurd (omega arith)
sizes_from (x ∷ xs) zero m d hm hk = rw hm (omega arith)
sizes_from (x ∷ xs) (suc k) m d hm hk = rw hm (omega (arith, sizes_from xs k (suc k) d refl (omega arith)))

-- the frame of expressions from a place on
pub frame_from : (es : List AnyExpr) (k m : ℕ) (e : AnyExpr) → m ≡ suc k → k < length es → e ≡ get_or es k e →
    max (value_need e).need.frame ((value_need e).size + list_frame (values_need (drop m es))) ≤ list_frame (values_need es)
frame_from [] k m e hm hk he = absurd (omega arith)
frame_from (x ∷ xs) zero m e hm hk he = rw (hm, he) (omega arith)
frame_from (x ∷ xs) (suc k) m e hm hk he = rw hm (omega (arith, frame_from xs k (suc k) e refl (omega arith) he))

-- the slots of expressions from a place on
pub codes_from : (es : List AnyExpr) (k m : ℕ) (e : AnyExpr) → m ≡ suc k → k < length es → e ≡ get_or es k e →
    (value_need e).need.code + codes_in (values_need (drop m es)) ≤ codes_in (values_need es)
codes_from [] k m e hm hk he = absurd (omega arith)
codes_from (x ∷ xs) zero m e hm hk he = rw (hm, he) (omega arith)
codes_from (x ∷ xs) (suc k) m e hm hk he = rw hm (omega (arith, codes_from xs k (suc k) e refl (omega arith) he))

-- the frame of what stands one after another, from a place on
pub frames_from : {A : Type 0} (f : A → Need) (xs : List A) (k m : ℕ) (x : A) → m ≡ suc k → k < length xs → x ≡ get_or xs k x →
    max (f x).frame (all_need (map f (drop m xs))).frame ≤ (all_need (map f xs)).frame
frames_from f [] k m x hm hk hx = absurd (omega arith)
frames_from f (y ∷ ys) zero m x hm hk hx = rw (hm, hx) (omega arith)
frames_from f (y ∷ ys) (suc k) m x hm hk hx = rw hm (omega (arith, frames_from f ys k (suc k) x refl (omega arith) hx))

-- its slots
pub slots_from : {A : Type 0} (f : A → Need) (xs : List A) (k m : ℕ) (x : A) → m ≡ suc k → k < length xs → x ≡ get_or xs k x →
    (f x).code + (all_need (map f (drop m xs))).code ≤ (all_need (map f xs)).code
slots_from f [] k m x hm hk hx = absurd (omega arith)
slots_from f (y ∷ ys) zero m x hm hk hx = rw (hm, hx) (omega arith)
slots_from f (y ∷ ys) (suc k) m x hm hk hx = rw hm (omega (arith, slots_from f ys k (suc k) x refl (omega arith) hx))

-- the arms of an `if` from a place on
pub arm_frame_from : (arms : List (NumExpr × TypedBlock)) (k m : ℕ) (x y : NumExpr × TypedBlock) → m ≡ suc k → k < length arms → x ≡ get_or arms k x → y ≡ get_or arms k y →
    max (arm_need (x.0, block_need y.1)).frame (tree_arms_need (drop m arms)).frame ≤ (tree_arms_need arms).frame
arm_frame_from [] k m x y hm hk hx hy = absurd (omega arith)
arm_frame_from (a ∷ rest) zero m x y hm hk hx hy = rw (hm, hx, hy) (omega arith)
arm_frame_from (a ∷ rest) (suc k) m x y hm hk hx hy = rw hm (omega (arith, arm_frame_from rest k (suc k) x y refl (omega arith) hx hy))

pub arm_slots_from : (arms : List (NumExpr × TypedBlock)) (k m : ℕ) (x y : NumExpr × TypedBlock) → m ≡ suc k → k < length arms → x ≡ get_or arms k x → y ≡ get_or arms k y →
    (arm_need (x.0, block_need y.1)).code + (tree_arms_need (drop m arms)).code ≤ (tree_arms_need arms).code
arm_slots_from [] k m x y hm hk hx hy = absurd (omega arith)
arm_slots_from (a ∷ rest) zero m x y hm hk hx hy = rw (hm, hx, hy) (omega arith)
arm_slots_from (a ∷ rest) (suc k) m x y hm hk hx hy = rw hm (omega (arith, arm_slots_from rest k (suc k) x y refl (omega arith) hx hy))

-- what is left from one place before
pub left_from : {A : Type 0} (xs : List A) (k m : ℕ) (x : A) → m ≡ suc k → k < length xs → x ≡ get_or xs k x → drop k xs ≡ x ∷ drop m xs
left_from [] k m x hm hk hx = absurd (omega arith)
left_from {A} (y ∷ ys) zero m x hm hk hx = rw hm (ap (λ (z : A). z ∷ ys) (sym hx))
left_from (y ∷ ys) (suc k) m x hm hk hx = rw hm (left_from ys k (suc k) x refl (omega arith) hx)

-- what is needed from one place before
pub needs_from : {A : Type 0} (f : A → Need) (xs : List A) (k m : ℕ) (x : A) (one all next : Need) → m ≡ suc k → k < length xs → x ≡ get_or xs k x →
    all ≡ all_need (map f (drop m xs)) → one ≡ f x → next ≡ greater one all → next ≡ all_need (map f (drop k xs))
needs_from {A} f xs k m x one all next hm hk hx ha ho h =
    h ∙ (ap (λ (a : Need). greater one a) ha ∙ (ap (λ (o : Need). greater o (all_need (map f (drop m xs)))) ho ∙ ap (λ (l : List A). all_need (map f l)) (sym (left_from xs k m x hm hk hx))))

pub arms_from : (arms : List (NumExpr × TypedBlock)) (k m : ℕ) (x y : NumExpr × TypedBlock) (one all next : Need) → m ≡ suc k → k < length arms → x ≡ get_or arms k x → y ≡ get_or arms k y →
    all ≡ tree_arms_need (drop m arms) → one ≡ arm_need ((get_or arms k x).0, block_need (get_or arms k y).1) → next ≡ greater one all → next ≡ tree_arms_need (drop k arms)
arms_from arms k m x y one all next hm hk hx hy ha ho h =
    let test = ap (λ (z : NumExpr × TypedBlock). arm_need (z.0, block_need (get_or arms k y).1)) (sym hx) in
    let block = ap (λ (z : NumExpr × TypedBlock). arm_need (x.0, block_need z.1)) (get_or_default arms k y x hk ∙ sym hx) in
    needs_from (λ (arm : NumExpr × TypedBlock). arm_need (arm.0, block_need arm.1)) arms k m x one all next hm hk hx ha (ho ∙ (test ∙ block)) h

pub listed_from : (es : List AnyExpr) (k m : ℕ) (e : AnyExpr) (v : Valued) (all next : Listed) → m ≡ suc k → k < length es → e ≡ get_or es k e →
    all ≡ listed (values_need (drop m es)) → v ≡ value_need e → next ≡ before_others v all → next ≡ listed (values_need (drop k es))
listed_from es k m e v all next hm hk he ha hv h =
    let rest = listed (values_need (drop m es)) in
    h ∙ (ap (λ (a : Listed). before_others v a) ha ∙ (ap (λ (x : Valued). before_others x rest) hv ∙ ap (λ (l : List AnyExpr). listed (values_need l)) (sym (left_from es k m e hm hk he))))

-- the values of expressions have room in their frame
pub room_before : (v : Valued) (all next : Listed) → next ≡ before_others v all → all.sizes ≤ all.need.frame → next.sizes ≤ next.need.frame
room_before v all next h room = rw h (omega (arith, room))
