-- Instructions that are added one after another.
use Rattle.std.proofs.Common.{◌≡◌, ℕ, zero, suc, ◌+◌, ◌-◌, ◌<◌, ◌≤◌, List, [], ◌∷◌, ◌++◌, length, take, drop, Bool, true, false, Option, Some, None, refl}
use Rattle.std.proofs.Common.{sym, ap, ◌∙◌, subst, arith, append_assoc, append-nil, inl, inr}
use Rattle.std.specs.Prelude.{◌⊎◌, ◌≢◌, cond, nat_le, slice_get}
use Rattle.std.proofs.lemmas.Bool.{le-leb, leb-true}
use Rattle.std.proofs.lemmas.List.{take-append-drop}
use Rattle.std.proofs.Math.ListN.{drop_of_length-le}
use Rattle.bt_core.specs.declared.operator.BinOp.{BinOp}
use Rattle.bt_core.specs.declared.operator.UnOp.{UnOp}
use Rattle.bt_core.specs.declared.value.Value.{Value}
use Rattle.bt_core.specs.declared.value.Value.TheVariants.{Int}
use Rattle.bt_core.specs.Arithmetic.{binary_value, unary_value, truth}
use Rattle.ir_code.specs.declared.instr.Instr.{Instr}
use Rattle.ir_code.specs.declared.instr.Instr.TheVariants as i
use Rattle.map_ops.specs.Values.{number_of, holds}
use Rattle.ir_fold.specs.Folded.{literal_in, literal_before, AllVary, Betters, Adds}
use Rattle.ir_fold.proofs.Better.{betters-self, betters-behind, binary-folds, unary-folds, truth-folds, pop-folds}

-- ---- places

drop-at : {A : Type 0} (xs : List A) (n : ℕ) (x : A) → slice_get xs n ≡ Some x → drop n xs ≡ x ∷ drop (suc n) xs
drop-at [] n x e = absurd (cc)
drop-at (y ∷ xs) zero x e = let s : y ≡ x = cc in ap (λ z. z ∷ xs) s
drop-at (y ∷ xs) (suc n) x e = drop-at xs n x e

-- where an instruction of a list with one more is
pub record Before {A : Type 0} (xs : List A) (n : ℕ) (y : A) : Type 0 where
  pub low : n < length xs
  pub at : slice_get xs n ≡ Some y

pub record Behind {A : Type 0} (xs : List A) (x : A) (n : ℕ) (y : A) : Type 0 where
  pub last : n ≡ length xs
  pub is : x ≡ y

pub which : {A : Type 0} (xs : List A) (x : A) (n : ℕ) (y : A) → slice_get (xs ++ x ∷ []) n ≡ Some y → Before xs n y ⊎ Behind xs x n y
which [] x zero y e = inr (record { last = refl; is = cc })
which [] x (suc n) y e = absurd (cc)
which (z ∷ xs) x zero y e = inl (record { low = omega arith; at = e })
which (z ∷ xs) x (suc n) y e = deeper (which xs x n y e)
  where
    deeper : Before xs n y ⊎ Behind xs x n y → Before (z ∷ xs) (suc n) y ⊎ Behind (z ∷ xs) x (suc n) y
    deeper (inl p) = inl (record { low = omega (arith, p.low); at = p.at })
    deeper (inr p) = inr (record { last = ap suc p.last; is = p.is })

same-front : {A : Type 0} (xs ys : List A) (n : ℕ) → n < length xs → slice_get (xs ++ ys) n ≡ slice_get xs n
same-front [] ys n h = absurd (omega arith)
same-front (x ∷ xs) ys zero h = refl
same-front (x ∷ xs) ys (suc n) h = same-front xs ys n (omega arith)

take-front : {A : Type 0} (k : ℕ) (xs : List A) (n : ℕ) (x : A) → slice_get (take k xs) n ≡ Some x → (n < k) × (slice_get xs n ≡ Some x)
take-front zero xs n x e = absurd (cc)
take-front (suc k) [] n x e = absurd (cc)
take-front (suc k) (y ∷ xs) zero x e = (omega arith, e)
take-front (suc k) (y ∷ xs) (suc n) x e = let p = take-front k xs n x e in let l = p.0 in (omega (arith, l), p.1)

take-same : {A : Type 0} (k : ℕ) (xs : List A) (n : ℕ) → n < k → slice_get (take k xs) n ≡ slice_get xs n
take-same zero xs n h = absurd (omega arith)
take-same (suc k) [] n h = refl
take-same (suc k) (x ∷ xs) zero h = refl
take-same (suc k) (x ∷ xs) (suc n) h = take-same k xs n (omega arith)

-- ---- what varies

pub vary-take : (k : ℕ) (xs : List Instr) → AllVary xs → AllVary (take k xs)
vary-take k xs v = record {
  unary = λ n op e.
      (let p = take-front k xs (suc n) (i.Unary op) e in let l = p.0 in
      ap literal_in (take-same k xs n (omega (arith, l))) ∙ v.unary n op p.1);
  binary = λ n op e.
      (let p = take-front k xs (suc (suc n)) (i.Binary op) e in let l = p.0 in
      either (slice_get xs n) (slice_get xs (suc n)) (slice_get (take k xs) n) (slice_get (take k xs) (suc n)) (take-same k xs n (omega (arith, l)))
      (take-same k xs (suc n) (omega (arith, l))) (v.binary n op p.1));
}
  where
    either : (a b c d : Option Instr) → c ≡ a → d ≡ b → (literal_in a ≡ None) ⊎ (literal_in b ≡ None) → (literal_in c ≡ None) ⊎ (literal_in d ≡ None)
    either a b c d e f (inl p) = inl (ap literal_in e ∙ p)
    either a b c d e f (inr p) = inr (ap literal_in f ∙ p)

-- behind these instructions this one has an operand that is no literal
abbrev pub Fresh : List Instr → Instr → Type 0
Fresh xs (i.Binary op) = (literal_before 2 xs ≡ None) ⊎ (literal_before 1 xs ≡ None)
Fresh xs (i.Unary op) = literal_before 1 xs ≡ None
Fresh xs x = Unit {0}

before-is : (k : ℕ) (xs : List Instr) (n : ℕ) → n + k ≡ length xs → literal_before k xs ≡ None → literal_in (slice_get xs n) ≡ None
before-is k xs n e h =
    let t = le-leb k (length xs) (omega (arith, e)) in
    let at : n ≡ length xs - k = omega (arith, e) in
    ap (λ (m : ℕ). literal_in (slice_get xs m)) at ∙ ap (λ (b : Bool). cond b (literal_in (slice_get xs (length xs - k))) None) (sym t) ∙ h

pub vary-push : (xs : List Instr) (x : Instr) → AllVary xs → Fresh xs x → AllVary (xs ++ x ∷ [])
vary-push xs x v f = record {
  unary = λ n op e. one n op (which xs x (suc n) (i.Unary op) e);
  binary = λ n op e. two n op
      (which xs x (suc (suc n)) (i.Binary op) e);
}
  where
    one : (n : ℕ) (op : UnOp) → Before xs (suc n) (i.Unary op) ⊎ Behind xs x (suc n) (i.Unary op) → literal_in (slice_get (xs ++ x ∷ []) n) ≡ None
    one n op (inl p) = ap literal_in (same-front xs (x ∷ []) n (omega (arith, p.low))) ∙ v.unary n op p.at
    one n op (inr p) =
        ap literal_in (same-front xs (x ∷ []) n (omega (arith, p.last)))
        ∙ before-is 1 xs n (omega (arith, p.last)) (subst (λ (y : Instr). Fresh xs y) p.is f)

    pair : (n : ℕ) → suc n < length xs → (literal_in (slice_get xs n) ≡ None) ⊎ (literal_in (slice_get xs (suc n)) ≡ None)
        → (literal_in (slice_get (xs ++ x ∷ []) n) ≡ None) ⊎ (literal_in (slice_get (xs ++ x ∷ []) (suc n)) ≡ None)
    pair n l (inl p) = inl (ap literal_in (same-front xs (x ∷ []) n (omega (arith, l))) ∙ p)
    pair n l (inr p) = inr (ap literal_in (same-front xs (x ∷ []) (suc n) l) ∙ p)

    last : (n : ℕ) → suc (suc n) ≡ length xs → (literal_before 2 xs ≡ None) ⊎ (literal_before 1 xs ≡ None)
        → (literal_in (slice_get xs n) ≡ None) ⊎ (literal_in (slice_get xs (suc n)) ≡ None)
    last n l (inl p) = inl (before-is 2 xs n (omega (arith, l)) p)
    last n l (inr p) = inr (before-is 1 xs (suc n) (omega (arith, l)) p)

    two : (n : ℕ) (op : BinOp) → Before xs (suc (suc n)) (i.Binary op) ⊎ Behind xs x (suc (suc n)) (i.Binary op)
        → (literal_in (slice_get (xs ++ x ∷ []) n) ≡ None) ⊎ (literal_in (slice_get (xs ++ x ∷ []) (suc n)) ≡ None)
    two n op (inl p) = pair n (omega (arith, p.low)) (v.binary n op p.at)
    two n op (inr p) = pair n (omega (arith, p.last)) (last n p.last (subst (λ (y : Instr). Fresh xs y) p.is f))

-- ---- literals

pub record Literal (o : Option Instr) (z : Value) : Type 0 where
  pub is : o ≡ Some (i.Put z)

literal-is : (x : Instr) (z : Value) → literal_in (Some x) ≡ Some z → Literal (Some x) z
literal-is (i.Put v) z e = record { is = (let s : v ≡ z = cc in ap (λ (w : Value). Some (i.Put w)) s) }
literal-is (i.Builtin b) z e = absurd (cc)
literal-is i.Comm z e = absurd (cc)
literal-is (i.NumberField f) z e = absurd (cc)
literal-is (i.TextField f) z e = absurd (cc)
literal-is (i.Load x shape) z e = absurd (cc)
literal-is (i.Store x shape) z e = absurd (cc)
literal-is (i.StepVar x plus prefix) z e = absurd (cc)
literal-is (i.UpdateVar x op) z e = absurd (cc)
literal-is (i.Unary op) z e = absurd (cc)
literal-is (i.Binary op) z e = absurd (cc)
literal-is (i.Compare equal) z e = absurd (cc)
literal-is i.Truth z e = absurd (cc)
literal-is (i.Get m key shape) z e = absurd (cc)
literal-is (i.ReadAgg m key) z e = absurd (cc)
literal-is (i.Set m key shape) z e = absurd (cc)
literal-is (i.Delete m key) z e = absurd (cc)
literal-is (i.Update m key op) z e = absurd (cc)
literal-is (i.StepMap m key plus prefix) z e = absurd (cc)
literal-is (i.Add m key) z e = absurd (cc)
literal-is (i.Count m key) z e = absurd (cc)
literal-is (i.Printf format shapes) z e = absurd (cc)
literal-is (i.Print m top div) z e = absurd (cc)
literal-is (i.Clear m) z e = absurd (cc)
literal-is (i.Zero m) z e = absurd (cc)
literal-is (i.Cut line) z e = absurd (cc)
literal-is i.Stop z e = absurd (cc)
literal-is i.Pop z e = absurd (cc)

pub literal-at : (o : Option Instr) (z : Value) → literal_in o ≡ Some z → Literal o z
literal-at None z e = absurd (cc)
literal-at (Some x) z e = literal-is x z e

pub record Here (k : ℕ) (xs : List Instr) (z : Value) : Type 0 where
  pub enough : k ≤ length xs
  pub literal : Literal (slice_get xs (length xs - k)) z

pub here : (k : ℕ) (xs : List Instr) (z : Value) → literal_before k xs ≡ Some z → Here k xs z
here k xs z e = by (nat_le k (length xs)) refl e
  where
    by : (b : Bool) → nat_le k (length xs) ≡ b → cond b (literal_in (slice_get xs (length xs - k))) None ≡ Some z → Here k xs z
    by true t e = record { enough = leb-true k (length xs) t; literal = literal-at (slice_get xs (length xs - k)) z e }
    by false t e = absurd (cc)

-- the last instruction
pub last-at : (xs : List Instr) (x : Instr) → slice_get xs (length xs - 1) ≡ Some x → xs ≡ take (length xs - 1) xs ++ x ∷ []
last-at xs x at =
    let n = length xs - 1 in
    let e : length xs ≤ suc n = omega arith in
    sym (take-append-drop n xs) ∙ ap (λ (l : List Instr). take n xs ++ l) (drop-at xs n x at
    ∙ ap (λ (l : List Instr). x ∷ l) (drop_of_length-le xs e))

-- which is a literal
pub last-is : (xs : List Instr) (z : Value) (h : Here 1 xs z) → xs ≡ take (length xs - 1) xs ++ i.Put z ∷ []
last-is xs z h = last-at xs (i.Put z) h.literal.is

-- and the one before it
pub two-are : (xs : List Instr) (y z : Value) (g : Here 2 xs y) (h : Here 1 xs z) → xs ≡ take (length xs - 2) xs ++ i.Put y ∷ i.Put z ∷ []
two-are xs y z g h =
    let n = length xs - 2 in
    let m : suc n ≡ length xs - 1 = omega (arith, g.enough) in
    let e : length xs ≤ suc (suc n) = omega arith in
    let at : slice_get xs (suc n) ≡ Some (i.Put z) = ap (λ (k : ℕ). slice_get xs k) m ∙ h.literal.is in
    sym (take-append-drop n xs)
    ∙ ap (λ (l : List Instr). take n xs ++ l)
    (drop-at xs n (i.Put y) g.literal.is ∙ ap (λ (l : List Instr). i.Put y ∷ l)
    (drop-at xs (suc n) (i.Put z) at ∙ ap (λ (l : List Instr). i.Put z ∷ l) (drop_of_length-le xs e)))

-- ---- one instruction more

pub adds-push : (xs : List Instr) (x : Instr) → Fresh xs x → Adds xs x (xs ++ x ∷ [])
adds-push xs x f = record { better = betters-self (xs ++ x ∷ []); varies = λ v. vary-push xs x v f }

pub adds-binary : (xs : List Instr) (op : BinOp) (y z : Value) → literal_before 2 xs ≡ Some y → literal_before 1 xs ≡ Some z
    → Adds xs (i.Binary op) (take (length xs - 2) xs ++ i.Put (Int (binary_value op (number_of y) (number_of z))) ∷ [])
adds-binary xs op y z e f =
    let front = take (length xs - 2) xs in
    let c = i.Put (Int (binary_value op (number_of y) (number_of z))) in
    let whole : front ++ (i.Put y ∷ i.Put z ∷ i.Binary op ∷ []) ≡ xs ++ i.Binary op ∷ [] =
    sym (append_assoc front (i.Put y ∷ i.Put z ∷ []) (i.Binary op ∷ []))
    ∙ ap (λ (l : List Instr). l ++ i.Binary op ∷ []) (sym (two-are xs y z (here 2 xs y e) (here 1 xs z f))) in
    record {
      better = subst (λ (l : List Instr). Betters l (front ++ c ∷ [])) whole (betters-behind front _ _ (binary-folds op y z));
      varies = λ v. vary-push front c (vary-take (length xs - 2) xs v) tt;
    }

pub adds-unary : (xs : List Instr) (op : UnOp) (z : Value) → literal_before 1 xs ≡ Some z
    → Adds xs (i.Unary op) (take (length xs - 1) xs ++ i.Put (Int (unary_value op (number_of z))) ∷ [])
adds-unary xs op z e =
    let front = take (length xs - 1) xs in
    let c = i.Put (Int (unary_value op (number_of z))) in
    let whole : front ++ (i.Put z ∷ i.Unary op ∷ []) ≡ xs ++ i.Unary op ∷ [] =
    sym (append_assoc front (i.Put z ∷ []) (i.Unary op ∷ [])) ∙ ap (λ (l : List Instr). l ++ i.Unary op ∷ []) (sym (last-is xs z (here 1 xs z e))) in
    record {
      better = subst (λ (l : List Instr). Betters l (front ++ c ∷ [])) whole (betters-behind front _ _ (unary-folds op z));
      varies = λ v. vary-push front c (vary-take (length xs - 1) xs v) tt;
    }

pub adds-truth : (xs : List Instr) (z : Value) → literal_before 1 xs ≡ Some z
    → Adds xs i.Truth (take (length xs - 1) xs ++ i.Put (Int (truth (holds (number_of z)))) ∷ [])
adds-truth xs z e =
    let front = take (length xs - 1) xs in
    let c = i.Put (Int (truth (holds (number_of z)))) in
    let whole : front ++ (i.Put z ∷ i.Truth ∷ []) ≡ xs ++ i.Truth ∷ [] =
    sym (append_assoc front (i.Put z ∷ []) (i.Truth ∷ [])) ∙ ap (λ (l : List Instr). l ++ i.Truth ∷ []) (sym (last-is xs z (here 1 xs z e))) in
    record {
      better = subst (λ (l : List Instr). Betters l (front ++ c ∷ [])) whole (betters-behind front _ _ (truth-folds z));
      varies = λ v. vary-push front c (vary-take (length xs - 1) xs v) tt;
    }

pub adds-pop : (xs : List Instr) (z : Value) → literal_before 1 xs ≡ Some z → Adds xs i.Pop (take (length xs - 1) xs)
adds-pop xs z e =
    let front = take (length xs - 1) xs in
    let whole : front ++ (i.Put z ∷ i.Pop ∷ []) ≡ xs ++ i.Pop ∷ [] =
    sym (append_assoc front (i.Put z ∷ []) (i.Pop ∷ [])) ∙ ap (λ (l : List Instr). l ++ i.Pop ∷ []) (sym (last-is xs z (here 1 xs z e))) in
    record {
      better = subst (λ (l : List Instr). Betters l front) whole
          (subst (λ (l : List Instr). Betters (front ++ (i.Put z ∷ i.Pop ∷ [])) l) (append-nil front) (betters-behind front _ _ (pop-folds z)));
      varies = λ v. vary-take (length xs - 1) xs v;
    }

-- any other instruction
pub adds-other : (xs : List Instr) (x : Instr) → ((op : BinOp) → x ≢ i.Binary op) → ((op : UnOp) → x ≢ i.Unary op) → Adds xs x (xs ++ x ∷ [])
adds-other xs x no_binary no_unary = adds-push xs x (fresh x no_binary no_unary)
  where
    fresh : (x : Instr) → ((op : BinOp) → x ≢ i.Binary op) → ((op : UnOp) → x ≢ i.Unary op) → Fresh xs x
    fresh (i.Binary op) no_binary no_unary = absurd (no_binary op refl)
    fresh (i.Unary op) no_binary no_unary = absurd (no_unary op refl)
    fresh (i.Put v) no_binary no_unary = tt
    fresh (i.Builtin b) no_binary no_unary = tt
    fresh i.Comm no_binary no_unary = tt
    fresh (i.NumberField f) no_binary no_unary = tt
    fresh (i.TextField f) no_binary no_unary = tt
    fresh (i.Load x shape) no_binary no_unary = tt
    fresh (i.Store x shape) no_binary no_unary = tt
    fresh (i.StepVar x plus prefix) no_binary no_unary = tt
    fresh (i.UpdateVar x op) no_binary no_unary = tt
    fresh (i.Compare equal) no_binary no_unary = tt
    fresh i.Truth no_binary no_unary = tt
    fresh (i.Get m key shape) no_binary no_unary = tt
    fresh (i.ReadAgg m key) no_binary no_unary = tt
    fresh (i.Set m key shape) no_binary no_unary = tt
    fresh (i.Delete m key) no_binary no_unary = tt
    fresh (i.Update m key op) no_binary no_unary = tt
    fresh (i.StepMap m key plus prefix) no_binary no_unary = tt
    fresh (i.Add m key) no_binary no_unary = tt
    fresh (i.Count m key) no_binary no_unary = tt
    fresh (i.Printf format shapes) no_binary no_unary = tt
    fresh (i.Print m top div) no_binary no_unary = tt
    fresh (i.Clear m) no_binary no_unary = tt
    fresh (i.Zero m) no_binary no_unary = tt
    fresh (i.Cut line) no_binary no_unary = tt
    fresh i.Stop no_binary no_unary = tt
    fresh i.Pop no_binary no_unary = tt
