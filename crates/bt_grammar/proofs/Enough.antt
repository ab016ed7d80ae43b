-- Reading ends, and so is one function.
use Rattle.std.proofs.Common.{◌≡◌, ℕ, zero, suc, ◌+◌, ◌*◌, ◌<◌, ◌≤◌, Bool, true, false, List, [], ◌∷◌, ◌++◌, length, refl, sym, ◌∙◌, ap, subst, inl, inr, ◌⊎◌, arith, length-append}
use Rattle.bt_grammar.specs.declared.class.Class.{Class}
use Rattle.bt_grammar.specs.declared.class.Tier.TheVariants.{Products, Sums, Shifts, Orders, Equalities, BitAnds, BitXors, BitOrs, AndThens, OrElses}
use Rattle.bt_grammar.specs.Form.{Item, Part, Primary, Unary, Level, Expression, Values, Keyed, Assignable, Int, Aggregation, Update, AfterMap, AfterVar, Printf, Print, Delete, CallOrJump, Simple, Arm, Tail, Control, Body, Braced, Points, OneProbe, WholeScript, Of, Form, Tok, Empty, Call, Map, Then, Or, Until, Op, Chain, Rel, whole, begins, brace_next}
use Rattle.bt_grammar.specs.Classes.{is}
use Rattle.bt_grammar.specs.Rules.{rule}
use Rattle.bt_grammar.specs.Fine.{FineAt, Led}
use Rattle.bt_grammar.specs.Tables.{width, rank}
use Rattle.bt_grammar.specs.Reading.{reads}
use Rattle.bt_grammar.specs.Grammar.{whole_at, begins_at}
use Rattle.bt_grammar.specs.Tables.{nul, sens_of}
use Rattle.bt_grammar.specs.Reading.{nullable, first, sens, takes, Out, Done, Refused, Unfinished, and_then, Reader, token_at, starts, loop, read, read_at}
use Rattle.bt_grammar.proofs.Sound.{Near, never, Found, Stuck, found, refused, null_sound, cases, token_found}
use Rattle.bt_grammar.proofs.Checked.{fine_rule}
use Rattle.bt_grammar.proofs.Depth.{found_at, refused_at, null_at}

abbrev pub OnFalse : Bool → Type 0 → Type 0
OnFalse true P = P
OnFalse false P = Unit {0}

-- the parts with which it begins have a lower rank
abbrev pub Safe : {A : Type 0} → ℕ → Form A → Type 0
Safe lim (Tok p) = Unit {0}
Safe lim (Empty d) = Unit {0}
Safe lim (Call n) = rank n < lim
Safe lim (Map f P) = Safe lim P
Safe lim (Then f P Q) = Safe lim P × OnFalse (nullable P) (Safe lim Q)
Safe lim (Or P Q) = Safe lim P × Safe lim Q
Safe lim (Until P k) = Safe lim P
Safe lim (Op g Q) = Unit {0}
Safe lim (Chain f P Q) = Safe lim P × OnFalse (nullable P) (Safe lim Q)

pub rank_below : (n : Part) → rank n < width
rank_below Primary = omega arith
rank_below Unary = omega arith
rank_below (Level true Products) = omega arith
rank_below (Level true Sums) = omega arith
rank_below (Level true Shifts) = omega arith
rank_below (Level true Orders) = omega arith
rank_below (Level true Equalities) = omega arith
rank_below (Level true BitAnds) = omega arith
rank_below (Level true BitXors) = omega arith
rank_below (Level true BitOrs) = omega arith
rank_below (Level true AndThens) = omega arith
rank_below (Level true OrElses) = omega arith
rank_below (Level false Products) = omega arith
rank_below (Level false Sums) = omega arith
rank_below (Level false Shifts) = omega arith
rank_below (Level false Orders) = omega arith
rank_below (Level false Equalities) = omega arith
rank_below (Level false BitAnds) = omega arith
rank_below (Level false BitXors) = omega arith
rank_below (Level false BitOrs) = omega arith
rank_below (Level false AndThens) = omega arith
rank_below (Level false OrElses) = omega arith
rank_below (Expression true) = omega arith
rank_below (Expression false) = omega arith
rank_below Values = omega arith
rank_below Keyed = omega arith
rank_below Assignable = omega arith
rank_below Int = omega arith
rank_below Aggregation = omega arith
rank_below Update = omega arith
rank_below AfterMap = omega arith
rank_below AfterVar = omega arith
rank_below Printf = omega arith
rank_below Print = omega arith
rank_below Delete = omega arith
rank_below CallOrJump = omega arith
rank_below Simple = omega arith
rank_below Arm = omega arith
rank_below Tail = omega arith
rank_below Control = omega arith
rank_below Body = omega arith
rank_below Braced = omega arith
rank_below Points = omega arith
rank_below OneProbe = omega arith
rank_below WholeScript = omega arith

pub on_false : (b : Bool) (P : Type 0) → P → OnFalse b P
on_false true P p = p
on_false false P p = tt

pub safe_all : {A : Type 0} (P : Form A) → Safe width P
safe_all (Tok p) = tt
safe_all (Empty d) = tt
safe_all (Call n) = rank_below n
safe_all (Map f P) = safe_all P
safe_all (Then f P Q) = (safe_all P, on_false (nullable P) (Safe width Q) (safe_all Q))
safe_all (Or P Q) = (safe_all P, safe_all Q)
safe_all (Until P k) = safe_all P
safe_all (Op g Q) = tt
safe_all (Chain f P Q) = (safe_all P, on_false (nullable P) (Safe width Q) (safe_all Q))

pub record Halves {A B : Type 0} (o : Out A) (f : A → List Item → Out B) : Type 0 where
  pub a : A
  pub r : List Item
  pub front : o ≡ Done a r
  pub back : f a r ≡ Unfinished

pub unfinished : {A B : Type 0} (o : Out A) (f : A → List Item → Out B) → and_then o f ≡ Unfinished → (o ≡ Unfinished) ⊎ Halves o f
unfinished (Done a r) f e = inr (record { a = a; r = r; front = refl; back = e })
unfinished (Refused r) f e = cc
unfinished Unfinished f e = inl refl

pub token_finished : (p : Class → Bool → Bool) (ts : List Item) → token_at p ts ≡ Unfinished → ⊥
token_finished p [] e = cc
token_finished p (t ∷ ts) e = elim (cases (p t.class (brace_next ts))) [
  | inl h ↦ (let d : Done t ts ≡ Unfinished = rw h at e in cc)
  | inr h ↦ (let d : ◌≡◌ {A = Out Item} (Refused (t ∷ ts)) Unfinished = rw h at e in cc)
]

pub not_nil : (xs : List Item) → (xs ≡ [] → ⊥) → 0 < length xs
not_nil [] h = absurd (h refl)
not_nil (x ∷ xs) h = omega arith

module _ (W : Rel) (Wnull : (n : Part) (a : Of n) → W n [] a → nul n ≡ true) (R : Reader)
    (Rfound : (n : Part) (ts : List Item) (a : Of n) (r : List Item) → R n ts ≡ Done a r → Found (sens_of n) (R n) (W n) ts a r)
    (limit : ℕ) (Rends : (n : Part) (ts : List Item) → width * length ts + rank n < limit → R n ts ≡ Unfinished → ⊥) where
  ends_loop : {A B : Type 0} (f : A → B → A) (Q : Form B) → FineAt true Q → nullable Q ≡ false → (lim : ℕ)
      → ((ts : List Item) → width * length ts + lim ≤ limit → read R Q ts ≡ Unfinished → ⊥)
      → (k : ℕ) (a : A) (ts : List Item) → length ts < k → width * length ts + lim ≤ limit → loop f (first Q) (read R Q) k a ts ≡ Unfinished → ⊥
  ends_loop f Q ok n lim q zero a ts fits bound e = absurd (omega arith)
  ends_loop {A = A} {B = X} f Q ok n lim q (suc k) a ts fits bound e = elim (cases (starts (first Q) ts)) [
    | inr h ↦ (let d : ◌≡◌ {A = Out A} (Done a ts) Unfinished = rw h at e in cc)
    | inl h ↦ (let e' : and_then (read R Q ts) (λ b r. loop f (first Q) (read R Q) k (f a b) r) ≡ Unfinished = rw h at e in
        elim (unfinished (read R Q ts) _ e') [
          | inl u ↦ q ts bound u
          | inr m ↦ (let i : Found (sens Q) (read R Q) (whole W Q) ts m.a m.r = found W Wnull R R Rfound true Q ok ts m.a m.r m.front in
              let some : 0 < length i.xs = not_nil i.xs (λ z. let h : nullable Q ≡ true = null_sound W Wnull Q m.a (subst (λ x. whole W Q x m.a) z i.whole) in cc (h, n)) in
              let len : length ts ≡ length i.xs + length m.r = ap length i.is ∙ length-append i.xs m.r in
              ends_loop f Q ok n lim q k (f a m.a) m.r (omega arith) (omega arith) m.back)
        ])
  ]

  pub ends : {A : Type 0} (link : Bool) (P : Form A) → FineAt link P → (lim : ℕ) → lim ≤ width → Safe lim P → (ts : List Item) → width * length ts + lim ≤ limit → read R P ts ≡ Unfinished → ⊥
  ends link (Tok p) ok lim small safe ts bound e = token_finished (λ c _. p c) ts e
  ends link (Empty d) ok lim small safe ts bound e = cc
  ends link (Call n) ok lim small safe ts bound e = Rends n ts (omega arith) e
  ends link (Map f P) ok lim small safe ts bound e = elim (unfinished (read R P ts) _ e) [
    | inl u ↦ ends false P ok lim small safe ts bound u
    | inr m ↦ cc (m.back)
  ]
  ends link (Then f P Q) ok lim small safe ts bound e = elim (unfinished (read R P ts) _ e) [
    | inl u ↦ ends false P ok.0 lim small safe.0 ts bound u
    | inr m ↦ elim (unfinished (read R Q m.r) _ m.back) [
      | inr n ↦ cc (n.back)
      | inl u ↦ (let i : Found (sens P) (read R P) (whole W P) ts m.a m.r = found W Wnull R R Rfound false P ok.0 ts m.a m.r m.front in
          let len : length ts ≡ length i.xs + length m.r = ap length i.is ∙ length-append i.xs m.r in
          elim (cases (nullable P)) [
            | inl h ↦ ends false Q ok.1 lim small (rw h at safe.1) m.r (omega arith) u
            | inr h ↦ (let some : 0 < length i.xs = not_nil i.xs (λ z. let h' : nullable P ≡ true = null_sound W Wnull P m.a (subst (λ x. whole W P x m.a) z i.whole) in cc (h, h')) in
                ends false Q ok.1 width (omega arith) (safe_all Q) m.r (omega arith) u)
          ])
    ]
  ]
  ends link (Or P Q) ok lim small safe ts bound e = elim (cases (starts (first P) ts)) [
    | inl h ↦ ends false P ok.0 lim small safe.0 ts bound (rw h at e)
    | inr h ↦ ends false Q ok.1 lim small safe.1 ts bound (rw h at e)
  ]
  ends link (Until P k) ok lim small safe ts bound e = elim (unfinished (read R P ts) _ e) [
    | inl u ↦ ends false P ok.0 lim small safe ts bound u
    | inr m ↦ elim (unfinished (token_at (λ c _. is k c) m.r) _ m.back) [ inl u ↦ token_finished (λ c _. is k c) m.r u | inr n ↦ cc (n.back) ]
  ]
  ends link (Op g Q) ok lim small safe ts bound e = elim (unfinished (token_at g ts) _ e) [
    | inl u ↦ token_finished g ts u
    | inr m ↦ elim (unfinished (read R Q m.r) _ m.back) [
      | inr n ↦ cc (n.back)
      | inl u ↦ (let i : Found never (token_at g) (λ xs t. (xs ≡ t ∷ []) × (g t.class (brace_next m.r) ≡ true)) ts m.a m.r = token_found never g ts m.a m.r m.front in
          let len : length ts ≡ length i.xs + length m.r = ap length i.is ∙ length-append i.xs m.r in
          let one : length i.xs ≡ 1 = ap length i.whole.0 in
          ends false Q ok.0 width (omega arith) (safe_all Q) m.r (omega arith) u)
    ]
  ]
  ends link (Chain f P Q) ok lim small safe ts bound e = elim (unfinished (read R P ts) _ e) [
    | inl u ↦ ends false P ok.0 lim small safe.0 ts bound u
    | inr m ↦ (let i : Found (sens P) (read R P) (whole W P) ts m.a m.r = found W Wnull R R Rfound false P ok.0 ts m.a m.r m.front in
        let len : length ts ≡ length i.xs + length m.r = ap length i.is ∙ length-append i.xs m.r in
        elim (cases (nullable P)) [
          | inl h ↦ ends_loop f Q ok.1 ok.2 lim (ends true Q ok.1 lim small (rw h at safe.1)) (suc (length m.r)) m.a m.r (omega arith) (omega arith) m.back
          | inr h ↦ (let some : 0 < length i.xs = not_nil i.xs (λ z. let h' : nullable P ≡ true = null_sound W Wnull P m.a (subst (λ x. whole W P x m.a) z i.whole) in cc (h, h')) in
              ends_loop f Q ok.1 ok.2 width (ends true Q ok.1 width (omega arith) (safe_all Q)) (suc (length m.r)) m.a m.r (omega arith) (omega arith) m.back)
        ])
  ]

pub safe_rule : (n : Part) → Safe (rank n) (rule n)
safe_rule Primary = (tt, (tt, (tt, ((tt, tt), ((tt, tt), ((tt, tt), ((omega arith, tt), (tt, tt))))))))
safe_rule Unary = ((tt, tt), omega arith)
safe_rule (Level true Products) = (omega arith, tt)
safe_rule (Level false Products) = (omega arith, tt)
safe_rule (Level true Sums) = (omega arith, tt)
safe_rule (Level false Sums) = (omega arith, tt)
safe_rule (Level true Shifts) = (omega arith, tt)
safe_rule (Level false Shifts) = (omega arith, tt)
safe_rule (Level true Orders) = (omega arith, tt)
safe_rule (Level false Orders) = (omega arith, tt)
safe_rule (Level true Equalities) = (omega arith, tt)
safe_rule (Level false Equalities) = (omega arith, tt)
safe_rule (Level true BitAnds) = (omega arith, tt)
safe_rule (Level false BitAnds) = (omega arith, tt)
safe_rule (Level true BitXors) = (omega arith, tt)
safe_rule (Level false BitXors) = (omega arith, tt)
safe_rule (Level true BitOrs) = (omega arith, tt)
safe_rule (Level false BitOrs) = (omega arith, tt)
safe_rule (Level true AndThens) = (omega arith, tt)
safe_rule (Level false AndThens) = (omega arith, tt)
safe_rule (Level true OrElses) = (omega arith, tt)
safe_rule (Level false OrElses) = (omega arith, tt)
safe_rule (Expression true) = (omega arith, tt)
safe_rule (Expression false) = (omega arith, tt)
safe_rule Values = (omega arith, tt)
safe_rule Keyed = (tt, tt)
safe_rule Assignable = (omega arith, tt)
safe_rule Int = (tt, (tt, tt))
safe_rule Aggregation = ((tt, tt), ((tt, tt), (tt, tt)))
safe_rule Update = ((tt, tt), tt)
safe_rule AfterMap = ((tt, tt), omega arith)
safe_rule AfterVar = ((tt, tt), omega arith)
safe_rule Printf = (tt, tt)
safe_rule Print = (tt, tt)
safe_rule Delete = (tt, tt)
safe_rule CallOrJump = ((tt, tt), ((tt, tt), ((tt, tt), ((tt, tt), ((tt, tt), ((tt, tt), (tt, (tt, tt))))))))
safe_rule Simple = ((omega arith, tt), ((tt, tt), ((tt, tt), omega arith)))
safe_rule Arm = ((tt, tt), tt)
safe_rule Tail = ((tt, tt), tt)
safe_rule Control = ((tt, tt), ((tt, tt), (tt, tt)))
safe_rule Body = (tt, ((omega arith, tt), (omega arith, tt)))
safe_rule Braced = (tt, tt)
safe_rule Points = (tt, tt)
safe_rule OneProbe = (omega arith, tt)
safe_rule WholeScript = (omega arith, tt)

pub ends_at : (d : ℕ) (n : Part) (ts : List Item) → width * length ts + rank n < d → read_at d n ts ≡ Unfinished → ⊥
ends_at zero n ts bound e = absurd (omega arith)
ends_at (suc d) n ts bound e =
    let below : rank n < width = rank_below n in
    ends (whole_at d) (null_at d) (read_at d) (found_at d d (omega arith)) d (ends_at d) false (rule n) (fine_rule n) (rank n) (omega arith) (safe_rule n) ts (omega arith) e

-- ---- one function

pub Same-refl : (s : Class → Bool) (r : List Item) → Near s r r
Same-refl s [] = refl
Same-refl s (t ∷ r) = (r, refl, λ _. refl)

pub same_outcome : (d m : ℕ) → d ≤ m → (n : Part) (ts : List Item) (o : Out (Of n)) → read_at d n ts ≡ o → (o ≡ Unfinished → ⊥) → read_at m n ts ≡ o
same_outcome d m le n ts (Done a r) e ended =
    let f : Found (sens_of n) (read_at m n) (whole_at d n) ts a r = found_at d m le n ts a r e in rw f.is (f.again r (Same-refl _ r))
same_outcome d m le n ts (Refused r) e ended =
    let f : Stuck false never ⊥ (λ _ _. false) (read_at m n) (begins_at d n) ts r = refused_at d m le n ts r e in rw f.is (f.again r (Same-refl _ r) (λ x. cc (x)))
same_outcome d m le n ts Unfinished e ended = absurd (ended refl)

pub settled : (d : ℕ) (n : Part) (ts : List Item) (o : Out (Of n)) → read_at d n ts ≡ o → (o ≡ Unfinished → ⊥) → reads n ts ≡ o
unfolding reads
settled d n ts o e ended =
    let k : ℕ = suc (width * length ts + width) in
    let below : rank n < width = rank_below n in
    let m : ℕ = d + k in
    let up : read_at m n ts ≡ o = same_outcome d m (omega arith) n ts o e ended in
    let same : read_at m n ts ≡ read_at k n ts = same_outcome k m (omega arith) n ts (read_at k n ts) refl (ends_at k n ts (omega arith)) in
    sym same ∙ up

pub reads_found : (d : ℕ) (n : Part) (ts : List Item) (a : Of n) (r : List Item) → read_at d n ts ≡ Done a r → Found (sens_of n) (reads n) (whole_at d n) ts a r
reads_found d n ts a r e =
    let f : Found (sens_of n) (read_at d n) (whole_at d n) ts a r = found_at d d (omega arith) n ts a r e in
    record { xs = f.xs; is = f.is; whole = f.whole; again = λ r2 s. settled d n (f.xs ++ r2) (Done a r2) (f.again r2 s) (λ z. cc) }

pub reads_refused : (d : ℕ) (n : Part) (ts r : List Item) → read_at d n ts ≡ Refused r → Stuck false never ⊥ (λ _ _. false) (reads n) (begins_at d n) ts r
reads_refused d n ts r e =
    let f : Stuck false never ⊥ (λ _ _. false) (read_at d n) (begins_at d n) ts r = refused_at d d (omega arith) n ts r e in
    record { xs = f.xs; is = f.is; begun = f.begun; again = λ r2 s _. settled d n (f.xs ++ r2) (Refused r2) (f.again r2 s (λ x. cc (x))) (λ z. cc); moved = λ t z q h. cc (h); led = λ l. absurd l }

read_same : (d : ℕ) (n : Part) (ts : List Item) (o : Out (Of n)) → read (read_at d) (rule n) ts ≡ o → (o ≡ Unfinished → ⊥) → read reads (rule n) ts ≡ o
read_same d n ts (Done a r) e ended =
    let f : Found (sens (rule n)) (read reads (rule n)) (whole (whole_at d) (rule n)) ts a r = found (whole_at d) (null_at d) (read_at d) reads (reads_found d) false (rule n) (fine_rule n) ts a r e in
    rw f.is (f.again r (Same-refl _ r))
read_same d n ts (Refused r) e ended =
    let f : Stuck false (takes (rule n)) (Led (rule n)) (first (rule n)) (read reads (rule n)) (begins (whole_at d) (begins_at d) (rule n)) ts r =
    refused (whole_at d) (null_at d) (read_at d) reads (reads_found d) (begins_at d) (reads_refused d) false (rule n) (fine_rule n) ts r e in
    rw f.is (f.again r (Same-refl _ r) (λ x. cc (x)))
read_same d n ts Unfinished e ended = absurd (ended refl)

-- A part is read as its rule says.
pub reads_is : (n : Part) (ts : List Item) → reads n ts ≡ read reads (rule n) ts
unfolding reads
reads_is n ts =
    let below : rank n < width = rank_below n in
    sym (read_same (width * length ts + width) n ts (reads n ts) refl (ends_at (suc (width * length ts + width)) n ts (omega arith)))
