-- Floors that are told by the stamps.
use Rattle.std.proofs.Common.{◌≡◌, ℕ, suc, ◌+◌, ◌<◌, ◌≤◌, ◌==◌, nat_lt, Bool, true, cond, List, [], ◌∷◌, ◌++◌, length, refl, sym, ap, ◌∙◌, subst, arith, length-append, eq-eqb, ne_eqb}
use Rattle.std.proofs.lemmas.Bool.{and_from, and_parts}
use Rattle.std.proofs.lemmas.Bool.Decides.{nat_tests}
use Rattle.bt_core.specs.declared.step.Step.{Step}
use Rattle.stamped.specs.declared.raised.Raised.{Raised}
use Rattle.stamped.specs.Floors.{raised_at, floors_told, last_stamp, is_all_before}

below : (a b : ℕ) → nat_lt a b ≡ true → a < b
below a b e = grind (arith, nat_tests)

later : (a n m : ℕ) → n ≤ m → nat_lt a n ≡ true → nat_lt a m ≡ true
later a n m le e = grind (arith, nat_tests)

-- behind all that are there nothing is raised
none_at : (rs : List Raised) (n k d : ℕ) → n ≤ k → is_all_before n rs ≡ true → raised_at rs k d ≡ d
none_at [] n k d le h = refl
none_at (r ∷ rs) n k d le h = let p = and_parts (nat_lt r.place n) (is_all_before n rs) h in let lt = below r.place n p.0 in
    ap (λ (b : Bool). raised_at rs k (cond b r.clock d)) (ne_eqb r.place k (omega (arith, lt))) ∙ none_at rs n k d le p.1

at_snoc : (rs : List Raised) (r : Raised) (k d : ℕ) → raised_at (rs ++ r ∷ []) k d ≡ cond (r.place == k) r.clock (raised_at rs k d)
at_snoc [] r k d = refl
at_snoc (q ∷ rs) r k d = at_snoc rs r k (cond (q.place == k) q.clock d)

before_snoc : (rs : List Raised) (r : Raised) (n m : ℕ) → n ≤ m → r.place < m → is_all_before n rs ≡ true → is_all_before m (rs ++ r ∷ []) ≡ true
before_snoc [] r n m le lt h = and_from (nat_lt r.place m) true (grind (arith, nat_tests)) refl
before_snoc (q ∷ rs) r n m le lt h = let p = and_parts (nat_lt q.place n) (is_all_before n rs) h in
    and_from (nat_lt q.place m) (is_all_before m (rs ++ r ∷ [])) (later q.place n m le p.0) (before_snoc rs r n m le lt p.1)

before_later : (rs : List Raised) (n m : ℕ) → n ≤ m → is_all_before n rs ≡ true → is_all_before m rs ≡ true
before_later [] n m le h = refl
before_later (q ∷ rs) n m le h = let p = and_parts (nat_lt q.place n) (is_all_before n rs) h in
    and_from (nat_lt q.place m) (is_all_before m rs) (later q.place n m le p.0) (before_later rs n m le p.1)

-- a clock that is raised behind these steps changes none of theirs
not_theirs : (ss : List Step) (k last : ℕ) (rs : List Raised) (r : Raised) → k + length ss ≤ r.place → floors_told k last ss (rs ++ r ∷ []) ≡ floors_told k last ss rs
not_theirs [] k last rs r le = refl
not_theirs (s ∷ ss) k last rs r le = λ i.
    (at_snoc rs r k last ∙ ap (λ (b : Bool). cond b r.clock (raised_at rs k last)) (ne_eqb r.place k (omega (arith, le)))) i
    ∷ not_theirs ss (suc k) s.stamp rs r (omega (arith, le)) i

floors_snoc : (ss : List Step) (s : Step) (k last : ℕ) (rs : List Raised) (n : ℕ) → n ≡ k + length ss
    → floors_told k last (ss ++ s ∷ []) rs ≡ floors_told k last ss rs ++ raised_at rs n (last_stamp last ss) ∷ []
floors_snoc [] s k last rs n e = ap (λ (j : ℕ). raised_at rs j last ∷ []) (let h : k ≡ n = omega (arith, e) in h)
floors_snoc (x ∷ xs) s k last rs n e = ap (λ (l : List ℕ). raised_at rs k last ∷ l) (floors_snoc xs s (suc k) x.stamp rs n (omega (arith, e)))

pub told_length : (ss : List Step) (k last : ℕ) (rs : List Raised) → length (floors_told k last ss rs) ≡ length ss
told_length [] k last rs = refl
told_length (s ∷ ss) k last rs = ap suc (told_length ss (suc k) s.stamp rs)

pub last_stamp-snoc : (ss : List Step) (s : Step) (last : ℕ) → last_stamp last (ss ++ s ∷ []) ≡ s.stamp
last_stamp-snoc [] s last = refl
last_stamp-snoc (x ∷ xs) s last = last_stamp-snoc xs s x.stamp

module _ (rs : List Raised) (n stood clock : ℕ) where
  pub noted : (news : List Raised) (r : Raised) → r.place ≡ n → r.clock ≡ clock → news ≡ rs ++ r ∷ [] → (ss : List Step) (s : Step) → length ss ≡ n
      → floors_told 0 0 (ss ++ s ∷ []) news ≡ floors_told 0 0 ss rs ++ clock ∷ []
  noted news r e f g ss s l = ap (floors_told 0 0 (ss ++ s ∷ [])) g ∙ (floors_snoc ss s 0 0 (rs ++ r ∷ []) n (omega (arith, l))
      ∙ (λ i. not_theirs ss 0 0 rs r (omega (arith, l, e)) i
      ++ (at_snoc rs r n (last_stamp 0 ss) ∙ (ap (λ (b : Bool). cond b r.clock (raised_at rs n (last_stamp 0 ss))) (eq-eqb r.place n e) ∙ f)) i ∷ []))

  pub not_noted : clock ≡ stood → (ss : List Step) (s : Step) → length ss ≡ n → last_stamp 0 ss ≡ stood → is_all_before n rs ≡ true
      → floors_told 0 0 (ss ++ s ∷ []) rs ≡ floors_told 0 0 ss rs ++ clock ∷ []
  not_noted c ss s l t h = floors_snoc ss s 0 0 rs n (omega (arith, l)) ∙ ap (λ (d : ℕ). floors_told 0 0 ss rs ++ d ∷ [])
      (none_at rs n n (last_stamp 0 ss) (omega arith) h ∙ (t ∙ sym c))

  pub noted_before : (news : List Raised) (r : Raised) → r.place ≡ n → news ≡ rs ++ r ∷ [] → is_all_before n rs ≡ true → is_all_before (n + 1) news ≡ true
  noted_before news r e g h = ap (is_all_before (n + 1)) g ∙ before_snoc rs r n (n + 1) (omega arith) (omega (arith, e)) h

  pub not_noted_before : is_all_before n rs ≡ true → is_all_before (n + 1) rs ≡ true
  not_noted_before h = before_later rs n (n + 1) (omega arith) h

-- with one step more, as the call that notes it says
module _ (ss news : List Step) (rs noted_now : List Raised) (s : Step) (n stood clock : ℕ) (e : news ≡ ss ++ s ∷ []) (l : n ≡ length ss) (t : stood ≡ last_stamp 0 ss)
    (b : is_all_before (length ss) rs ≡ true) where
  pub floors_grew : ((ss : List Step) (s : Step) → length ss ≡ n → last_stamp 0 ss ≡ stood → is_all_before n rs ≡ true
      → floors_told 0 0 (ss ++ s ∷ []) noted_now ≡ floors_told 0 0 ss rs ++ clock ∷ []) → floors_told 0 0 news noted_now ≡ floors_told 0 0 ss rs ++ clock ∷ []
  floors_grew f = ap (λ (z : List Step). floors_told 0 0 z noted_now) e ∙ f ss s (sym l) (sym t) (subst (λ (k : ℕ). is_all_before k rs ≡ true) (sym l) b)

  pub before_grew : (is_all_before n rs ≡ true → is_all_before (n + 1) noted_now ≡ true) → is_all_before (length news) noted_now ≡ true
  before_grew f = let k : n + 1 ≡ length news = l1 ∙ ap length (sym e) in subst (λ (k : ℕ). is_all_before k noted_now ≡ true) k (f (subst (λ (k : ℕ). is_all_before k rs ≡ true) (sym l) b))
    where
      l1 : n + 1 ≡ length (ss ++ s ∷ [])
      l1 = omega (arith, l, length-append ss (s ∷ []))

  pub stood_now : s.stamp ≡ last_stamp 0 news
  stood_now = sym (ap (last_stamp 0) e ∙ last_stamp-snoc ss s 0)
