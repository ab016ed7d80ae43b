-- What stands in the tables where each actor only adds at its own.
use Rattle.std.proofs.Common.{◌≡◌, ◌⊎◌, ℕ, ℤ, ◌≤◌, ◌==◌, Bool, true, false, cond, List, [], ◌∷◌, ◌++◌, map, refl, sym, ap, ◌∙◌, subst, inl, inr, eq-eqb, append_assoc, append-nil}
use Rattle.std.proofs.lemmas.List.{reverse-append}
use Rattle.std.specs.List.{AllByRecursion}
use Rattle.bt_core.specs.declared.map.MapId.{MapId}
use Rattle.bt_core.specs.declared.step.ObjectId.{ObjectId}
use Rattle.bt_core.specs.declared.step.ObjectId.TheVariants.{Cpu, Clock}
use Rattle.bt_core.specs.declared.step.Op.{Op}
use Rattle.bt_core.specs.declared.step.Op.TheVariants.{Get, Set, Delete, Clear, Zero, ReadAll, Add, ClearOf, ZeroOf, Read, Cross, Check, Stop, Emit}
use Rattle.bt_core.specs.declared.step.Step.{Step}
use Rattle.bt_core.specs.Interaction.{Call, call_of}
use Rattle.bt_core.specs.Steps.{is_of, of_actor, is_on, is_same_object, on_object, operations}
use Rattle.agg_core.specs.Answers.{back, table_change}
use Rattle.agg_core.specs.Changes.{Change, Puts, Removes, Clears, Zeroes, Leaves}
use Rattle.bt_meaning.specs.Totals.{Addition, added}
use Rattle.bt_meaning.proofs.Eachs.{each_so, each_kept}
use Rattle.total_laws.specs.Ends.{entries_in}
use Rattle.total_laws.proofs.Adding.{is_plain, IsPlain}
use Rattle.total_laws.proofs.PutLaws.{OnlyPuts, put_by, all_put}

-- a step of a program is plain or crosses a tick
abbrev pub IsOwn : ℕ → Step → Type 0
IsOwn a s = IsPlain a (call_of s) ⊎ ((k : ℕ) × (call_of s ≡ record { object = Clock; op = Cross k }))

-- what holds of each actor's steps holds of all
pub each_actor : (P : ℕ → Step → Type 0) (n : ℕ) (steps : List Step) → AllByRecursion (λ s. s.actor ≤ n) steps → ((a : ℕ) → a ≤ n → AllByRecursion (P a) (of_actor a steps)) → AllByRecursion (λ s. P s.actor s) steps
each_actor P n [] le f = tt
each_actor P n (s ∷ ss) le f = (
  (let here : AllByRecursion (P s.actor) (s ∷ of_actor s.actor ss) = subst (λ (b : Bool). AllByRecursion (P s.actor) (cond b (s ∷ of_actor s.actor ss) (of_actor s.actor ss))) (eq-eqb s.actor s.actor refl) (f s.actor le.0) in here.0),
  each_actor P n ss le.1 (λ a l. later (is_of a s) a (f a l)),
)
  where
    later : (b : Bool) (a : ℕ) → AllByRecursion (P a) (cond b (s ∷ of_actor a ss) (of_actor a ss)) → AllByRecursion (P a) (of_actor a ss)
    later true a e = e.1
    later false a e = e

append_puts : (xs ys : List (Change ℤ)) → OnlyPuts xs → OnlyPuts ys → OnlyPuts (xs ++ ys)
append_puts [] ys p q = q
append_puts (Puts k v ∷ xs) ys p q = append_puts xs ys p q
append_puts (Leaves ∷ xs) ys p q = append_puts xs ys p q
append_puts (Removes k ∷ xs) ys p q = absurd p
append_puts (Clears ∷ xs) ys p q = absurd p
append_puts (Zeroes ∷ xs) ys p q = absurd p

all_put-append : (xs ys : List (Change ℤ)) → all_put (xs ++ ys) ≡ all_put ys ++ all_put xs
all_put-append [] ys = sym (append-nil (all_put ys))
all_put-append (x ∷ xs) ys = ap (λ (l : List Addition). l ++ put_by x) (all_put-append xs ys) ∙ append_assoc (all_put ys) (all_put xs) (put_by x)

module _ (m : MapId) where
  -- the operation puts into the table of the map or leaves it
  abbrev pub Puts_or_leaves : Op → Type 0
  Puts_or_leaves op = OnlyPuts (table_change m op ∷ [])

  -- an operation that adds stands at the actor's own tables
  abbrev pub Fits : ℕ → ObjectId → Op → Type 0
  Fits a object op = Puts_or_leaves op × ((added m op ≡ []) ⊎ (object ≡ Cpu a))

  plain_fits : (a : ℕ) (object : ObjectId) (op : Op) → is_plain a object op → Fits a object op
  plain_fits a object (Add n key number) p =
      (elim (m.0 == n.0) as (λ t. OnlyPuts (cond t (Puts key number) Leaves ∷ [])) [ true ↦ tt | false ↦ tt ], inr p)
  plain_fits a object (Read n) p = (tt, inl refl)
  plain_fits a object ReadAll p = (tt, inl refl)
  plain_fits a object (Emit item) p = (tt, inl refl)
  plain_fits a object (Get j) p = absurd p
  plain_fits a object (Set j v) p = absurd p
  plain_fits a object (Delete j) p = absurd p
  plain_fits a object Clear p = absurd p
  plain_fits a object Zero p = absurd p
  plain_fits a object (ClearOf n) p = absurd p
  plain_fits a object (ZeroOf n) p = absurd p
  plain_fits a object (Cross j) p = absurd p
  plain_fits a object Check p = absurd p
  plain_fits a object Stop p = absurd p

  abbrev pub FitsStep : ℕ → Step → Type 0
  FitsStep a s = Fits a s.object s.op

  abbrev fits_call : ℕ → Call → Type 0
  fits_call a c = Fits a c.object c.op

  pub own_fits : (a : ℕ) (s : Step) → IsOwn a s → FitsStep a s
  own_fits a s (inl p) = plain_fits a s.object s.op p
  own_fits a s (inr q) = let k = q.0 in let at : Call = record { object = Clock; op = Cross k } in let there : fits_call a at = (tt, inl refl) in subst (fits_call a) (sym q.1) there

  put_is : (op : Op) → put_by (table_change m op) ≡ added m op
  put_is (Add n k number) = elim (m.0 == n.0) as (λ t. put_by (cond t (Puts k number) Leaves) ≡ cond t ((k, number) ∷ []) []) [ true ↦ refl | false ↦ refl ]
  put_is (ClearOf n) = elim (m.0 == n.0) as (λ t. put_by (cond t Clears Leaves) ≡ []) [ true ↦ refl | false ↦ refl ]
  put_is (ZeroOf n) = elim (m.0 == n.0) as (λ t. put_by (cond t Zeroes Leaves) ≡ []) [ true ↦ refl | false ↦ refl ]
  put_is (Get j) = refl
  put_is (Set j v) = refl
  put_is (Delete j) = refl
  put_is Clear = refl
  put_is Zero = refl
  put_is ReadAll = refl
  put_is (Read n) = refl
  put_is (Cross j) = refl
  put_is Check = refl
  put_is Stop = refl
  put_is (Emit item) = refl

  abbrev changes : List Step → List (Change ℤ)
  changes ss = back (table_change m) (operations ss)

  changes-cons : (s : Step) (ss : List Step) → changes (s ∷ ss) ≡ changes ss ++ table_change m s.op ∷ []
  changes-cons s ss = reverse-append (table_change m s.op ∷ []) (map (table_change m) (operations ss))

  all_puts : (ss : List Step) → AllByRecursion (λ s. Puts_or_leaves s.op) ss → OnlyPuts (changes ss) × (all_put (changes ss) ≡ entries_in m ss)
  all_puts [] e = (tt, refl)
  all_puts (s ∷ ss) e = let rest = all_puts ss e.1 in let more = changes-cons s ss in (
    subst OnlyPuts (sym more) (append_puts (changes ss) (table_change m s.op ∷ []) rest.0 e.0),
    ap all_put more ∙ all_put-append (changes ss) (table_change m s.op ∷ []) ∙ (λ i. put_is s.op i ++ rest.1 i),
  )

  at_home : (a : ℕ) (s : Step) (b c : Bool) (xs ys : List Step) → b ≡ c → entries_in m xs ≡ entries_in m ys → entries_in m (cond b (s ∷ xs) xs) ≡ entries_in m (cond c (s ∷ ys) ys)
  at_home a s b c xs ys e rest = ap (λ (t : Bool). entries_in m (cond t (s ∷ xs) xs)) e ∙ by_test c
    where
      by_test : (t : Bool) → entries_in m (cond t (s ∷ xs) xs) ≡ entries_in m (cond t (s ∷ ys) ys)
      by_test true = ap (λ (l : List Addition). added m s.op ++ l) rest
      by_test false = rest

  adds_none : (s : Step) (b : Bool) (xs : List Step) → added m s.op ≡ [] → entries_in m (cond b (s ∷ xs) xs) ≡ entries_in m xs
  adds_none s true xs e = ap (λ (l : List Addition). l ++ entries_in m xs) e
  adds_none s false xs e = refl

  -- what is added at an actor's tables is what the actor adds
  pub adds_at : (a : ℕ) (steps : List Step) → AllByRecursion (λ s. FitsStep s.actor s) steps → entries_in m (on_object (Cpu a) steps) ≡ entries_in m (of_actor a steps)
  adds_at a [] e = refl
  adds_at a (s ∷ ss) e = elim e.0.1 [
    | inl nothing ↦ adds_none s (is_on (Cpu a) s) (on_object (Cpu a) ss) nothing ∙ adds_at a ss e.1 ∙ sym (adds_none s (is_of a s) (of_actor a ss) nothing)
    | inr home ↦ at_home a s (is_on (Cpu a) s) (is_of a s) (on_object (Cpu a) ss) (of_actor a ss) (ap (λ (o : ObjectId). is_same_object o (Cpu a)) home) (adds_at a ss e.1)
  ]

  -- a table's changes only put, and put what its actor adds
  pub table_puts : (a : ℕ) (steps : List Step) → AllByRecursion (λ s. FitsStep s.actor s) steps → OnlyPuts (back (table_change m) (operations (on_object (Cpu a) steps))) × (all_put (back (table_change m) (operations (on_object (Cpu a) steps))) ≡ entries_in m (of_actor a steps))
  table_puts a steps e = let p = all_puts (on_object (Cpu a) steps) (each_kept (λ s. Puts_or_leaves s.op) (is_on (Cpu a)) steps (each_so (λ s. FitsStep s.actor s) (λ s. Puts_or_leaves s.op) (λ s f. f.0) steps e)) in
      (p.0, p.1 ∙ adds_at a steps e)
