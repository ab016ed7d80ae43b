-- Tables to which ways are added.
use Rattle.std.proofs.Common.{◌≡◌, ◌≢◌, ℕ, zero, suc, ◌+◌, ◌<◌, ◌≤◌, List, [], ◌∷◌, length, refl, sym, ap, ◌∙◌, subst, arith, Option, Some, None, Bool, true, false, inl, inr, length-set}
use Rattle.std.specs.Prelude.{◌⊎◌, slice_set}
use Rattle.std.proofs.lemmas.Bool.{cases_eq}
use Rattle.std.proofs.lemmas.List.{get_or-set_same, get_or-set_other}
use Rattle.bpf_insn.specs.declared.insn.Insn.{Insn}
use Rattle.bpf_check.specs.declared.known.Seen.{Seen}
use Rattle.bpf_check.specs.Sheet.{Sheet}
use Rattle.bpf_check.specs.declared.ways.Way.{Way}
use Rattle.bpf_check.specs.declared.ways.Ways.{Ways}
use Rattle.bpf_check.specs.declared.ways.Ways.TheVariants.{Finish, To, Either}
use Rattle.bpf_check.specs.States.{Covers, IsJoin, entry_seen}
use Rattle.bpf_check.specs.Ways.{leads}
use Rattle.bpf_check.specs.Closed.{HasCover, IsCovered, AreCovered, Meets, IsClosed, IsClosedCode}
use Rattle.bpf_check.specs.Tables.{at, Spreads, AllStates, weight, reached, work, IsFew, AreFew, HasFew, Advances, IsSettled}
use Rattle.bpf_check.specs.Settling.{Settles}
use Rattle.bpf_check.proofs.Registers.{covers_refl, joins_left, joins_right, joins_least}
use Rattle.bpf_check.proofs.Mono.{has_trans, closed_meets}
use Rattle.bpf_check.proofs.Weights.{join_falls, join_credit, new_reached, old_reached, new_falls, old_falls, work_on, work_skip}

pub some_seen : (a b : Seen) → Some a ≡ Some b → a ≡ b
some_seen a b e = cc

-- what one place of a table becomes
record Becomes (o : Option Seen) (s b : Seen) : Type 0 where
  new : Covers b s
  old : (a : Seen) → o ≡ Some a → Covers b a
  least : (z : Seen) → Covers z s → ((a : Seen) → o ≡ Some a → Covers z a) → Covers z b
  full : length b.regs ≡ 10

module _ (table : List (Option Seen)) (w : Way) (inside : w.place < length table) (b : Seen) (k : Becomes (at table w.place) w.seen b) where
  abbrev after : List (Option Seen)
  after = slice_set table w.place (Some b)

  here : at after w.place ≡ Some b
  here = get_or-set_same table w.place (Some b) None inside

  there : (p : ℕ) → p ≢ w.place → at after p ≡ at table p
  there p ne = get_or-set_other table w.place p (Some b) None ne

  by_place : (P : ℕ → Option Seen → Type 0) → P w.place (Some b) → ((p : ℕ) → p ≢ w.place → P p (at table p)) → (p : ℕ) → P p (at after p)
  by_place P h f p = by (cases_eq p w.place)
    where
      by : (p ≡ w.place) ⊎ (p ≡ w.place → ⊥) → P p (at after p)
      by (inl e) = subst (λ (n : ℕ). P n (at after n)) (sym e) (subst (P w.place) (sym here) h)
      by (inr ne) = subst (P p) (sym (there p ne)) (f p ne)

  set_kept : (p : ℕ) (a : Seen) → at table p ≡ Some a → HasCover (at after p) a
  set_kept p a e = by (cases_eq p w.place)
    where
      by : (p ≡ w.place) ⊎ (p ≡ w.place → ⊥) → HasCover (at after p) a
      by (inl same) = subst (λ (o : Option Seen). HasCover o a) (sym (ap (at after) same ∙ here)) (k.old a (sym (ap (at table) same) ∙ e))
      by (inr ne) = subst (λ (o : Option Seen). HasCover o a) (sym (there p ne ∙ e)) (covers_refl a)

  set_least : (states : ℕ → Option Seen) → AllStates (λ p a. HasCover (states p) a) table → HasCover (states w.place) w.seen → AllStates (λ p a. HasCover (states p) a) after
  set_least states all h p a e = by (cases_eq p w.place)
    where
      lower : (o : Option Seen) → HasCover o w.seen → ((a : Seen) → at table w.place ≡ Some a → HasCover o a) → HasCover o b
      lower None g f = absurd g
      lower (Some z) g f = k.least z g f

      by : (p ≡ w.place) ⊎ (p ≡ w.place → ⊥) → HasCover (states p) a
      by (inl same) =
          let is : b ≡ a = some_seen b a (sym here ∙ sym (ap (at after) same) ∙ e) in
          subst (λ (n : ℕ). HasCover (states n) a) (sym same) (subst (λ (x : Seen). HasCover (states w.place) x) is (lower (states w.place) h (all w.place)))
      by (inr ne) = all p a (sym (there p ne) ∙ e)

  set_full : AllStates (λ p a. length a.regs ≡ 10) table → AllStates (λ p a. length a.regs ≡ 10) after
  set_full all p a e = by (cases_eq p w.place)
    where
      by : (p ≡ w.place) ⊎ (p ≡ w.place → ⊥) → length a.regs ≡ 10
      by (inl same) = subst (λ (x : Seen). length x.regs ≡ 10) (some_seen b a (sym here ∙ sym (ap (at after) same) ∙ e)) k.full
      by (inr ne) = all p a (sym (there p ne) ∙ e)

  set_few : (n m : ℕ) → n ≤ m → b.credit ≤ m → HasFew n table → HasFew m after
  set_few n m le small all p a e = by (cases_eq p w.place)
    where
      by : (p ≡ w.place) ⊎ (p ≡ w.place → ⊥) → a.credit ≤ m
      by (inl same) = subst (λ (x : Seen). x.credit ≤ m) (some_seen b a (sym here ∙ sym (ap (at after) same) ∙ e)) small
      by (inr ne) = let h = all p a (sym (there p ne) ∙ e) in omega (arith, h, le)

-- what one place of a table becomes is lighter, and has as little credit
record Lightens (table : List (Option Seen)) (w : Way) (b : Seen) : Type 0 where
  more : reached table ≤ reached (slice_set table w.place (Some b))
  few : IsFew (reached table + 1) w → HasFew (reached table) table → HasFew (reached (slice_set table w.place (Some b))) (slice_set table w.place (Some b))
  falls : IsFew (reached table + 1) w → length table ≤ 4096 → weight (slice_set table w.place (Some b)) < weight table

fresh : (s : Seen) → length s.regs ≡ 10 → Becomes None s s
fresh s full = record { new = covers_refl s; old = λ a e. absurd (cc); least = λ z h f. h; full = full }

joined : (a s b : Seen) → IsJoin a s b → length b.regs ≡ 10 → Becomes (Some a) s b
joined a s b j full = record {
  new = joins_right a s b j;
  old = λ x e. subst (λ (y : Seen). Covers b y) (some_seen a x e) (joins_left a s b j);
  least = λ z h f. joins_least z a s b j (f a refl) h;
  full = full;
}

fresh_lightens : (table : List (Option Seen)) (w : Way) → w.place < length table → at table w.place ≡ None → length w.seen.regs ≡ 10 → Lightens table w w.seen
fresh_lightens table w inside e full =
    let r = new_reached table w.place w.seen inside e in
    record {
      more = omega (arith, r);
      few = λ f all. set_few table w inside w.seen (subst (λ (o : Option Seen). Becomes o w.seen w.seen) (sym e) (fresh w.seen full)) _ _ (omega (arith, r)) (omega (arith, r, f)) all;
      falls = λ f short. new_falls table w.place w.seen inside e f short;
    }

joined_lightens : (table : List (Option Seen)) (w : Way) (a b : Seen) → w.place < length table → at table w.place ≡ Some a → (Covers a w.seen → ⊥) → IsJoin a w.seen b → length b.regs ≡ 10 → Lightens table w b
joined_lightens table w a b inside e other j full =
    let r = old_reached table w.place b inside a e in
    let c = join_credit a w.seen b j in
    record {
      more = omega (arith, r);
      few = λ f all. set_few table w inside b (subst (λ (o : Option Seen). Becomes o w.seen b) (sym e) (joined a w.seen b j full)) _ _ (omega (arith, r)) (let h = all w.place a e in omega (arith, r, c, h)) all;
      falls = λ f short. old_falls table w.place b inside a e (join_falls a w.seen b j other);
    }

nothing : (table : List (Option Seen)) (next : ℕ) → Advances table table Finish next next
nothing table next = record { long = refl; kept = λ p a e. subst (λ (o : Option Seen). HasCover o a) (sym e) (covers_refl a); placed = tt; least = λ states h k. h; full = λ h. h; early = omega arith; below = λ p lt. refl; more = omega arith; few = λ f h. h; falls = λ f short. inr (refl, refl) }

-- ---- one way

pub finish_advances : (table : List (Option Seen)) (next : ℕ) → Advances table table Finish next next
finish_advances table next = nothing table next

set_advances : (table : List (Option Seen)) (w : Way) (b : Seen) (next answer : ℕ) → w.place < length table → Becomes (at table w.place) w.seen b → Lightens table w b → answer ≤ next → answer ≤ w.place
    → Advances table (slice_set table w.place (Some b)) (To w) next answer
set_advances table w b next answer inside k light le before = record {
  long = length-set table w.place (Some b);
  kept = set_kept table w inside b k;
  placed = subst (λ (o : Option Seen). HasCover o w.seen) (sym (here table w inside b k)) k.new;
  least = λ states h c. set_least table w inside b k states h c;
  full = set_full table w inside b k;
  early = le;
  below = λ p lt. there table w inside b k p (λ e. omega (arith, lt, before, e));
  more = light.more;
  few = light.few;
  falls = λ f short. inl (light.falls f short);
}

pub one_advances : (old new : List (Option Seen)) (w : Way) (changed : Bool) (next answer : ℕ) → w.place < length old → Spreads (at old w.place) old new w changed
    → answer ≤ next → (changed ≡ true → answer ≤ w.place) → (changed ≡ false → answer ≡ next) → Advances old new (To w) next answer
one_advances old new w changed next answer inside s early before stays = by (at old w.place) refl changed refl s
  where
    by : (o : Option Seen) → at old w.place ≡ o → (c : Bool) → changed ≡ c → Spreads o old new w c → Advances old new (To w) next answer
    by None e c ec (ch, is, full) = subst (λ (l : List (Option Seen)). Advances old l (To w) next answer) (sym is)
        (set_advances old w w.seen next answer inside (subst (λ (o : Option Seen). Becomes o w.seen w.seen) (sym e) (fresh w.seen full)) (fresh_lightens old w inside e full) early (before (ec ∙ ch)))
    by (Some a) e true ec (other, b, j, is, full) = subst (λ (l : List (Option Seen)). Advances old l (To w) next answer) (sym is)
        (set_advances old w b next answer inside (subst (λ (o : Option Seen). Becomes o w.seen b) (sym e) (joined a w.seen b j full)) (joined_lightens old w a b inside e other j full) early (before ec))
    by (Some a) e false ec (is, c) = subst (λ (l : List (Option Seen)). Advances old l (To w) next answer) (sym is) (record {
      long = refl;
      kept = λ p x f. subst (λ (o : Option Seen). HasCover o x) (sym f) (covers_refl x);
      placed = subst (λ (o : Option Seen). HasCover o w.seen) (sym e) c;
      least = λ states h k. h;
      full = λ h. h;
      early = early;
      below = λ p lt. refl;
      more = omega arith;
      few = λ f h. h;
      falls = λ f short. inr (refl, stays ec);
    })

-- ---- the whole

past : (table : List (Option Seen)) (p : ℕ) (a : Seen) → at table p ≡ Some a → p < length table
past [] p a e = absurd (cc)
past (x ∷ xs) zero a e = omega arith
past (x ∷ xs) (suc p) a e = let h = past xs p a e in omega (arith, h)

-- a settled table at the code's end is a closed assignment
pub settled_closed : (t : Sheet) (code : List Insn) (table : List (Option Seen)) (place : ℕ) → IsSettled t code table place → length code ≤ place → IsClosed t code (at table)
settled_closed t code table place s le = record { start = s.start; each = λ p a e. let h = past table p a e in s.before p a (omega (arith, h, s.long, le)) e }

pub none_settles : (t : Sheet) (code : List Insn) (table : List (Option Seen)) (place : ℕ) → IsSettled t code table place → at table place ≡ None → IsSettled t code table (place + 1)
none_settles t code table place s none = record { long = s.long; start = s.start; full = s.full; least = s.least; few = s.few; before = before }
  where
    before : (q : ℕ) (b : Seen) → q < place + 1 → at table q ≡ Some b → Meets (at table) (leads t code q b)
    before q b lt e = by (cases_eq q place)
      where
        by : (q ≡ place) ⊎ (q ≡ place → ⊥) → Meets (at table) (leads t code q b)
        by (inl is) = let f : None ≡ Some b = sym none ∙ sym (ap (at table) is) ∙ e in absurd (cc)
        by (inr ne) = s.before q b (omega (arith, lt, ne)) e

-- where a state of the table does not meet its condition no assignment is closed
pub refuses : (t : Sheet) (code : List Insn) (table : List (Option Seen)) (place p : ℕ) (a : Seen) → IsSettled t code table place → at table p ≡ Some a → leads t code p a ≡ None → (states : ℕ → Option Seen) → IsClosed t code states → ⊥
refuses t code table place p a s e none states k = by (states p) refl (s.least states k p a e)
  where
    by : (o : Option Seen) → states p ≡ o → HasCover o a → ⊥
    by None f h = h
    by (Some z) f h = subst (λ (x : Option Ways). Meets states x) none (closed_meets t code states p z a k f (s.full p a e) h)

-- what comes of a state of the table is covered by each closed assignment
pub comes_covered : (t : Sheet) (code : List Insn) (table : List (Option Seen)) (place p : ℕ) (a : Seen) (ways : Ways) → IsSettled t code table place → at table p ≡ Some a → leads t code p a ≡ Some ways → (states : ℕ → Option Seen) → IsClosed t code states → AreCovered states ways
comes_covered t code table place p a ways s e led states k = by (states p) refl (s.least states k p a e)
  where
    by : (o : Option Seen) → states p ≡ o → HasCover o a → AreCovered states ways
    by None f h = absurd h
    by (Some z) f h = subst (λ (x : Option Ways). Meets states x) led (closed_meets t code states p z a k f (s.full p a e) h)

covered_grows : (old new : List (Option Seen)) (w : Way) → ((p : ℕ) (a : Seen) → at old p ≡ Some a → HasCover (at new p) a) → IsCovered (at old) w → IsCovered (at new) w
covered_grows old new w kept h = by (at old w.place) refl h
  where
    by : (o : Option Seen) → at old w.place ≡ o → HasCover o w.seen → HasCover (at new w.place) w.seen
    by None e h = absurd h
    by (Some a) e h = has_trans (at new w.place) a w.seen (kept w.place a e) h

meets_grows : (old new : List (Option Seen)) (o : Option Ways) → ((p : ℕ) (a : Seen) → at old p ≡ Some a → HasCover (at new p) a) → Meets (at old) o → Meets (at new) o
meets_grows old new None kept h = h
meets_grows old new (Some Finish) kept h = tt
meets_grows old new (Some (To a)) kept h = covered_grows old new a kept h
meets_grows old new (Some (Either a b)) kept h = (covered_grows old new a kept h.0, covered_grows old new b kept h.1)

pub fewer : (n m : ℕ) (ways : Ways) → n ≤ m → AreFew n ways → AreFew m ways
fewer n m Finish le h = tt
fewer n m (To a) le h = omega (arith, le, h)
fewer n m (Either a b) le h = (omega (arith, le, h.0), omega (arith, le, h.1))

-- a step of the loop: the ways of a place are added, and it goes on at the least place that changed, or behind this one
pub settles_on : (t : Sheet) (code : List Insn) (old new : List (Option Seen)) (p answer : ℕ) (a : Seen) (ways : Ways) → IsSettled t code old p → at old p ≡ Some a → leads t code p a ≡ Some ways
    → AreFew (a.credit + 1) ways → Advances old new ways (p + 1) answer → IsSettled t code new answer
settles_on t code old new p answer a ways s e led small v = record {
  long = v.long ∙ s.long;
  start = start (at old 0) refl s.start;
  full = v.full s.full;
  least = λ states k. v.least states (s.least states k) (comes_covered t code old p p a ways s e led states k);
  few = v.few (fewer _ _ ways (let h = s.few p a e in omega (arith, h)) small) s.few;
  before = before;
}
  where
    start : (o : Option Seen) → at old 0 ≡ o → HasCover o entry_seen → HasCover (at new 0) entry_seen
    start None f h = absurd h
    start (Some z) f h = has_trans (at new 0) z entry_seen (v.kept 0 z f) h

    before : (q : ℕ) (b : Seen) → q < answer → at new q ≡ Some b → Meets (at new) (leads t code q b)
    before q b lt f = by (cases_eq q p)
      where
        same : at old q ≡ Some b
        same = sym (v.below q lt) ∙ f

        by : (q ≡ p) ⊎ (q ≡ p → ⊥) → Meets (at new) (leads t code q b)
        by (inl is) =
            let eb : a ≡ b = some_seen a b (sym e ∙ sym (ap (at old) is) ∙ same) in
            subst (λ (n : ℕ). Meets (at new) (leads t code n b)) (sym is) (subst (λ (x : Seen). Meets (at new) (leads t code p x)) eb (subst (λ (o : Option Ways). Meets (at new) o) (sym led) v.placed))
        by (inr ne) = meets_grows old new (leads t code q b) v.kept (s.before q b (omega (arith, lt, v.early, ne)) same)

all_grows : (states : ℕ → Option Seen) (table : List (Option Seen)) → AllStates (λ p a. HasCover (states p) a) table → AllStates (λ p a. HasCover (states p) a) table
all_grows states table h = h

-- two ways, one after the other
pub two_advances : (old mid new : List (Option Seen)) (v w : Way) (next first answer : ℕ) → Advances old mid (To v) next first → Advances mid new (To w) first answer → Advances old new (Either v w) next answer
two_advances old mid new v w next first answer x y = record {
  long = y.long ∙ x.long;
  kept = λ p a e. by p (at mid p) refl a (x.kept p a e);
  placed = (covered_grows mid new v y.kept x.placed, y.placed);
  least = λ states h c. y.least states (x.least states h c.0) c.1;
  full = λ h. y.full (x.full h);
  early = omega (arith, x.early, y.early);
  below = λ p lt. y.below p lt ∙ x.below p (omega (arith, lt, y.early));
  more = omega (arith, x.more, y.more);
  few = λ f h. y.few (second f.1) (x.few f.0 h);
  falls = λ f short. both (x.falls f.0 short) (y.falls (second f.1) (omega (arith, short, x.long)));
}
  where
    second : IsFew (reached old + 1) w → IsFew (reached mid + 1) w
    second f = omega (arith, f, x.more)

    both : (weight mid < weight old) ⊎ ((mid ≡ old) × (first ≡ next)) → (weight new < weight mid) ⊎ ((new ≡ mid) × (answer ≡ first)) → (weight new < weight old) ⊎ ((new ≡ old) × (answer ≡ next))
    both (inl a) (inl b) = inl (omega (arith, a, b))
    both (inl a) (inr (is, e)) = inl (subst (λ (l : List (Option Seen)). weight l < weight old) (sym is) a)
    both (inr (is, e)) (inl b) = inl (subst (λ (l : List (Option Seen)). weight new < weight l) is b)
    both (inr (is, e)) (inr (same, f)) = inr (same ∙ is, f ∙ e)

    by : (p : ℕ) (o : Option Seen) → at mid p ≡ o → (a : Seen) → HasCover o a → HasCover (at new p) a
    by p None e a h = absurd h
    by p (Some z) e a h = has_trans (at new p) z a (y.kept p z e) h

pub either_advances : (old mid new : List (Option Seen)) (ways : Ways) (v w : Way) (next first answer : ℕ) → ways ≡ Either v w → Advances old mid (To v) next first → Advances mid new (To w) first answer → Advances old new ways next answer
either_advances old mid new ways v w next first answer e x y = subst (λ (ws : Ways). Advances old new ws next answer) (sym e) (two_advances old mid new v w next first answer x y)

pub none_advances : (table : List (Option Seen)) (ways : Ways) (next : ℕ) → ways ≡ Finish → Advances table table ways next next
none_advances table ways next e = subst (λ (ws : Ways). Advances table table ws next next) (sym e) (nothing table next)

pub refuses_all : (t : Sheet) (code : List Insn) (table : List (Option Seen)) (p : ℕ) (a : Seen) (o : Option Ways) → IsSettled t code table p → at table p ≡ Some a → o ≡ leads t code p a → o ≡ None → IsClosedCode t code → ⊥
refuses_all t code table p a o s e led none k = refuses t code table p p a s e (sym led ∙ none) k.0 k.1

pub settles_at : (t : Sheet) (code : List Insn) (old new : List (Option Seen)) (p answer : ℕ) (a : Seen) (o : Option Ways) (ways : Ways) → IsSettled t code old p → length code ≤ 4096 → p < length code
    → at old p ≡ Some a → o ≡ leads t code p a → o ≡ Some ways → AreFew (a.credit + 1) ways → Advances old new ways (p + 1) answer → Settles t code (work old p) new (Some answer)
settles_at t code old new p answer a o ways s short inside e led some small v = (
  settles_on t code old new p answer a ways s e (sym led ∙ some) small v,
  work_on old new p answer v.long (omega (arith, inside, s.long)) (v.falls (fewer _ _ ways (let h = s.few p a e in omega (arith, h)) small) (omega (arith, short, s.long))),
)

pub skips_at : (t : Sheet) (code : List Insn) (table : List (Option Seen)) (p : ℕ) → IsSettled t code table p → p < length code → at table p ≡ None → Settles t code (work table p) table (Some (p + 1))
skips_at t code table p s inside none = (none_settles t code table p s none, work_skip table p (omega (arith, inside, s.long)))
