-- What the functions that read take from the grammar.
use Rattle.std.proofs.Common.{◌≡◌, ℕ, suc, ◌+◌, ◌*◌, ◌<◌, Bool, true, false, List, [], ◌∷◌, length, refl, sym, ◌∙◌, ap, subst, ◌⊎◌, ◌||◌, arith, length-append}
use Rattle.bt_grammar.specs.Form.{Item, Part, Of, Form, Rel, Front, whole, begins}
use Rattle.bt_grammar.specs.Fine.{FineAt, Led}
use Rattle.bt_grammar.specs.declared.class.Class.{Class}
use Rattle.bt_grammar.specs.Tables.{width}
use Rattle.bt_grammar.specs.Reading.{reads, goes_on}
use Rattle.bt_grammar.specs.Grammar.{whole_at, begins_at}
use Rattle.bt_grammar.specs.Tables.{nul, sens_of}
use Rattle.bt_grammar.specs.Reading.{nullable, first, differs, sens, takes, Out, Done, Refused, Unfinished, and_then, starts, loop, read}
use Rattle.bt_grammar.specs.Tokens.{items}
use Rattle.bt_lexer.specs.declared.token.Token.{Token}
use Rattle.bt_grammar.proofs.Sound.{never, Calm, or_left, or_right, Found, Stuck, LoopFound, LoopStuck, found, refused, null_sound, loop_found, loop_refused}
use Rattle.bt_grammar.proofs.Depth.{null_at}
use Rattle.bt_grammar.proofs.Enough.{reads_found, reads_refused, Same-refl, not_nil}

abbrev pub some_whole : Rel
some_whole n ts a = (d : ℕ) × whole_at d n ts a

abbrev pub some_begins : Front
some_begins n ts = (d : ℕ) × begins_at d n ts

pub null_some : (n : Part) (a : Of n) → some_whole n [] a → nul n ≡ true
null_some n a (d, w) = null_at d n a w

pub found_some : (n : Part) (ts : List Item) (a : Of n) (r : List Item) → reads n ts ≡ Done a r → Found (sens_of n) (reads n) (some_whole n) ts a r
unfolding reads
found_some n ts a r e =
    let d : ℕ = suc (width * length ts + width) in
    let f : Found (sens_of n) (reads n) (whole_at d n) ts a r = reads_found d n ts a r e in
    record { xs = f.xs; is = f.is; whole = (d, f.whole); again = f.again }

pub refused_some : (n : Part) (ts r : List Item) → reads n ts ≡ Refused r → Stuck false never ⊥ (λ _ _. false) (reads n) (some_begins n) ts r
unfolding reads
refused_some n ts r e =
    let d : ℕ = suc (width * length ts + width) in
    let f : Stuck false never ⊥ (λ _ _. false) (reads n) (begins_at d n) ts r = reads_refused d n ts r e in
    record { xs = f.xs; is = f.is; begun = (d, f.begun); again = f.again; moved = f.moved; led = f.led }

pub length-items : (ts : List Token) → length (items ts) ≡ length ts
length-items [] = refl
length-items (t ∷ ts) = ap suc (length-items ts)

module _ {A B : Type 0} (f : A → B → A) (Q : Form B) (ok : FineAt true Q) (edge : Led Q ⊎ Calm (sens Q) (first Q)) (some : nullable Q ≡ false) where
  sl : Class → Bool
  sl c = differs (first Q) c || sens Q c

  dp : (c : Class) → differs (first Q) c ≡ true → sl c ≡ true
  unfolding sl
  dp c d = or_left (differs (first Q) c) (sens Q c) d

  dq : (c : Class) → sens Q c ≡ true → sl c ≡ true
  unfolding sl
  dq c d = or_right (differs (first Q) c) (sens Q c) d

  none : (b : B) → whole some_whole Q [] b → ⊥
  none b w = let h : nullable Q ≡ true = null_sound some_whole null_some Q b w in cc (h, some)

  fuel_to : (k k' : ℕ) (a : A) (ts : List Item) (o : Out A) → length ts < k' → loop f (first Q) (read reads Q) k a ts ≡ o → (o ≡ Unfinished → ⊥) → loop f (first Q) (read reads Q) k' a ts ≡ o
  fuel_to k k' a ts (Done c r) fits e ended =
      let j : LoopFound sl f (first Q) (read reads Q) (whole some_whole Q) a ts c r =
      loop_found f (first Q) (sens Q) sl dp dq (read reads Q) (read reads Q) (whole some_whole Q) (found some_whole null_some reads reads found_some true Q ok) none k a ts c r e in
      rw j.is (j.again r k' (Same-refl _ r) (subst (λ x. length x < k') j.is fits))
  fuel_to k k' a ts (Refused r) fits e ended =
      let j : LoopStuck (Calm (sens Q) (first Q)) f (first Q) (read reads Q) (whole some_whole Q) (begins some_whole some_begins Q) a ts r =
      loop_refused f (first Q) (sens Q) sl dp dq (read reads Q) (read reads Q) (whole some_whole Q) (found some_whole null_some reads reads found_some true Q ok) none
      (begins some_whole some_begins Q) (Calm (sens Q) (first Q)) (λ y. y) (takes Q) (Led Q) (refused some_whole null_some reads reads found_some some_begins refused_some true Q ok) edge k a ts r e in
      rw j.is (j.again r k' (Same-refl _ r) (subst (λ x. length x < k') j.is fits))
  fuel_to k k' a ts Unfinished fits e ended = absurd (ended refl)

  fuel_by : (k k' : ℕ) (a : A) (ts : List Item) (o o' : Out A) → length ts < k → length ts < k' → loop f (first Q) (read reads Q) k a ts ≡ o → loop f (first Q) (read reads Q) k' a ts ≡ o' → o ≡ o'
  fuel_by k k' a ts (Done c r) o' fits fits' e e' = sym (fuel_to k k' a ts (Done c r) fits' e (λ z. cc)) ∙ e'
  fuel_by k k' a ts (Refused r) o' fits fits' e e' = sym (fuel_to k k' a ts (Refused r) fits' e (λ z. cc)) ∙ e'
  fuel_by k k' a ts Unfinished (Done c r) fits fits' e e' = sym e ∙ fuel_to k' k a ts (Done c r) fits e' (λ z. cc)
  fuel_by k k' a ts Unfinished (Refused r) fits fits' e e' = sym e ∙ fuel_to k' k a ts (Refused r) fits e' (λ z. cc)
  fuel_by k k' a ts Unfinished Unfinished fits fits' e e' = refl

  pub goes_on_stop : (a : A) (ts : List Item) → starts (first Q) ts ≡ false → goes_on f Q a ts ≡ Done a ts
  unfolding goes_on
  goes_on_stop a ts h = rw h refl

  after_one : (k : ℕ) (a : A) (ts : List Item) (o : Out B) → read reads Q ts ≡ o → length ts ≡ k
      → and_then o (λ b r. loop f (first Q) (read reads Q) k (f a b) r) ≡ and_then o (λ b r. goes_on f Q (f a b) r)
  unfolding goes_on
  after_one k a ts (Done b r) e q =
      let i : Found (sens Q) (read reads Q) (whole some_whole Q) ts b r = found some_whole null_some reads reads found_some true Q ok ts b r e in
      let more : 0 < length i.xs = not_nil i.xs (λ z. none b (subst (λ x. whole some_whole Q x b) z i.whole)) in
      fuel_by k (suc (length r)) (f a b) r _ _ (omega (arith, ap length i.is, length-append i.xs r)) (omega arith) refl refl
  after_one k a ts (Refused r) e q = refl
  after_one k a ts Unfinished e q = refl

  pub goes_on_more : (a : A) (ts : List Item) → starts (first Q) ts ≡ true → goes_on f Q a ts ≡ and_then (read reads Q ts) (λ b r. goes_on f Q (f a b) r)
  unfolding goes_on
  goes_on_more a ts h = rw h (after_one (length ts) a ts (read reads Q ts) refl refl)
