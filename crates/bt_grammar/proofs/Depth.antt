-- The whole grammar, at each depth.
use Rattle.std.proofs.Common.{◌≡◌, ℕ, zero, suc, ◌+◌, ◌≤◌, true, false, List, [], ◌∷◌, ◌++◌, refl, sym, ◌∙◌, ap, subst, append_assoc, arith}
use Rattle.std.proofs.lemmas.List.{append-nil, append_cancel_right}
use Rattle.bt_ast.specs.declared.probe.Probe.{Probe}
use Rattle.bt_grammar.specs.declared.class.Class.{Class}
use Rattle.bt_grammar.specs.declared.class.Class.TheVariants.{BeginWord, IfWord, CountWord, BreakWord, MapName, NumberLiteral, TextLiteral, OpenBrace, CloseBrace, OpenParen, CloseParen, Increment}
use Rattle.bt_grammar.specs.declared.class.Tier.TheVariants.{Products, Sums, Shifts, Orders, Equalities, BitAnds, BitXors, BitOrs, AndThens, OrElses}
use Rattle.bt_grammar.specs.Form.{Item, Part, Primary, Unary, Level, Expression, Values, Keyed, Assignable, Int, Aggregation, Update, AfterMap, AfterVar, Printf, Print, Delete, CallOrJump, Simple, Arm, Tail, Control, Body, Braced, Points, OneProbe, WholeScript, Of, brace_next}
use Rattle.bt_grammar.specs.Rules.{rule}
use Rattle.bt_grammar.specs.Fine.{Led}
use Rattle.bt_grammar.specs.Grammar.{whole_at, begins_at, Begins, Answer, Exact}
use Rattle.bt_grammar.specs.Tables.{nul, fst_of, stops_of, sens_of}
use Rattle.bt_grammar.specs.Reading.{first, sens, takes, rest_of, Out, Done, Refused, Unfinished, read_at}
use Rattle.bt_grammar.proofs.Sound.{Near-weaker, Same, never, Found, Stuck, found, refused, null_sound}
use Rattle.bt_grammar.proofs.Complete.{head_class, first_sound, only}
use Rattle.bt_grammar.proofs.Viable.{Completed, whole_more, completes, whole_begins, item_of}
use Rattle.bt_grammar.proofs.CheckedFirst.{null_rule, first_rule, sens_rule}
use Rattle.bt_grammar.proofs.CheckedStops.{stops_rule}
use Rattle.bt_grammar.proofs.CheckedAlive.{alive_rule}
use Rattle.bt_grammar.proofs.Checked.{fine_rule}

pub null_at : (d : ℕ) (n : Part) (a : Of n) → whole_at d n [] a → nul n ≡ true
null_at zero n a w = absurd w
null_at (suc d) n a w = null_rule n (null_sound (whole_at d) (null_at d) (rule n) a w)

pub first_at : (d : ℕ) (n : Part) (t : Item) (ts : List Item) (a : Of n) → whole_at d n (t ∷ ts) a → fst_of n t.class ≡ true
first_at zero n t ts a w = absurd w
first_at (suc d) n t ts a w = first_rule n t.class (brace_next (ts ++ [])) (first_sound (whole_at d) (null_at d) (first_at d) false (rule n) (fine_rule n) t ts a w [])

pub found_at : (d m : ℕ) → d ≤ m → (n : Part) (ts : List Item) (a : Of n) (r : List Item) → read_at d n ts ≡ Done a r → Found (sens_of n) (read_at m n) (whole_at d n) ts a r
found_at zero m le n ts a r e = cc
found_at (suc d) zero le n ts a r e = absurd (omega arith)
found_at (suc d) (suc m) le n ts a r e =
    let f : Found (sens (rule n)) (read_at (suc m) n) (whole_at (suc d) n) ts a r = found (whole_at d) (null_at d) (read_at d) (read_at m) (found_at d m (omega arith)) false (rule n) (fine_rule n) ts a r e in
    record { xs = f.xs; is = f.is; whole = f.whole; again = λ r2 s. f.again r2 (Near-weaker (sens_of n) (sens (rule n)) r r2 (sens_rule n) s) }

pub refused_at : (d m : ℕ) → d ≤ m → (n : Part) (ts r : List Item) → read_at d n ts ≡ Refused r → Stuck false never ⊥ (λ _ _. false) (read_at m n) (begins_at d n) ts r
refused_at zero m le n ts r e = cc
refused_at (suc d) zero le n ts r e = absurd (omega arith)
refused_at (suc d) (suc m) le n ts r e =
    let s : Stuck false (takes (rule n)) (Led (rule n)) (first (rule n)) (read_at (suc m) n) (begins_at (suc d) n) ts r =
    refused (whole_at d) (null_at d) (read_at d) (read_at m) (found_at d m (omega arith)) (begins_at d) (refused_at d m (omega arith)) false (rule n) (fine_rule n) ts r e in
    record { xs = s.xs; is = s.is; begun = s.begun; again = λ r2 q _. s.again r2 q (λ x. cc (x)); moved = λ t z q h. cc (h); led = λ l. absurd l }

pub only_at : (d m : ℕ) → d ≤ m → (n : Part) (xs : List Item) (a : Of n) (r : List Item) → whole_at d n xs a → stops_of n (head_class r) (brace_next (rest_of r)) ≡ true → read_at m n (xs ++ r) ≡ Done a r
only_at zero m le n xs a r w s = absurd w
only_at (suc d) zero le n xs a r w s = absurd (omega arith)
only_at (suc d) (suc m) le n xs a r w s =
    only (whole_at d) (null_at d) (first_at d) (read_at m) (only_at d m (omega arith)) false (rule n) (fine_rule n) xs a r w (stops_rule n (head_class r) (brace_next (rest_of r)) s)

pub more_at : (d m : ℕ) → d ≤ m → (n : Part) (ts : List Item) (a : Of n) → whole_at d n ts a → whole_at m n ts a
more_at zero m le n ts a w = absurd w
more_at (suc d) zero le n ts a w = absurd (omega arith)
more_at (suc d) (suc m) le n ts a w = whole_more (whole_at d) (whole_at m) (more_at d m (omega arith)) (rule n) ts a w

-- ---- each part has a text

pub any_by : (k : ℕ) (n : Part) (ts : List Item) (a : Of n) → read_at k n ts ≡ Done a [] → Completed (whole_at k n) []
any_by k n ts a e = let f : Found (sens_of n) (read_at k n) (whole_at k n) ts a [] = found_at k k (omega arith) n ts a [] e in record { rest = f.xs; value = a; whole = f.whole }

abbrev it : Class → Item
it c = item_of c

abbrev pub deepest : ℕ
deepest = 20

pub any : (n : Part) → Completed (whole_at deepest n) []
any Primary = any_by deepest Primary (it NumberLiteral ∷ []) _ refl
any Unary = any_by deepest Unary (it NumberLiteral ∷ []) _ refl
any (Level true Products) = any_by deepest (Level true Products) (it NumberLiteral ∷ []) _ refl
any (Level true Sums) = any_by deepest (Level true Sums) (it NumberLiteral ∷ []) _ refl
any (Level true Shifts) = any_by deepest (Level true Shifts) (it NumberLiteral ∷ []) _ refl
any (Level true Orders) = any_by deepest (Level true Orders) (it NumberLiteral ∷ []) _ refl
any (Level true Equalities) = any_by deepest (Level true Equalities) (it NumberLiteral ∷ []) _ refl
any (Level true BitAnds) = any_by deepest (Level true BitAnds) (it NumberLiteral ∷ []) _ refl
any (Level true BitXors) = any_by deepest (Level true BitXors) (it NumberLiteral ∷ []) _ refl
any (Level true BitOrs) = any_by deepest (Level true BitOrs) (it NumberLiteral ∷ []) _ refl
any (Level true AndThens) = any_by deepest (Level true AndThens) (it NumberLiteral ∷ []) _ refl
any (Level true OrElses) = any_by deepest (Level true OrElses) (it NumberLiteral ∷ []) _ refl
any (Level false Products) = any_by deepest (Level false Products) (it NumberLiteral ∷ []) _ refl
any (Level false Sums) = any_by deepest (Level false Sums) (it NumberLiteral ∷ []) _ refl
any (Level false Shifts) = any_by deepest (Level false Shifts) (it NumberLiteral ∷ []) _ refl
any (Level false Orders) = any_by deepest (Level false Orders) (it NumberLiteral ∷ []) _ refl
any (Level false Equalities) = any_by deepest (Level false Equalities) (it NumberLiteral ∷ []) _ refl
any (Level false BitAnds) = any_by deepest (Level false BitAnds) (it NumberLiteral ∷ []) _ refl
any (Level false BitXors) = any_by deepest (Level false BitXors) (it NumberLiteral ∷ []) _ refl
any (Level false BitOrs) = any_by deepest (Level false BitOrs) (it NumberLiteral ∷ []) _ refl
any (Level false AndThens) = any_by deepest (Level false AndThens) (it NumberLiteral ∷ []) _ refl
any (Level false OrElses) = any_by deepest (Level false OrElses) (it NumberLiteral ∷ []) _ refl
any (Expression true) = any_by deepest (Expression true) (it NumberLiteral ∷ []) _ refl
any (Expression false) = any_by deepest (Expression false) (it NumberLiteral ∷ []) _ refl
any Values = any_by deepest Values (it NumberLiteral ∷ []) _ refl
any Keyed = any_by deepest Keyed (it MapName ∷ []) _ refl
any Assignable = any_by deepest Assignable (it MapName ∷ []) _ refl
any Int = any_by deepest Int (it NumberLiteral ∷ []) _ refl
any Aggregation = any_by deepest Aggregation (it CountWord ∷ it OpenParen ∷ it CloseParen ∷ []) _ refl
any Update = any_by deepest Update (it Increment ∷ []) _ refl
any AfterMap = any_by deepest AfterMap (it Increment ∷ []) _ refl
any AfterVar = any_by deepest AfterVar (it Increment ∷ []) _ refl
any Printf = any_by deepest Printf (it OpenParen ∷ it TextLiteral ∷ it CloseParen ∷ []) _ refl
any Print = any_by deepest Print (it OpenParen ∷ it MapName ∷ it CloseParen ∷ []) _ refl
any Delete = any_by deepest Delete (it OpenParen ∷ it MapName ∷ it CloseParen ∷ []) _ refl
any CallOrJump = any_by deepest CallOrJump (it BreakWord ∷ []) _ refl
any Simple = any_by deepest Simple (it BreakWord ∷ []) _ refl
any Arm = any_by deepest Arm (it OpenParen ∷ it NumberLiteral ∷ it CloseParen ∷ it OpenBrace ∷ it CloseBrace ∷ []) _ refl
any Tail = any_by deepest Tail ([]) _ refl
any Control = any_by deepest Control (it IfWord ∷ it OpenParen ∷ it NumberLiteral ∷ it CloseParen ∷ it OpenBrace ∷ it CloseBrace ∷ []) _ refl
any Body = any_by deepest Body (it CloseBrace ∷ []) _ refl
any Braced = any_by deepest Braced (it OpenBrace ∷ it CloseBrace ∷ []) _ refl
any Points = any_by deepest Points (it BeginWord ∷ []) _ refl
any OneProbe = any_by deepest OneProbe (it BeginWord ∷ it OpenBrace ∷ it CloseBrace ∷ []) _ refl
any WholeScript = any_by deepest WholeScript (it BeginWord ∷ it OpenBrace ∷ it CloseBrace ∷ []) _ refl

pub any_at : (m : ℕ) → deepest ≤ m → (n : Part) → Completed (whole_at m n) []
any_at m le n = let s : Completed (whole_at deepest n) [] = any n in
    record { rest = s.rest; value = s.value; whole = more_at deepest m le n s.rest s.value s.whole }

-- what begins a part can be completed, a little deeper
pub completes_at : (d m : ℕ) → d + deepest ≤ m → (n : Part) (ts : List Item) → begins_at d n ts → Completed (whole_at m n) ts
completes_at zero m le n ts b = absurd b
completes_at (suc d) zero le n ts b = absurd (omega arith)
completes_at (suc d) (suc m) le n ts b =
    completes (whole_at d) (whole_at m) (more_at d m (omega arith)) (null_at m) (first_at m) (begins_at d) (any_at m (omega arith)) (completes_at d m (omega arith)) false (rule n) (fine_rule n) (alive_rule n) ts b

-- ---- the whole text

pub whole_begins_at : (d : ℕ) (n : Part) (ts : List Item) (a : Of n) → whole_at d n ts a → begins_at d n ts
whole_begins_at zero n ts a w = absurd w
whole_begins_at (suc d) n ts a w = whole_begins (whole_at d) (begins_at d) (whole_begins_at d) (rule n) ts a w

pub tree_is_done : (d m : ℕ) (ts : List Item) (s : List Probe) → whole_at d WholeScript ts s → d ≤ m → read_at m WholeScript ts ≡ Done s []
tree_is_done d m ts s w le = rw (sym (append-nil ts)) (only_at d m le WholeScript ts s [] w refl)

-- reading that stops before a token stops there, at each depth, however the text goes on; so no text goes on there
stopped : (ts front z : List Item) (t : Item) (d : ℕ) → ((m : ℕ) (more : List Item) → d ≤ m → (v : List Probe) → read_at m WholeScript (front ++ t ∷ more) ≡ Done v [] → ⊥)
    → (more : List Item) → Begins (front ++ t ∷ more) → ⊥
stopped ts front z t d never_done more (db, b) =
    let m : ℕ = d + (db + deepest) in
    let c : Completed (whole_at m WholeScript) (front ++ t ∷ more) = completes_at db m (omega arith) WholeScript (front ++ t ∷ more) b in
    let yes : read_at m WholeScript ((front ++ t ∷ more) ++ c.rest) ≡ Done c.value [] = tree_is_done m m ((front ++ t ∷ more) ++ c.rest) c.value c.whole (omega arith) in
    never_done m (more ++ c.rest) (omega arith) c.value (subst (λ x. read_at m WholeScript x ≡ Done c.value []) (append_assoc front (t ∷ more) c.rest) yes)

Same-refl : (r : List Item) → Same r r
Same-refl [] = refl
Same-refl (t ∷ r) = (r, refl, λ _. refl)

answer : (d : ℕ) (ts : List Item) (o : Out (List Probe)) → read_at d WholeScript ts ≡ o → Answer ts o
answer d ts (Done s []) e =
    let f : Found (sens_of WholeScript) (read_at d WholeScript) (whole_at d WholeScript) ts s [] = found_at d d (omega arith) WholeScript ts s [] e in (
      (d, subst (λ z. whole_at d WholeScript z s) (sym (f.is ∙ append-nil f.xs)) f.whole),
      λ other w.
          let m : ℕ = d + w.0 in
          let g : Found (sens_of WholeScript) (read_at m WholeScript) (whole_at d WholeScript) ts s [] = found_at d m (omega arith) WholeScript ts s [] e in
          let one : read_at m WholeScript ts ≡ Done s [] = rw g.is (g.again [] refl) in
          let two : read_at m WholeScript ts ≡ Done other [] = tree_is_done w.0 m ts other w.1 (omega arith) in
          let same : Done other [] ≡ Done s [] = sym two ∙ one in cc (same),
    )
answer d ts (Done s (t ∷ r)) e =
    let f : Found (sens_of WholeScript) (read_at d WholeScript) (whole_at d WholeScript) ts s (t ∷ r) = found_at d d (omega arith) WholeScript ts s (t ∷ r) e in
    let stop : (m : ℕ) (more : List Item) → d ≤ m → (v : List Probe) → read_at m WholeScript (f.xs ++ t ∷ more) ≡ Done v [] → ⊥ = λ m more le v y.
    let g : Found (sens_of WholeScript) (read_at m WholeScript) (whole_at d WholeScript) ts s (t ∷ r) = found_at d m le WholeScript ts s (t ∷ r) e in
    let q : g.xs ≡ f.xs = append_cancel_right g.xs f.xs (t ∷ r) (sym g.is ∙ f.is) in
    let n : read_at m WholeScript (g.xs ++ t ∷ more) ≡ Done s (t ∷ more) = g.again (t ∷ more) (more, refl, λ x. cc (x)) in
    let clash : Done v [] ≡ Done s (t ∷ more) = sym y ∙ ap (λ x. read_at m WholeScript (x ++ t ∷ more)) (sym q) ∙ n in cc (clash) in
    record {
      front = f.xs;
      is = f.is;
      begun = (d, whole_begins_at d WholeScript f.xs s f.whole);
      no_further = λ u z more q b. let h : t ≡ u = cc (q) in stopped ts f.xs z t d stop more (subst (λ x. Begins (f.xs ++ x ∷ more)) (sym h) b);
      no_tree = λ other w. stop (d + w.0) r (omega arith) other (subst (λ x. read_at (d + w.0) WholeScript x ≡ Done other []) f.is (tree_is_done w.0 (d + w.0) ts other w.1 (omega arith)));
    }
answer d ts (Refused r) e =
    let f : Stuck false never ⊥ (λ _ _. false) (read_at d WholeScript) (begins_at d WholeScript) ts r = refused_at d d (omega arith) WholeScript ts r e in
    let stop : (m : ℕ) (r2 : List Item) → d ≤ m → Same r r2 → (v : List Probe) → read_at m WholeScript (f.xs ++ r2) ≡ Done v [] → ⊥ = λ m r2 le near v y.
    let g : Stuck false never ⊥ (λ _ _. false) (read_at m WholeScript) (begins_at d WholeScript) ts r = refused_at d m le WholeScript ts r e in
    let q : g.xs ≡ f.xs = append_cancel_right g.xs f.xs r (sym g.is ∙ f.is) in
    let n : read_at m WholeScript (g.xs ++ r2) ≡ Refused r2 = g.again r2 near (λ x. cc (x)) in
    let clash : Done v [] ≡ Refused r2 = sym y ∙ ap (λ x. read_at m WholeScript (x ++ r2)) (sym q) ∙ n in cc (clash) in
    record {
      front = f.xs;
      is = f.is;
      begun = (d, f.begun);
      no_further = λ t z more q b. stopped ts f.xs z t d (λ m more le v. stop m (t ∷ more) le (subst (λ x. Same x (t ∷ more)) (sym q) (more, refl, λ x. cc (x))) v) more b;
      no_tree = λ other w. stop (d + w.0) r (omega arith) (Same-refl r) other (subst (λ x. read_at (d + w.0) WholeScript x ≡ Done other []) f.is (tree_is_done w.0 (d + w.0) ts other w.1 (omega arith)));
    }
answer d ts Unfinished e = tt

pub exact : Exact
exact d ts = answer d ts (read_at d WholeScript ts) refl
