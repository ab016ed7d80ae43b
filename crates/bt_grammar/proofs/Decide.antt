-- The first fault of a list of tokens, by what reading it or a front of it answers.
use Rattle.std.proofs.Common.{◌≡◌, ℕ, zero, suc, ◌+◌, ◌<◌, ◌≤◌, true, false, List, [], ◌∷◌, ◌++◌, length, take, drop, refl, sym, ◌∙◌, ap, subst, inl, inr, ◌⊎◌, append_assoc, arith, length-append}
use Rattle.std.proofs.lemmas.List.{append-nil, take-append-drop, take-append-le, drop-append-le, take_all, length-take-le, length-drop}
use Rattle.bt_core.specs.declared.limits.TheConstants.{NESTING, PROBES}
use Rattle.bt_ast.specs.declared.probe.Probe.{Probe}
use Rattle.bt_ast.specs.declared.probe.Script.{Script}
use Rattle.bt_grammar.specs.declared.error.ParseError.{ParseError}
use Rattle.bt_grammar.specs.declared.error.ParseError.TheVariants.{Syntax, TooDeep, TooMany, Memory}
use Rattle.bt_grammar.specs.Classes.{is_point}
use Rattle.bt_grammar.specs.Form.{Item, OneProbe, WholeScript}
use Rattle.bt_grammar.specs.Reading.{Done, and_then, starts, reads}
use Rattle.bt_grammar.proofs.Sound.{DoneBoth, and_then-done}
use Rattle.bt_grammar.specs.Grammar.{Tree, IsTreeOf, Begins, RefusedAt, whole_at}
use Rattle.bt_grammar.specs.Counts.{probes_read}
use Rattle.bt_grammar.specs.Weights.{weight}
use Rattle.bt_grammar.specs.Refusals.{IsSyntaxFault, IsDepthFault, IsCountFault, NoDepthFault, NoCountFault, Holds, NotAfter, IsRefusal, IsAccepted, token_of, order_of}
use Rattle.bt_grammar.proofs.Depth.{whole_begins_at, more_at}
use Rattle.bt_grammar.proofs.Counts.{tree_read, probe_starts}

-- ---- lists

pub take_front : (front rest : List Item) → take (length front) (front ++ rest) ≡ front
take_front front rest = take-append-le (length front) front rest (omega arith) ∙ take_all (length front) front (omega arith)

pub record Longer (front rest : List Item) (m : ℕ) : Type 0 where
  pub t : Item
  pub z : List Item
  pub more : List Item
  pub is : rest ≡ t ∷ z
  pub taken : take m (front ++ rest) ≡ front ++ t ∷ more

longer : (front rest : List Item) (m : ℕ) → length front < m → m ≤ length (front ++ rest) → Longer front rest m
longer [] [] m short within = absurd (omega arith)
longer [] (t ∷ z) zero short within = absurd (omega arith)
longer [] (t ∷ z) (suc m) short within = record { t = t; z = z; more = take m z; is = refl; taken = refl }
longer (f ∷ front) rest zero short within = absurd (omega arith)
longer (f ∷ front) rest (suc m) short within =
    let l : Longer front rest m = longer front rest m (omega arith) (omega arith) in
    record { t = l.t; z = l.z; more = l.more; is = l.is; taken = ap (λ x. f ∷ x) l.taken }

-- ---- syntax

pub tree_begins : (ts : List Item) (probes : List Probe) → Tree ts probes → Begins ts
tree_begins ts probes (d, w) = (d, whole_begins_at d WholeScript ts probes w)

syntax_by : (ts front rest : List Item) (n : ℕ) → ts ≡ front ++ rest → n ≡ length front → Begins front
    → ((t : Item) (z more : List Item) → rest ≡ t ∷ z → Begins (front ++ t ∷ more) → ⊥) → ((probes : List Probe) → Tree ts probes → ⊥) → IsSyntaxFault ts n
syntax_by ts front rest n e en begun further no_tree = record {
  no_tree = no_tree;
  within = omega (arith, en, ap length e, length-append front rest);
  begun = subst Begins (sym (ap (λ z. take z ts) en ∙ ap (take (length front)) e ∙ take_front front rest)) begun;
  longest = λ m less within b.
      let l : Longer front rest m = longer front rest m (omega (arith, en)) (subst (λ z. m ≤ length z) e within) in
      further l.t l.z l.more l.is (subst Begins (ap (take m) e ∙ l.taken) b);
}

-- what is refused at a place has its syntax fault there
pub syntax_at : (ts rest : List Item) (n : ℕ) → RefusedAt ts rest → n + length rest ≡ length ts → IsSyntaxFault ts n
syntax_at ts rest n r en = syntax_by ts r.front rest n r.is (omega (arith, en, ap length r.is, length-append r.front rest)) r.begun r.no_further r.no_tree

-- and so where a front of the tokens is refused before its end
pub syntax_cut : (ts cut after : List Item) (t : Item) (z : List Item) (n : ℕ) → ts ≡ cut ++ after → RefusedAt cut (t ∷ z) → n + length (t ∷ z) ≡ length cut → IsSyntaxFault ts n
syntax_cut ts cut after t z n e r en =
    let is : ts ≡ r.front ++ ((t ∷ z) ++ after) = e ∙ ap (λ x. x ++ after) r.is ∙ append_assoc r.front (t ∷ z) after in
    syntax_by ts r.front ((t ∷ z) ++ after) n is (omega (arith, en, ap length r.is, length-append r.front (t ∷ z))) r.begun
    (λ u y more q b. let h : t ≡ u = cc (q) in r.no_further u z more (ap (λ x. x ∷ z) h) b)
    (λ probes w. r.no_further t z (z ++ after) refl (subst Begins is (tree_begins ts probes w)))

pub less : (a b : ℕ) → (a < b) ⊎ (b ≤ a)
less a zero = inr (omega arith)
less zero (suc b) = inl (omega arith)
less (suc a) (suc b) = elim (less a b) [ inl h ↦ inl (omega arith) | inr h ↦ inr (omega arith) ]

-- where a front begins a script, the syntax fault is behind it
pub syntax_behind : (ts cut after : List Item) (m : ℕ) → ts ≡ cut ++ after → Begins cut → IsSyntaxFault ts m → length cut ≤ m
syntax_behind ts cut after m e b f = elim (less m (length cut)) [
  | inr le ↦ le
  | inl less ↦ absurd (f.longest (length cut) less (omega (arith, ap length e, length-append cut after)) (subst Begins (sym (ap (take (length cut)) e ∙ take_front cut after)) b))
]

syntax_least : (ts : List Item) (n m : ℕ) → IsSyntaxFault ts n → IsSyntaxFault ts m → n ≤ m
syntax_least ts n m f g = elim (less m n) [ inr le ↦ le | inl short ↦ absurd (g.longest n short f.within f.begun) ]

-- ---- depth

pub depth_least : (ts : List Item) (n m : ℕ) → IsDepthFault ts n → IsDepthFault ts m → n ≤ m
depth_least ts n m f g = elim (less m n) [ inr le ↦ le | inl short ↦ (let h : weight (take (m + 1) ts) ≤ NESTING = f.first m short in absurd (omega (arith, h, g.deep))) ]

-- ---- the number of probes

count_read : (ts : List Item) (n : ℕ) (f : IsCountFault ts n) → probes_read PROBES ts ≡ Done f.probes (f.next ∷ f.rest)
count_read ts n f =
    let e : probes_read (length f.probes) (take n ts ++ drop n ts) ≡ Done f.probes (drop n ts) = tree_read (take n ts) f.probes (drop n ts) f.tree in
    subst (λ z. probes_read PROBES ts ≡ Done f.probes z) f.is
    (subst (λ z. probes_read z ts ≡ Done f.probes (drop n ts)) f.full
    (subst (λ z. probes_read (length f.probes) z ≡ Done f.probes (drop n ts)) (take-append-drop n ts) e))

pub count_place : (ts : List Item) (n : ℕ) (f : IsCountFault ts n) → n + length (f.next ∷ f.rest) ≡ length ts
count_place ts n f = omega (arith, ap length f.is, length-drop n ts)

-- with the first token of another probe the tokens still begin a script
another_begins : (front : List Item) (probes : List Probe) (t : Item) → Tree front probes → is_point t.class ≡ true → Begins (front ++ t ∷ [])
another_begins front probes t (zero, w) h = absurd w
another_begins front probes t (suc d, w) h =
    begun (more_at (suc d) (suc (suc (suc d))) (omega arith) WholeScript front probes w)
  where
    begun : whole_at (suc (suc (suc d))) WholeScript front probes → Begins (front ++ t ∷ [])
    begun (xs, ys, a, k, e, wa, l) = (suc (suc (suc d)), inr (xs, ys, t ∷ [], a, probes, k, ap (λ z. z ++ t ∷ []) e ∙ append_assoc xs ys (t ∷ []), wa, l, inl (inl (inr (t, refl, h)))))

take_next : (n : ℕ) (ts : List Item) (t : Item) (rest : List Item) → drop n ts ≡ t ∷ rest → take (n + 1) ts ≡ take n ts ++ t ∷ []
take_next zero ts t rest e = rw e refl
take_next (suc n) [] t rest e = cc (e)
take_next (suc n) (u ∷ ts) t rest e = let h : suc n + 1 ≡ suc (n + 1) = omega arith in rw h (ap (λ z. u ∷ z) (take_next n ts t rest e))

pub count_begins : (ts : List Item) (n : ℕ) → IsCountFault ts n → Begins (take (n + 1) ts)
count_begins ts n f = subst Begins (sym (take_next n ts f.next f.rest f.is)) (another_begins (take n ts) f.probes f.next f.tree f.begins)

pub count_one : (ts : List Item) (n m : ℕ) → IsCountFault ts n → IsCountFault ts m → n ≡ m
count_one ts n m f g =
    let e : Done f.probes (f.next ∷ f.rest) ≡ Done g.probes (g.next ∷ g.rest) = sym (count_read ts n f) ∙ count_read ts m g in
    let q : f.next ∷ f.rest ≡ g.next ∷ g.rest = cc (e) in
    omega (arith, count_place ts n f, count_place ts m g, ap length q)

-- in a front that holds it, and in the tokens, the fault is the same
count_within : (ts cut after : List Item) (n : ℕ) → ts ≡ cut ++ after → n < length cut → IsCountFault ts n → IsCountFault cut n
count_within ts cut after n e short f =
    let d : drop n cut ++ after ≡ f.next ∷ f.rest = sym (drop-append-le n cut after (omega arith)) ∙ ap (drop n) (sym e) ∙ f.is in
    of_drop (drop n cut) refl d
  where
    of_drop : (left : List Item) → drop n cut ≡ left → drop n cut ++ after ≡ f.next ∷ f.rest → IsCountFault cut n
    of_drop [] q d = absurd (omega (arith, ap length q, length-drop n cut))
    of_drop (t ∷ left) q d =
        let h : t ∷ (left ++ after) ≡ f.next ∷ f.rest = ap (λ z. z ++ after) (sym q) ∙ d in
        let ht : t ≡ f.next = cc (h) in
        record {
          probes = f.probes;
          tree = subst (λ z. Tree z f.probes) (ap (take n) e ∙ take-append-le n cut after (omega arith)) f.tree;
          full = f.full;
          next = t;
          rest = left;
          is = q;
          begins = subst (λ z. is_point z.class ≡ true) (sym ht) f.begins;
        }

count_over : (ts cut after : List Item) (n : ℕ) → ts ≡ cut ++ after → IsCountFault cut n → IsCountFault ts n
count_over ts cut after n e f =
    let short : n < length cut = omega (arith, count_place cut n f) in
    record {
      probes = f.probes;
      tree = subst (λ z. Tree z f.probes) (sym (ap (take n) e ∙ take-append-le n cut after (omega arith))) f.tree;
      full = f.full;
      next = f.next;
      rest = f.rest ++ after;
      is = ap (drop n) e ∙ drop-append-le n cut after (omega arith) ∙ ap (λ z. z ++ after) f.is;
      begins = f.begins;
    }

-- another probe that is read
pub record Another (r : List Item) : Type 0 where
  pub probe : Probe
  pub rest : List Item
  pub is : reads OneProbe r ≡ Done probe rest

farther : (k m : ℕ) (ts : List Item) (ps qs : List Probe) (r s : List Item) → probes_read k ts ≡ Done ps r → probes_read m ts ≡ Done qs s → k < m → Another r
farther k zero ts ps qs r s e e' short = absurd (omega arith)
farther zero (suc m) ts ps qs r s e e' short =
    let er : ts ≡ r = cc in
    let n : DoneBoth (reads OneProbe ts) (λ p r. and_then (probes_read m r) (λ ps r'. Done (p ∷ ps) r')) qs s = and_then-done _ _ qs s e' in
    record { probe = n.a; rest = n.r1; is = ap (reads OneProbe) (sym er) ∙ n.front }
farther (suc k) (suc m) ts ps qs r s e e' short =
    let a : DoneBoth (reads OneProbe ts) (λ p r. and_then (probes_read k r) (λ ps r'. Done (p ∷ ps) r')) ps r = and_then-done _ _ ps r e in
    let a' : DoneBoth (probes_read k a.r1) (λ ps r'. Done (a.a ∷ ps) r') ps r = and_then-done _ _ ps r a.back in
    let b : DoneBoth (reads OneProbe ts) (λ p r. and_then (probes_read m r) (λ ps r'. Done (p ∷ ps) r')) qs s = and_then-done _ _ qs s e' in
    let b' : DoneBoth (probes_read m b.r1) (λ ps r'. Done (b.a ∷ ps) r') qs s = and_then-done _ _ qs s b.back in
    let same : Done a.a a.r1 ≡ Done b.a b.r1 = sym a.front ∙ b.front in
    let q : b.r1 ≡ a.r1 = cc (same) in
    let er : a'.r1 ≡ r = cc (a'.back) in
    subst Another er (farther k m a.r1 a'.a b'.a a'.r1 b'.r1 a'.front (ap (probes_read m) (sym q) ∙ b'.front) (omega arith))

-- no more than so many probes are read, and no other one begins behind as many as there may be
pub few : (k : ℕ) (ts : List Item) (probes : List Probe) (r : List Item) → probes_read k ts ≡ Done probes r → k ≤ PROBES
    → (k < PROBES → Another r → ⊥) → (k ≡ PROBES → starts (λ c _. is_point c) r ≡ false) → (n : ℕ) → IsCountFault ts n → ⊥
few k ts probes r e bound none_less none_full n f = elim (less k PROBES) [
  | inl short ↦ none_less short (farther k PROBES ts probes f.probes r (f.next ∷ f.rest) e (count_read ts n f) short)
  | inr long ↦ (let h : k ≡ PROBES = omega arith in
      let q : Done probes r ≡ Done f.probes (f.next ∷ f.rest) = sym (subst (λ z. probes_read z ts ≡ Done probes r) h e) ∙ count_read ts n f in
      let qr : r ≡ f.next ∷ f.rest = cc (q) in
      let no : starts (λ c _. is_point c) (f.next ∷ f.rest) ≡ false = subst (λ z. starts (λ c _. is_point c) z ≡ false) qr (none_full h) in
      let yes : is_point f.next.class ≡ true = f.begins in cc (no, yes))
]

none_left : Another [] → ⊥
none_left a = let h : starts (λ c _. is_point c) [] ≡ true = probe_starts [] a.probe a.rest a.is in cc (h)

pub few_tree : (ts : List Item) (probes : List Probe) → Tree ts probes → length probes ≤ PROBES → (n : ℕ) → IsCountFault ts n → ⊥
few_tree ts probes w bound n f =
    let e : probes_read (length probes) ts ≡ Done probes [] = subst (λ z. probes_read (length probes) z ≡ Done probes []) (append-nil ts) (tree_read ts probes [] w) in
    few (length probes) ts probes [] e bound (λ _. none_left) (λ _. refl) n f

-- ---- the first fault

not_after : (a b : ParseError) → token_of a ≤ token_of b → order_of a ≤ order_of b → NotAfter a b
not_after a b le order = elim (less (token_of a) (token_of b)) [ inl h ↦ inl h | inr h ↦ inr (omega arith, order) ]

pub accepted : (ts : List Item) (script : Script) → IsTreeOf ts script → length script.probes ≤ PROBES → NoDepthFault ts → IsAccepted ts script
accepted ts script w bound shallow = record { tree = w; no_fault = none }
  where
    none : (other : ParseError) → Holds ts other → ⊥
    none (Syntax n) f = f.no_tree script.probes w
    none (TooDeep n) f = shallow n f
    none (TooMany n) f = few_tree ts script.probes w bound n f
    none Memory f = f

-- the tokens are refused, and no token is too deep
pub refused_whole : (ts rest : List Item) (n : ℕ) → RefusedAt ts rest → n + length rest ≡ length ts → NoDepthFault ts → NoCountFault ts → IsRefusal ts (Syntax n)
refused_whole ts rest n r en shallow short = record { holds = syntax_at ts rest n r en; first = first_of }
  where
    first_of : (other : ParseError) → Holds ts other → NotAfter (Syntax n) other
    first_of (Syntax m) f = not_after (Syntax n) (Syntax m) (syntax_least ts n m (syntax_at ts rest n r en) f) (omega arith)
    first_of (TooDeep m) f = absurd (shallow m f)
    first_of (TooMany m) f = absurd (short m f)
    first_of Memory f = absurd f

-- a front of the tokens is refused before its end, and no token in it but the last is too deep
pub refused_front : (ts cut after : List Item) (t : Item) (z : List Item) (n : ℕ) → ts ≡ cut ++ after → RefusedAt cut (t ∷ z) → n + length (t ∷ z) ≡ length cut
    → ((m : ℕ) → IsDepthFault ts m → length cut ≤ m + 1) → NoCountFault cut → IsRefusal ts (Syntax n)
refused_front ts cut after t z n e r en deep short = record { holds = syntax_cut ts cut after t z n e r en; first = first_of }
  where
    first_of : (other : ParseError) → Holds ts other → NotAfter (Syntax n) other
    first_of (Syntax m) f = not_after (Syntax n) (Syntax m) (syntax_least ts n m (syntax_cut ts cut after t z n e r en) f) (omega arith)
    first_of (TooDeep m) f = let h : length cut ≤ m + 1 = deep m f in not_after (Syntax n) (TooDeep m) (omega (arith, h, en)) (omega arith)
    first_of (TooMany m) f = elim (less m (length cut)) [
      | inl within ↦ absurd (short m (count_within ts cut after m e within f))
      | inr behind ↦ inl (omega (arith, en))
    ]
    first_of Memory f = absurd f

-- in a front of the tokens another probe begins behind as many as there may be, before any token that is too deep
pub too_many : (ts cut after : List Item) (n : ℕ) → ts ≡ cut ++ after → IsCountFault cut n → ((m : ℕ) → IsDepthFault ts m → n < m) → IsRefusal ts (TooMany n)
too_many ts cut after n e c deep = record { holds = count_over ts cut after n e c; first = first_of }
  where
    first_of : (other : ParseError) → Holds ts other → NotAfter (TooMany n) other
    first_of (Syntax m) f =
        let place : n + length (c.next ∷ c.rest) ≡ length cut = count_place cut n c in
        let h : length (take (n + 1) ts) ≤ m = syntax_behind ts (take (n + 1) ts) (drop (n + 1) ts) m (sym (take-append-drop (n + 1) ts)) (count_begins ts n (count_over ts cut after n e c)) f in
        let l : length (take (n + 1) ts) ≡ n + 1 = length-take-le (n + 1) ts (omega (arith, place, ap length e, length-append cut after)) in
        inl (omega (arith, h, l))
    first_of (TooDeep m) f = inl (deep m f)
    first_of (TooMany m) f = not_after (TooMany n) (TooMany m) (omega (arith, count_one ts n m (count_over ts cut after n e c) f)) (omega arith)
    first_of Memory f = absurd f

-- the tokens up to the first that is too deep begin a script, and no other probe begins too late before it
pub too_deep : (ts cut after : List Item) (d : ℕ) → ts ≡ cut ++ after → length cut ≡ d + 1 → IsDepthFault ts d → Begins cut → ((m : ℕ) → IsCountFault cut m → d ≤ m) → IsRefusal ts (TooDeep d)
too_deep ts cut after d e len deep b short = record { holds = deep; first = first_of }
  where
    first_of : (other : ParseError) → Holds ts other → NotAfter (TooDeep d) other
    first_of (Syntax m) f = let h : length cut ≤ m = syntax_behind ts cut after m e b f in inl (omega (arith, h, len))
    first_of (TooDeep m) f = not_after (TooDeep d) (TooDeep m) (depth_least ts d m deep f) (omega arith)
    first_of (TooMany m) f = elim (less m (length cut)) [
      | inl within ↦ not_after (TooDeep d) (TooMany m) (short m (count_within ts cut after m e within f)) (omega arith)
      | inr behind ↦ inl (omega (arith, len))
    ]
    first_of Memory f = absurd f

-- what is refused at its end alone begins a script
pub begun_end : (ts : List Item) → RefusedAt ts [] → Begins ts
begun_end ts r = subst Begins (sym (r.is ∙ append-nil r.front)) r.begun
