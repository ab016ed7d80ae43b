-- What begins with so many probes, and what follows them.
use Rattle.std.proofs.Common.{◌≡◌, ℕ, zero, suc, ◌+◌, Bool, true, false, List, [], ◌∷◌, ◌++◌, length, refl, sym, ◌∙◌, ap, subst, inr, ◌⊎◌, append_assoc, arith}
use Rattle.std.specs.Prelude.{if◌then◌else◌, not}
use Rattle.std.proofs.lemmas.List.{append-nil}
use Rattle.bt_ast.specs.declared.probe.Probe.{Probe}
use Rattle.bt_grammar.specs.Classes.{is_point}
use Rattle.bt_grammar.specs.Form.{Item, OneProbe, WholeScript, Call, links}
use Rattle.bt_grammar.specs.Trees.{single, snoc}
use Rattle.bt_grammar.specs.Tables.{nul, sens_of}
use Rattle.bt_grammar.specs.Reading.{Out, Done, Refused, Unfinished, and_then, starts, first, sens, reads, goes_on}
use Rattle.bt_grammar.specs.Grammar.{Tree, whole_at}
use Rattle.bt_grammar.specs.Counts.{probes_read}
use Rattle.bt_grammar.specs.Fine.{Led}
use Rattle.bt_grammar.proofs.Sound.{Calm, Found, DoneBoth, and_then-done}
use Rattle.bt_grammar.proofs.Viable.{links_more}
use Rattle.bt_grammar.proofs.Checked.{fine_rule}
use Rattle.bt_grammar.proofs.Depth.{only_at, more_at, null_at, first_at}
use Rattle.bt_grammar.proofs.Enough.{settled, reads_is}
use Rattle.bt_grammar.proofs.Steps.{some_whole, found_some, goes_on_more, goes_on_stop}

-- a probe is read whatever follows it
pub probe_reads : (d : ℕ) (xs : List Item) (p : Probe) (r : List Item) → whole_at d OneProbe xs p → reads OneProbe (xs ++ r) ≡ Done p r
probe_reads d xs p r w = settled d OneProbe (xs ++ r) (Done p r) (only_at d d (omega arith) OneProbe xs p r w refl) (λ z. cc)

pub probe_starts : (ts : List Item) (p : Probe) (r : List Item) → reads OneProbe ts ≡ Done p r → starts (λ c _. is_point c) ts ≡ true
probe_starts ts p r e =
    let f : Found (sens_of OneProbe) (reads OneProbe) (some_whole OneProbe) ts p r = found_some OneProbe ts p r e in
    head f.xs f.whole.0 f.whole.1 f.is
  where
    head : (xs : List Item) (d : ℕ) → whole_at d OneProbe xs p → ts ≡ xs ++ r → starts (λ c _. is_point c) ts ≡ true
    head [] d w is = let n : nul OneProbe ≡ true = null_at d OneProbe p w in cc (n)
    head (x ∷ xs) d w is = rw is (first_at d OneProbe x xs p w)

-- ---- a tree, by its probes

pub record Linked (k : ℕ) (a : List Probe) (ys r : List Item) (c : List Probe) : Type 0 where
  pub more : List Probe
  pub is : c ≡ a ++ more
  pub count : length more ≡ k
  pub read : probes_read k (ys ++ r) ≡ Done more r

pub linked : (d k : ℕ) (a : List Probe) (ys r : List Item) (c : List Probe) → links snoc (whole_at d OneProbe) k a ys c → Linked k a ys r c
linked d zero a ys r c (e, ec) = record { more = []; is = ec ∙ sym (append-nil a); count = refl; read = rw e refl }
linked d (suc k) a ys r c (us, vs, b, e, w, l) =
    let i : Linked k (a ++ b ∷ []) vs r c = linked d k (a ++ b ∷ []) vs r c l in
    let one : reads OneProbe (us ++ (vs ++ r)) ≡ Done b (vs ++ r) = probe_reads d us b (vs ++ r) w in
    record { more = b ∷ i.more; is = i.is ∙ append_assoc a (b ∷ []) i.more; count = ap suc i.count; read = rw (e, append_assoc us vs r, one, i.read) refl }

-- the probes of a tree are read one after the other, whatever follows
pub tree_read : (front : List Item) (probes : List Probe) (r : List Item) → Tree front probes → probes_read (length probes) (front ++ r) ≡ Done probes r
tree_read front probes r (zero, w) = absurd w
tree_read front probes r (suc d, (xs, ys, a, k, e, (p, ea, w), l)) =
    let i : Linked k a ys r probes = linked d k a ys r probes l in
    let one : reads OneProbe (xs ++ (ys ++ r)) ≡ Done p (ys ++ r) = probe_reads d xs p (ys ++ r) w in
    let is : probes ≡ p ∷ i.more = i.is ∙ ap (λ z. z ++ i.more) ea in
    rw (is, i.count, e, append_assoc xs ys r, one, i.read) refl

pub record Fronts (k : ℕ) (ts : List Item) (probes : List Probe) (r : List Item) : Type 0 where
  pub depth : ℕ
  pub ys : List Item
  pub is : ts ≡ ys ++ r
  pub linked : (a : List Probe) → links snoc (whole_at depth OneProbe) k a ys (a ++ probes)
  pub count : length probes ≡ k

pub fronts : (k : ℕ) (ts : List Item) (probes : List Probe) (r : List Item) → probes_read k ts ≡ Done probes r → Fronts k ts probes r
fronts zero ts probes r e =
    let ep : [] ≡ probes = cc in
    let er : ts ≡ r = cc in
    record { depth = 0; ys = []; is = er; linked = λ a. (refl, ap (λ z. a ++ z) (sym ep) ∙ append-nil a); count = ap length (sym ep) }
fronts (suc k) ts probes r e =
    let m : DoneBoth (reads OneProbe ts) (λ p r. and_then (probes_read k r) (λ ps r'. Done (p ∷ ps) r')) probes r = and_then-done _ _ probes r e in
    let n : DoneBoth (probes_read k m.r1) (λ ps r'. Done (m.a ∷ ps) r') probes r = and_then-done _ _ probes r m.back in
    let ep : m.a ∷ n.a ≡ probes = cc (n.back) in
    let er : n.r1 ≡ r = cc (n.back) in
    let f : Found (sens_of OneProbe) (reads OneProbe) (some_whole OneProbe) ts m.a m.r1 = found_some OneProbe ts m.a m.r1 m.front in
    let g : Fronts k m.r1 n.a n.r1 = fronts k m.r1 n.a n.r1 n.front in
    let d1 : ℕ = f.whole.0 in
    let d : ℕ = d1 + g.depth in
    record {
      depth = d;
      ys = f.xs ++ g.ys;
      is = f.is ∙ ap (λ z. f.xs ++ z) (g.is ∙ ap (λ z. g.ys ++ z) er) ∙ sym (append_assoc f.xs g.ys r);
      linked = λ a. (
        f.xs,
        g.ys,
        m.a,
        refl,
        more_at d1 d (omega arith) OneProbe f.xs m.a f.whole.1,
        subst (λ z. links snoc (whole_at d OneProbe) k (a ++ m.a ∷ []) g.ys z) (append_assoc a (m.a ∷ []) n.a ∙ ap (λ z. a ++ z) ep)
            (links_more snoc (whole_at g.depth OneProbe) (whole_at d OneProbe) (more_at g.depth d (omega arith) OneProbe) k (a ++ m.a ∷ []) g.ys ((a ++ m.a ∷ []) ++ n.a) (g.linked (a ++ m.a ∷ []))),
      );
      count = ap length (sym ep) ∙ ap suc g.count;
    }

pub record ReadTree (k : ℕ) (ts : List Item) (probes : List Probe) (r : List Item) : Type 0 where
  pub front : List Item
  pub is : ts ≡ front ++ r
  pub tree : Tree front probes
  pub count : length probes ≡ k

-- probes that are read one after the other, one at least, are a tree
pub read_tree : (k : ℕ) (ts : List Item) (probes : List Probe) (r : List Item) → probes_read (suc k) ts ≡ Done probes r → ReadTree (suc k) ts probes r
read_tree k ts probes r e =
    let f : Fronts (suc k) ts probes r = fronts (suc k) ts probes r e in
    let l : links snoc (whole_at f.depth OneProbe) (suc k) [] f.ys probes = f.linked [] in
    of_links f.depth f.ys probes l f.is f.count
  where
    of_links : (d : ℕ) (ys : List Item) (c : List Probe) → links snoc (whole_at d OneProbe) (suc k) [] ys c → ts ≡ ys ++ r → length c ≡ suc k → ReadTree (suc k) ts c r
    of_links d ys c (us, vs, b, e, w, l) is count = record { front = ys; is = is; tree = (suc d, (us, vs, single b, k, e, (b, refl, w), l)); count = count }

-- ---- one more probe at the end

pub one_more : (k : ℕ) (ts : List Item) (probes : List Probe) (r : List Item) → probes_read k ts ≡ Done probes r
    → probes_read (suc k) ts ≡ and_then (reads OneProbe r) (λ p r'. Done (probes ++ p ∷ []) r')
one_more zero ts probes r e =
    let ep : [] ≡ probes = cc in
    let er : ts ≡ r = cc in
    rw (← ep, ← er) refl
one_more (suc k) ts probes r e =
    let m : DoneBoth (reads OneProbe ts) (λ p r. and_then (probes_read k r) (λ ps r'. Done (p ∷ ps) r')) probes r = and_then-done _ _ probes r e in
    let n : DoneBoth (probes_read k m.r1) (λ ps r'. Done (m.a ∷ ps) r') probes r = and_then-done _ _ probes r m.back in
    let ep : m.a ∷ n.a ≡ probes = cc (n.back) in
    let er : n.r1 ≡ r = cc (n.back) in
    let i : probes_read (suc k) m.r1 ≡ and_then (reads OneProbe n.r1) (λ p r'. Done (n.a ++ p ∷ []) r') = one_more k m.r1 n.a n.r1 n.front in
    more_of (m.front) i ep er
  where
    more_of : {q : Probe} {qs : List Probe} {r1 r2 : List Item} → reads OneProbe ts ≡ Done q r1 → probes_read (suc k) r1 ≡ and_then (reads OneProbe r2) (λ p r'. Done (qs ++ p ∷ []) r') → q ∷ qs ≡ probes → r2 ≡ r
        → probes_read (suc (suc k)) ts ≡ and_then (reads OneProbe r) (λ p r'. Done (probes ++ p ∷ []) r')
    more_of {q = q} {qs = qs} {r2 = r2} front i ep er = rw (front, i, ← er, ← ep) (push_of (reads OneProbe r2))
      where
        push_of : (o : Out Probe) → and_then (and_then o (λ p r'. Done (qs ++ p ∷ []) r')) (λ ps r'. Done (q ∷ ps) r') ≡ and_then o (λ p r'. Done ((q ∷ qs) ++ p ∷ []) r')
        push_of (Done p r') = refl
        push_of (Refused r') = refl
        push_of Unfinished = refl

-- ---- the loop over probes

same_twice : (x : Bool) → (if x then not x else x) ≡ false
same_twice true = refl
same_twice false = refl

calm_probe : Led (Call OneProbe) ⊎ Calm (sens (Call OneProbe)) (first (Call OneProbe))
calm_probe = inr (λ c. (refl, same_twice (is_point c)))

pub another_probe : (a : List Probe) (ts : List Item) → starts (first (Call OneProbe)) ts ≡ true
    → goes_on snoc (Call OneProbe) a ts ≡ and_then (reads OneProbe ts) (λ p r. goes_on snoc (Call OneProbe) (a ++ p ∷ []) r)
another_probe a ts s = goes_on_more snoc (Call OneProbe) (fine_rule WholeScript).1 calm_probe refl a ts s

pub no_probe : (a : List Probe) (ts : List Item) → starts (first (Call OneProbe)) ts ≡ false → goes_on snoc (Call OneProbe) a ts ≡ Done a ts
no_probe a ts s = goes_on_stop snoc (Call OneProbe) (fine_rule WholeScript).1 calm_probe refl a ts s

first_probe : (ts : List Item) (p : Probe) (r : List Item) → reads OneProbe ts ≡ Done p r → reads WholeScript ts ≡ goes_on snoc (Call OneProbe) (p ∷ []) r
unfolding goes_on
first_probe ts p r h = rw (reads_is WholeScript ts, h) refl

probes_on : (k : ℕ) (a : List Probe) (ts : List Item) (probes : List Probe) (r : List Item) → probes_read k ts ≡ Done probes r
    → goes_on snoc (Call OneProbe) a ts ≡ goes_on snoc (Call OneProbe) (a ++ probes) r
probes_on zero a ts probes r e =
    let ep : [] ≡ probes = cc in
    let er : ts ≡ r = cc in
    rw (← ep, ← er, append-nil a) refl
probes_on (suc k) a ts probes r e =
    let m : DoneBoth (reads OneProbe ts) (λ p r. and_then (probes_read k r) (λ ps r'. Done (p ∷ ps) r')) probes r = and_then-done _ _ probes r e in
    let n : DoneBoth (probes_read k m.r1) (λ ps r'. Done (m.a ∷ ps) r') probes r = and_then-done _ _ probes r m.back in
    let ep : m.a ∷ n.a ≡ probes = cc (n.back) in
    let er : n.r1 ≡ r = cc (n.back) in
    another_probe a ts (probe_starts ts m.a m.r1 m.front)
    ∙ ap (λ z. and_then z (λ b r. goes_on snoc (Call OneProbe) (a ++ b ∷ []) r)) m.front
    ∙ probes_on k (a ++ m.a ∷ []) m.r1 n.a n.r1 n.front
    ∙ ap (λ z. goes_on snoc (Call OneProbe) z n.r1) (append_assoc a (m.a ∷ []) n.a ∙ ap (λ z. a ++ z) ep)
    ∙ ap (λ z. goes_on snoc (Call OneProbe) (a ++ probes) z) er

-- the script goes on with what is left behind its first probes
pub script_behind : (k : ℕ) (ts : List Item) (probes : List Probe) (r : List Item) → probes_read (suc k) ts ≡ Done probes r
    → reads WholeScript ts ≡ goes_on snoc (Call OneProbe) probes r
script_behind k ts probes r e =
    let m : DoneBoth (reads OneProbe ts) (λ p r. and_then (probes_read k r) (λ ps r'. Done (p ∷ ps) r')) probes r = and_then-done _ _ probes r e in
    let n : DoneBoth (probes_read k m.r1) (λ ps r'. Done (m.a ∷ ps) r') probes r = and_then-done _ _ probes r m.back in
    let ep : m.a ∷ n.a ≡ probes = cc (n.back) in
    let er : n.r1 ≡ r = cc (n.back) in
    first_probe ts m.a m.r1 m.front ∙ probes_on k (m.a ∷ []) m.r1 n.a n.r1 n.front ∙ ap (λ z. goes_on snoc (Call OneProbe) z n.r1) ep ∙ ap (λ z. goes_on snoc (Call OneProbe) probes z) er
