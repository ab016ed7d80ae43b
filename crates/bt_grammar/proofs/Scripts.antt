-- What the loop over probes answers.
use Rattle.std.proofs.Common.{◌≡◌, ℕ, suc, ◌+◌, ◌*◌, ◌<◌, ◌≤◌, true, false, List, [], ◌∷◌, ◌++◌, length, take, drop, refl, sym, ◌∙◌, ap, subst, arith, length-append}
use Rattle.std.proofs.lemmas.List.{append-nil}
use Rattle.bt_core.specs.declared.limits.TheConstants.{PROBES}
use Rattle.bt_ast.specs.declared.probe.Probe.{Probe}
use Rattle.bt_grammar.specs.Classes.{is_point}
use Rattle.bt_grammar.specs.Form.{Item, OneProbe, WholeScript, Call}
use Rattle.bt_grammar.specs.Trees.{snoc}
use Rattle.bt_grammar.specs.Tables.{width}
use Rattle.bt_grammar.specs.Reading.{Out, Done, Refused, and_then, starts, reads, goes_on}
use Rattle.bt_grammar.specs.Grammar.{Tree, RefusedAt, Answer}
use Rattle.bt_grammar.specs.Counts.{probes_read}
use Rattle.bt_grammar.specs.Refusals.{IsCountFault, NoCountFault}
use Rattle.bt_grammar.proofs.Depth.{exact}
use Rattle.bt_grammar.proofs.Enough.{reads_is}
use Rattle.bt_grammar.proofs.Counts.{ReadTree, read_tree, script_behind, another_probe, no_probe, probe_starts}
use Rattle.bt_grammar.proofs.Decide.{few, take_front}

-- what reading the tokens answers is so
pub reads_answer : (ts : List Item) → Answer ts (reads WholeScript ts)
unfolding reads
reads_answer ts = exact (suc (width * length ts + width)) ts

answered : (ts : List Item) (o : Out (List Probe)) → reads WholeScript ts ≡ o → Answer ts o
answered ts o e = subst (Answer ts) e (reads_answer ts)

-- probes up to the end are the script
pub whole_end : (k : ℕ) (ts : List Item) (probes : List Probe) → probes_read (suc k) ts ≡ Done probes [] → Tree ts probes
whole_end k ts probes e =
    let t : ReadTree (suc k) ts probes [] = read_tree k ts probes [] e in
    subst (λ z. Tree z probes) (sym (t.is ∙ append-nil t.front)) t.tree

-- a probe that is refused
pub refused_probe : (k : ℕ) (ts : List Item) (probes : List Probe) (r r' : List Item) → probes_read (suc k) ts ≡ Done probes r
    → starts (λ c _. is_point c) r ≡ true → reads OneProbe r ≡ Refused r' → RefusedAt ts r'
refused_probe k ts probes r r' e s h = answered ts (Refused r') (script_behind k ts probes r e ∙ another_probe probes r s ∙ ap (λ z. and_then z (λ p r. goes_on snoc (Call OneProbe) (probes ++ p ∷ []) r)) h)

pub refused_first : (ts r' : List Item) → reads OneProbe ts ≡ Refused r' → RefusedAt ts r'
refused_first ts r' h = answered ts (Refused r') (reads_is WholeScript ts ∙ rw h refl)

-- a token behind probes that begins no other
pub refused_behind : (k : ℕ) (ts : List Item) (probes : List Probe) (t : Item) (z : List Item) → probes_read (suc k) ts ≡ Done probes (t ∷ z)
    → is_point t.class ≡ false → RefusedAt ts (t ∷ z)
refused_behind k ts probes t z e s = answered ts (Done probes (t ∷ z)) (script_behind k ts probes (t ∷ z) e ∙ no_probe probes (t ∷ z) s)

drop_front : (front rest : List Item) → drop (length front) (front ++ rest) ≡ rest
drop_front [] rest = refl
drop_front (f ∷ front) rest = drop_front front rest

-- another probe behind as many as there may be
pub full_at : (ts : List Item) (probes : List Probe) (t : Item) (z : List Item) (n : ℕ) → probes_read PROBES ts ≡ Done probes (t ∷ z)
    → is_point t.class ≡ true → n + length (t ∷ z) ≡ length ts → IsCountFault ts n
full_at ts probes t z n e h en =
    let r : ReadTree PROBES ts probes (t ∷ z) = read_tree 63 ts probes (t ∷ z) e in
    let place : n ≡ length r.front = omega (arith, en, ap length r.is, length-append r.front (t ∷ z)) in
    record {
      probes = probes;
      tree = subst (λ z. Tree z probes) (sym (ap (λ z. take z ts) place ∙ ap (take (length r.front)) r.is ∙ take_front r.front (t ∷ z))) r.tree;
      full = r.count;
      next = t;
      rest = z;
      is = ap (λ z. drop z ts) place ∙ ap (drop (length r.front)) r.is ∙ drop_front r.front (t ∷ z);
      begins = h;
    }

-- no other probe begins too late
pub few_refused : (k : ℕ) (ts : List Item) (probes : List Probe) (r r' : List Item) → probes_read k ts ≡ Done probes r → k < PROBES → reads OneProbe r ≡ Refused r' → NoCountFault ts
few_refused k ts probes r r' e short h n f = few k ts probes r e (omega arith) (λ _ a. let q : Refused r' ≡ Done a.probe a.rest = sym h ∙ a.is in cc (q)) (λ q. absurd (omega (arith, q))) n f

pub few_behind : (k : ℕ) (ts : List Item) (probes : List Probe) (r : List Item) → probes_read k ts ≡ Done probes r → k ≤ PROBES → starts (λ c _. is_point c) r ≡ false → NoCountFault ts
few_behind k ts probes r e bound s n f = few k ts probes r e bound (λ _ a. let y : starts (λ c _. is_point c) r ≡ true = probe_starts r a.probe a.rest a.is in cc (y, s)) (λ _. s) n f
