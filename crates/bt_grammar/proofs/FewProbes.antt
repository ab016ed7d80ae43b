-- How many probes a script has in which nothing is refused.
use Rattle.std.proofs.Common.{◌≡◌, ℕ, zero, suc, ◌<◌, ◌≤◌, true, List, [], ◌∷◌, length, refl, ◌∙◌, ap, subst, inl, inr, arith, length-append}
use Rattle.std.proofs.lemmas.List.{append-nil}
use Rattle.bt_core.specs.declared.limits.TheConstants.{PROBES}
use Rattle.bt_ast.specs.declared.probe.Probe.{Probe}
use Rattle.bt_ast.specs.declared.probe.Script.{Script}
use Rattle.bt_grammar.specs.declared.error.ParseError.TheVariants.{TooMany}
use Rattle.bt_grammar.specs.Classes.{is_point}
use Rattle.bt_grammar.specs.Counts.{probes_read}
use Rattle.bt_grammar.specs.Form.{Item, OneProbe}
use Rattle.bt_grammar.specs.Reading.{Out, Done, and_then, starts, reads}
use Rattle.bt_grammar.specs.Refusals.{IsAccepted}
use Rattle.bt_grammar.proofs.Counts.{ReadTree, read_tree, tree_read, probe_starts}
use Rattle.bt_grammar.proofs.Decide.{less}
use Rattle.bt_grammar.proofs.Scripts.{full_at}
use Rattle.bt_grammar.proofs.Sound.{DoneBoth, and_then-done}

-- so many probes from the front, and the first token of another one
record FirstProbes (k : ℕ) (ts : List Item) : Type 0 where
  probes : List Probe
  next : Item
  rest : List Item
  read : probes_read k ts ≡ Done probes (next ∷ rest)
  begins : is_point next.class ≡ true

next_probe : (ts : List Item) → starts (λ c _. is_point c) ts ≡ true → FirstProbes 0 ts
next_probe [] h = cc (h)
next_probe (t ∷ z) h = record { probes = []; next = t; rest = z; read = refl; begins = h }

first_probes : (k n : ℕ) → k < n → (ts : List Item) (probes : List Probe) (r : List Item) → probes_read n ts ≡ Done probes r → FirstProbes k ts
first_probes k zero short ts probes r e = absurd (omega arith)
first_probes zero (suc n) short ts probes r e =
    let m : DoneBoth (reads OneProbe ts) (λ p r. and_then (probes_read n r) (λ ps r'. Done (p ∷ ps) r')) probes r = and_then-done _ _ probes r e in
    next_probe ts (probe_starts ts m.a m.r1 m.front)
first_probes (suc k) (suc n) short ts probes r e =
    let m : DoneBoth (reads OneProbe ts) (λ p r. and_then (probes_read n r) (λ ps r'. Done (p ∷ ps) r')) probes r = and_then-done _ _ probes r e in
    let b : DoneBoth (probes_read n m.r1) (λ ps r'. Done (m.a ∷ ps) r') probes r = and_then-done _ _ probes r m.back in
    let i : FirstProbes k m.r1 = first_probes k n (omega arith) m.r1 b.a b.r1 b.front in
    record { probes = m.a ∷ i.probes; next = i.next; rest = i.rest; read = ap (λ (o : Out Probe). and_then o (λ p r. and_then (probes_read k r) (λ ps r'. Done (p ∷ ps) r'))) m.front ∙ ap (λ (o : Out (List Probe)). and_then o (λ ps r'. Done (m.a ∷ ps) r')) i.read; begins = i.begins }

pub few_probes : (ts : List Item) (script : Script) → IsAccepted ts script → length script.probes ≤ PROBES
few_probes ts script h = elim (less PROBES (length script.probes)) [
  | inr le ↦ le
  | inl more ↦ (let e : probes_read (length script.probes) ts ≡ Done script.probes [] = subst (λ z. probes_read (length script.probes) z ≡ Done script.probes []) (append-nil ts) (tree_read ts script.probes [] h.tree) in
      let f : FirstProbes PROBES ts = first_probes PROBES (length script.probes) more ts script.probes [] e in
      let t : ReadTree PROBES ts f.probes (f.next ∷ f.rest) = read_tree 63 ts f.probes (f.next ∷ f.rest) f.read in
      absurd (h.no_fault (TooMany (length t.front)) (full_at ts f.probes f.next f.rest (length t.front) f.read f.begins (omega (arith, ap length t.is, length-append t.front (f.next ∷ f.rest))))))
]
