-- How the loop over probes ends, and what the parser answers then.
use Rattle.std.proofs.Common.{◌≡◌, ◌≢◌, ℕ, suc, ◌<◌, ◌≤◌, true, false, List, [], ◌∷◌, ◌++◌, length, Result, Ok, Err, refl, sym, ◌∙◌, ap, subst, arith, length-append}
use Rattle.std.specs.Prelude.{IsErrAnd, IsOkAnd}
use Rattle.bt_core.specs.Want.{out_of_memory}
use Rattle.bt_core.specs.declared.limits.TheConstants.{PROBES}
use Rattle.bt_lexer.specs.declared.token.Token.{Token}
use Rattle.bt_ast.specs.declared.probe.Probe.{Probe}
use Rattle.bt_parser.specs.declared.fault.Fault.{Fault}
use Rattle.bt_parser.specs.declared.fault.Fault.TheVariants.{OutOfMemory, Syntax}
use Rattle.bt_parser.specs.declared.script.Outcome.{Outcome}
use Rattle.bt_parser.specs.declared.script.Outcome.TheVariants as outcomes
use Rattle.bt_parser.specs.Contract.{Reads}
use Rattle.bt_grammar.specs.Form.{OneProbe}
use Rattle.bt_grammar.specs.Reading.{Done, Refused, and_then, reads}
use Rattle.bt_grammar.specs.Tokens.{items, item}
use Rattle.bt_grammar.specs.Counts.{probes_read}
use Rattle.bt_grammar.specs.Grammar.{RefusedAt}
use Rattle.bt_parser.specs.Outcomes.{Ends, Gives, another}
use Rattle.bt_grammar.proofs.Steps.{length-items}
use Rattle.bt_grammar.proofs.Counts.{one_more}
use Rattle.bt_grammar.proofs.Scripts.{whole_end, refused_first, refused_probe, refused_behind, full_at, few_refused, few_behind}

abbrev pub Read : List Token → List Probe → List Token → Type 0
Read old probes left = probes_read (length probes) (items old) ≡ Done probes (items left)

-- another probe begins behind the most
pub full : (old left : List Token) (probes : List Probe) → Read old probes left → length probes ≡ PROBES → another probes (items left) ≡ true → Gives old left outcomes.Full
full old left [] e k h n en = absurd (omega (arith, k))
full old [] (p ∷ ps) e k h n en = cc (h)
full old (t ∷ left) (p ∷ ps) e k h n en =
    full_at (items old) (p ∷ ps) (item t) (items left) n (subst (λ z. probes_read z (items old) ≡ Done (p ∷ ps) (items (t ∷ left))) k e) h
    (omega (arith, en, length-items (t ∷ left), length-items old))

-- the next probe is refused
pub refused_next : (old mid left : List Token) (probes : List Probe) → Read old probes mid → length probes ≤ PROBES → length probes ≢ PROBES
    → another probes (items mid) ≡ true → reads OneProbe (items mid) ≡ Refused (items left) → Gives old left outcomes.Refused
refused_next old mid left [] e few more start h =
    let q : items old ≡ items mid = cc (e) in
    (refused_first (items old) (items left) (ap (reads OneProbe) q ∙ h), few_refused 0 (items old) [] (items mid) (items left) e (omega arith) h)
refused_next old mid left (p ∷ ps) e few more start h =
    (refused_probe (length ps) (items old) (p ∷ ps) (items mid) (items left) e start h, few_refused (length (p ∷ ps)) (items old) (p ∷ ps) (items mid) (items left) e (below (length (p ∷ ps)) few more) h)
  where
    below : (k : ℕ) → k ≤ PROBES → k ≢ PROBES → k < PROBES
    below k few more = omega (arith, few, more)

-- what is refused is left of what there was
pub refused_short : (old left : List Token) → RefusedAt (items old) (items left) → length left ≤ length old
refused_short old left r = omega (arith, ap length r.is, length-append r.front (items left), length-items old, length-items left)

-- the next probe is read
pub read_next : (old mid left : List Token) (probes : List Probe) (p : Probe) → Read old probes mid → reads OneProbe (items mid) ≡ Done p (items left)
    → Read old (probes ++ p ∷ []) left
read_next old mid left probes p e h =
    let k : length (probes ++ p ∷ []) ≡ suc (length probes) = omega (arith, length-append probes (p ∷ [])) in
    ap (λ z. probes_read z (items old)) k ∙ one_more (length probes) (items old) probes (items mid) e ∙ ap (λ z. and_then z (λ q r. Done (probes ++ q ∷ []) r)) h

-- the same with the list of what was read
pub read_added : (old mid left : List Token) (probes longer : List Probe) (answer : Result Probe Fault) → Read old probes mid → Reads (reads OneProbe (items mid)) answer left
    → IsOkAnd answer (λ probe. longer ≡ probes ++ probe ∷ []) → Read old longer left
read_added old mid left probes longer (Ok p) e h k = subst (λ z. Read old z left) (sym k) (read_next old mid left probes p e h)
read_added old mid left probes longer (Err d) e h k = absurd k

pub few_added : (probes longer : List Probe) (answer : Result Probe Fault) → length probes ≤ PROBES → length probes ≢ PROBES → IsOkAnd answer (λ probe. longer ≡ probes ++ probe ∷ [])
    → length longer ≤ PROBES
few_added probes longer (Ok p) few more k = omega (arith, few, more, ap length k, length-append probes (p ∷ []))
few_added probes longer (Err d) few more k = absurd k

-- what is refused, unless there is no memory
pub ends_refused : (old left : List Token) (e : Fault) (r : Result Outcome Fault) → IsErrAnd r (λ d. d ≡ e) → (e ≢ OutOfMemory out_of_memory → Gives old left outcomes.Refused)
    → Ends old left r
ends_refused old left e (Ok outcome) m h = absurd m
ends_refused old left e (Err d) m h = λ other. h (λ x. other (m ∙ x))

pub syntax_gives : (old left : List Token) → Ends old left (Err Syntax) → Gives old left outcomes.Refused
syntax_gives old left h = h (λ q. cc (q))

-- no token is left
pub whole : (old left : List Token) (probes : List Probe) → Read old probes left → length probes ≤ PROBES → another probes (items left) ≡ false → length left ≡ 0 → Gives old left (outcomes.Whole probes)
whole old left [] e few h none = cc (h)
whole old [] (p ∷ ps) e few h none = (whole_end (length ps) (items old) (p ∷ ps) e, few)
whole old (t ∷ left) (p ∷ ps) e few h none = absurd (omega (arith, none))

-- a token is left that begins no probe
pub refused_left : (old left : List Token) (probes : List Probe) → Read old probes left → length probes ≤ PROBES → another probes (items left) ≡ false → length left ≢ 0
    → Gives old left outcomes.Refused
refused_left old left [] e few h some = cc (h)
refused_left old [] (p ∷ ps) e few h some = absurd (some refl)
refused_left old (t ∷ left) (p ∷ ps) e few h some =
    (refused_behind (length ps) (items old) (p ∷ ps) (item t) (items left) e h, few_behind (length (p ∷ ps)) (items old) (p ∷ ps) (items (t ∷ left)) e few h)
