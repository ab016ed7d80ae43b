-- The text of a tree is read back.
use Rattle.std.proofs.Common.{◌≡◌, ℕ, ◌≤◌, List, length, ap, sym, subst, ◌∙◌}
use Rattle.std.proofs.lemmas.List.{length-map}
use Rattle.bt_core.specs.declared.limits.TheConstants.{PROBES}
use Rattle.bt_lexer.specs.declared.token.TokenKind.{TokenKind}
use Rattle.bt_grammar.specs.declared.error.ParseError.TheVariants.{TooDeep}
use Rattle.bt_grammar.specs.Refusals.{NoDepthFault, IsAccepted}
use Rattle.bt_grammar.proofs.Decide.{accepted}
use Rattle.bt_grammar.proofs.FewProbes.{few_probes}
use Rattle.bt_lexer.specs.declared.token.Token.{Token}
use Rattle.bt_lexer.specs.Tokens.{IsTokensOf}
use Rattle.bt_ast.specs.declared.probe.Probe.{Probe}
use Rattle.bt_ast.specs.declared.probe.Script.{Script}
use Rattle.ast_text.specs.Scripts.{script_text}
use Rattle.bt_grammar.specs.Form.{WholeScript}
use Rattle.bt_grammar.specs.Tokens.{items}
use Rattle.bt_grammar.specs.Grammar.{IsTreeOf}
use Rattle.read_back_laws.specs.Bare.{bare, bare_probe}
use Rattle.read_back_laws.specs.ReadBack.{IsAcceptedAs, IsReadAs}
use Rattle.read_back_laws.proofs.Lexemes.{Are, read_back, honest_tokens}
use Rattle.read_back_laws.proofs.CanonicalWeights.{Shallow, shallow_no_fault}
use Rattle.read_back_laws.proofs.CanonicalParts.{lift_part}

abbrev script_of : List Probe → Script
script_of probes = record { probes = probes }

-- the script that is read back, by kinds that write it
pub record ReadBack (text : List ℕ) (tokens : List Token) (script : Script) : Type 0 where
  pub kinds : List TokenKind
  pub again : List Token
  pub same : Script
  pub shallow : Shallow (items tokens) kinds
  pub are : Are kinds (items again)
  pub lexed : IsTokensOf (script_text script) again
  pub tree : IsTreeOf (items again) same
  pub is : bare same ≡ bare script

back : (text : List ℕ) (tokens : List Token) (script : Script) → IsTokensOf text tokens → IsTreeOf (items tokens) script → ReadBack text tokens script
back text tokens script t (d, w) =
    let (ks, v, s, read) = (lift_part d WholeScript).lift (items tokens) script.probes (honest_tokens text tokens t) w in
    let (again, is, are) = read_back ks v in
    let (probes, w', r) = read (items again) are in
    record { kinds = ks; again = again; same = script_of probes; shallow = s; are = are; lexed = subst (λ (z : List ℕ). IsTokensOf z again) r.0 is; tree = (d, w'); is = ap script_of r.1 }

pub tree_is_read_back : (text : List ℕ) (tokens : List Token) (script : Script) → IsTokensOf text tokens → IsTreeOf (items tokens) script → IsReadAs (script_text script) script
tree_is_read_back text tokens script t tree =
    let b = back text tokens script t tree in record { tokens = b.again; lexed = b.lexed; same = b.same; tree = b.tree; is = b.is }

-- ---- the number of probes

same_count : (same script : Script) → bare same ≡ bare script → length same.probes ≡ length script.probes
same_count same script e = sym (length-map same.probes bare_probe) ∙ (ap (λ (s : Script). length s.probes) e ∙ length-map script.probes bare_probe)

-- nothing is refused in what is read back
pub accepted_again : (text : List ℕ) (tokens : List Token) (script : Script) → IsTokensOf text tokens → IsAccepted (items tokens) script
    → IsAcceptedAs (script_text script) script
accepted_again text tokens script t a =
    let b = back text tokens script t a.tree in
    let few : length b.same.probes ≤ PROBES = subst (λ (n : ℕ). n ≤ PROBES) (sym (same_count b.same script b.is)) (few_probes (items tokens) script a) in
    let shallow : NoDepthFault (items b.again) = shallow_no_fault (items tokens) (items b.again) b.kinds b.shallow b.are (λ n f. a.no_fault (TooDeep n) f) in
    record { tokens = b.again; lexed = b.lexed; same = b.same; accepted = accepted (items b.again) b.same b.tree few shallow; is = b.is }
