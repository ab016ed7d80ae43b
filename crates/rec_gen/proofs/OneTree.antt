-- The script has one tree.
use Rattle.std.proofs.Common.{◌≡◌, ℕ, List, [], ◌∷◌, refl, ap, subst}
use Rattle.bt_ast.specs.declared.attached.Attached.{Attached}
use Rattle.bt_ast.specs.declared.probe.Probe.{Probe}
use Rattle.bt_ast.specs.declared.probe.Script.{Script}
use Rattle.bt_attach.specs.Attaching.{IsAttachedTo, bodies_from}
use Rattle.bt_grammar.specs.Form.{WholeScript}
use Rattle.bt_grammar.specs.Grammar.{Tree, Answer}
use Rattle.bt_grammar.specs.Reading.{Done, read_at}
use Rattle.bt_grammar.specs.Tokens.{items}
use Rattle.bt_grammar.specs.Words.{word_class, mark_class}
use Rattle.bt_grammar.proofs.Depth.{exact}
use Rattle.bt_lexer.specs.declared.token.Token.{Token}
use Rattle.bt_lexer.proofs.Results.{one_list}
use Rattle.bt_lexer.proofs.Whole.{tokens_found}
use Rattle.bt_types.specs.Script.{IsTypedScript}
use Rattle.recordings.specs.declared.recording.Recording.{Recording}
use Rattle.rec_gen.specs.Made.{IsMade}
use Rattle.typed_tree.specs.declared.script.Typed.{Typed}
use Rattle.rec_gen.specs.declared.script.TheConstants.{SCRIPT}
use Rattle.rec_gen.specs.Jobs.{IsTypedOver, IsAttachedOver}
use Rattle.rec_gen.specs.Tree.{IsTree}
use Rattle.rec_gen.proofs.Grammar.{the_tree, the_probe, the_items}
use Rattle.rec_gen.proofs.Tokens.{the_tokens, lexes}
use Rattle.rec_gen.proofs.Typed.{IsTyped, typed_script}

whole_read : read_at 40 WholeScript the_items ≡ Done (the_probe ∷ []) []
unfolding word_class mark_class
whole_read = refl

answer : Answer the_items (Done (the_probe ∷ []) [])
answer = subst (Answer the_items) whole_read (exact 40 the_items)

pub tree_is : (tree : Script) → IsTree tree → tree ≡ the_tree
tree_is tree h =
    let tokens : h.tokens ≡ the_tokens = one_list SCRIPT h.tokens the_tokens h.are (tokens_found SCRIPT the_tokens lexes) in
    let probes : tree.probes ≡ the_probe ∷ [] = answer.1 tree.probes (subst (λ (l : List Token). Tree (items l) tree.probes) tokens h.is.tree) in
    ap (λ (ps : List Probe). record { probes = ps }) probes

pub typed_over : (seed count : ℕ) (r : Recording) → IsMade seed count r → (typed : Typed) → IsTypedOver r typed → IsTyped typed
typed_over seed count r made typed h =
    typed_script seed count r made typed (subst (λ (t : Script). IsTypedScript t r.formats (bodies_from r.formats 0 t.probes) typed) (tree_is h.tree h.has) h.is)

pub attached_over : (r : Recording) (attached : Attached) → IsAttachedOver r attached → IsAttachedTo the_tree r.formats r.start r.end attached
attached_over r attached h = subst (λ (t : Script). IsAttachedTo t r.formats r.start r.end attached) (tree_is h.tree h.has) h.is
