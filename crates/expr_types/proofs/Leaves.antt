-- Expressions by what they are: those without parts, and those that are what is told of their part.
use Rattle.std.proofs.Common.{◌≡◌, ℕ, List, [], ◌∷◌, length, nat_lt, Result, Ok, IfOk, refl, sym, ap, subst, ◌∙◌}
use Rattle.bt_core.specs.declared.limits.TheConstants.{STRING_BYTES}
use Rattle.bt_core.specs.declared.map.Shape.TheVariants.{Str}
use Rattle.bt_core.specs.declared.place.Place.{Place}
use Rattle.bt_core.specs.Text.{short_text}
use Rattle.bt_ast.specs.declared.expr.Builtin.{Builtin}
use Rattle.bt_ast.specs.declared.expr.Builtin.TheVariants.{Pid, Tid, Uid, Gid, Comm, Cpu, Nsecs, Elapsed}
use Rattle.bt_ast.specs.declared.expr.ExprKind.{ExprKind}
use Rattle.typed_tree.specs.declared.expr.AnyExpr.{AnyExpr}
use Rattle.typed_tree.specs.Parts.{Literal, Made, made, made_of}
use Rattle.expr_types.specs.declared.fault.Rule.TheVariants.{WrongType}
use Rattle.expr_types.specs.declared.fault.TypeError.{TypeError}
use Rattle.expr_types.specs.declared.known.Known.{Known}
use Rattle.expr_types.specs.Mentions.{Text, NeedsShort, TextWord, BuiltinWord}
use Rattle.expr_types.specs.Judge.{Refuses}
use Rattle.expr_types.specs.Join.{builtin_made}
use Rattle.expr_types.specs.Rules.{breaks}
use Rattle.expr_types.specs.Walk.{Seen, at, seen, builtin_sort, of_kind}
use Rattle.expr_types.specs.Typing.{IsTyping}
use Rattle.expr_types.specs.Checked.{Checks}
use Rattle.expr_types.proofs.Constructs.{literal_checks}
use Rattle.expr_types.proofs.Growing.{grows_none}

-- what is checked of the kind is checked of the expression
pub arm_checks : (kind k : ExprKind) (s : Seen) (place : Place) (before now : Known) (r : Result AnyExpr TypeError) → kind ≡ k → of_kind k place ≡ s → Checks s before now r
    → Checks (of_kind kind place) before now r
arm_checks kind k s place before now r is seen h = subst (λ (x : Seen). Checks x before now r) (sym (ap (λ (x : ExprKind). of_kind x place) is ∙ seen)) h

pub text_checks : (k : Known) (given text : List ℕ) (place : Place) (r : Result AnyExpr TypeError) → given ≡ text → Refuses (breaks (nat_lt STRING_BYTES (length given)) WrongType) place r
    → IfOk r (λ e. made_of e ≡ made Str (Literal (short_text given) ∷ [])) → Checks (seen (at place (NeedsShort text) ∷ []) Text (TextWord (short_text text) ∷ [])) k k r
text_checks k given text place r same h is =
    subst (λ (t : List ℕ). Checks (seen (at place (NeedsShort t) ∷ []) Text (TextWord (short_text t) ∷ [])) k k r) same (literal_checks k given place r h is)

builtin_typing : (k : Known) (b : Builtin) → IsTyping k (builtin_sort b) (BuiltinWord b ∷ []) (builtin_made b)
builtin_typing k Pid = record { shape = refl; fits = (tt, tt); written = refl }
builtin_typing k Tid = record { shape = refl; fits = (tt, tt); written = refl }
builtin_typing k Uid = record { shape = refl; fits = (tt, tt); written = refl }
builtin_typing k Gid = record { shape = refl; fits = (tt, tt); written = refl }
builtin_typing k Comm = record { shape = refl; fits = (tt, tt); written = refl }
builtin_typing k Cpu = record { shape = refl; fits = (tt, tt); written = refl }
builtin_typing k Nsecs = record { shape = refl; fits = (tt, tt); written = refl }
builtin_typing k Elapsed = record { shape = refl; fits = (tt, tt); written = refl }

pub builtin_checks : (k : Known) (b : Builtin) (e : AnyExpr) → made_of e ≡ builtin_made b → Checks (seen [] (builtin_sort b) (BuiltinWord b ∷ [])) k k (Ok e)
builtin_checks k b e is =
    record { whole = refl; grows = grows_none k; typing = subst (λ (m : Made). IsTyping k (builtin_sort b) (BuiltinWord b ∷ []) m) (sym is) (builtin_typing k b) }
