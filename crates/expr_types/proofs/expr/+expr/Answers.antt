use Rattle.std.proofs.lemmas.Grind.{common_steps}
use Rattle.std.proofs.Common.{◌≡◌, ◌+◌, List, [], ◌∷◌, map, take, sym, ap, subst, Result, Ok, Err, arith}
use Rattle.std.proofs.lemmas.Result.{err_from_is_err_and}
use Rattle.bt_ast.specs.declared.expr.Expr.{Expr}
use Rattle.bt_ast.specs.declared.expr.IncDec.{out-IncDec}
use Rattle.bt_ast.specs.declared.expr.MapRef.{out-MapRef}
use Rattle.typed_tree.specs.declared.expr.AnyExpr.{AnyExpr}
use Rattle.typed_tree.specs.declared.expr.NumExpr.{NumExpr}
use Rattle.typed_tree.specs.Parts.{Made, made_of}
use Rattle.bt_core.specs.Text.{short_text}
use Rattle.bt_ast.specs.declared.expr.ExprKind.TheVariants as kinds
use Rattle.expr_types.specs.Mentions.{Text, OfVar, OfField, NeedsShort, Args, ReadsField, ReadsVar, TextWord, BuiltinWord, FieldWord, VarWord}
use Rattle.expr_types.specs.declared.fault.TypeError.{TypeError}
use Rattle.expr_types.specs.declared.known.Known.{Known}
use Rattle.expr_types.specs.declared.leaf.Joint.TheVariants.{Operator, And, Or}
use Rattle.expr_types.specs.Joint.{joint_seen}
use Rattle.expr_types.specs.Judge.{judged, SaysFault}
use Rattle.expr_types.specs.Walk.{Seen, MapSeen, OnMap, at, seen, builtin_sort, points_of, of_expr, of_map, of_step, map_read, step_seen, unary_seen, choose_seen}
use Rattle.expr_types.specs.Typing.{AreTyping}
use Rattle.expr_types.specs.Checked.{Checked, Checks, ChecksNumber, AllChecked, KeyChecked}
use Rattle.expr_types.proofs.Composing.{front_refused, later_refused, unary_checks, choose_checks}
use Rattle.expr_types.proofs.Constructs.{joint_checks}
use Rattle.expr_types.proofs.Keys.{key_checked}
use Rattle.expr_types.proofs.Leaves.{arm_checks, text_checks, builtin_checks}
use Rattle.expr_types.proofs.Trees.{any_num}
use Rattle.expr_types.proofs.Layers.{text_is, builtin_is, field_is, var_is, read_is, paren_is, step_is, unary_is, binary_is, and_is, or_is, choose_is, map_is, step_of_map}
use Rattle.expr_types.proofs.Reading.{read_checks, step_checks}
use Rattle.expr_types.proofs.Several.{left_refused, next_left, next_typing, next_grows}
use Rattle.expr_types.proofs.expr.+expr.Goals as goal

-- an error that is handed on
handed_on : (s : Seen) (before now : Known) (r : Result AnyExpr TypeError) (e f : TypeError) → r ≡ Err e → e ≡ f → SaysFault (judged s.points before) f → Checks s before now r
handed_on s before now r e f is same h = rw (is, same) h

-- what an answer says of the error, and of the value, that it is
fault_of : (s : Seen) (before now : Known) (r : Result AnyExpr TypeError) (e : TypeError) → r ≡ Err e → Checks s before now r → SaysFault (judged s.points before) e
fault_of s before now r e is h = subst (λ (x : Result AnyExpr TypeError). Checks s before now x) is h

checked_of : (s : Seen) (before now : Known) (r : Result AnyExpr TypeError) (e : AnyExpr) → r ≡ Ok e → Checks s before now r → Checked s before now (made_of e)
checked_of s before now r e is h = subst (λ (x : Result AnyExpr TypeError). Checks s before now x) is h

handed_number : (s : Seen) (before now : Known) (r : Result NumExpr TypeError) (e f : TypeError) → r ≡ Err e → e ≡ f → SaysFault (judged s.points before) f → ChecksNumber s before now r
handed_number s before now r e f is same h = rw (is, same) h

pub check_kind-returns-in_err-left-in-Binary : goal.check_kind-returns-in_err-left-in-Binary
check_kind-returns-in_err-left-in-Binary t c =
    let p = err_from_is_err_and c.from_residual.result c.from_residual.ensures.1 in
    let left = subst (λ (e : Expr). SaysFault (judged (of_expr e).points c.args.known.now) c.in_err-left-in-Binary.field-0.0) c.get-in-Binary.ensures c.in_err-left-in-Binary.ensures in
    rw c.in-Binary.is (rw (binary_is c.in-Binary.op c.in-Binary.left c.in-Binary.right c.args.place)
    (handed_on _ c.args.known.now _ c.from_residual.result p.0 c.in_err-left-in-Binary.field-0.0 p.1 p.2 (front_refused (of_expr c.in-Binary.left).points _ c.args.known.now _ left)))

pub check_kind-returns-in_ok-left-in-Binary : goal.check_kind-returns-in_ok-left-in-Binary
check_kind-returns-in_ok-left-in-Binary t c =
    let left = subst (λ (e : Expr). Checked (of_expr e) c.args.known.now c.check_expr-in-Binary.new.known (made_of c.in_ok-left-in-Binary.left)) c.get-in-Binary.ensures c.in_ok-left-in-Binary.ensures in
    let all = subst (λ (e : Expr). Checks (joint_seen (Operator c.in-Binary.op) c.args.place (of_expr c.in-Binary.left) (of_expr e)) c.args.known.now c.check_second.new.known c.check_second.result) c.get-in-Binary-2.ensures (c.check_second.ensures (of_expr c.in-Binary.left) c.args.known.now left) in
    rw c.in-Binary.is (rw (binary_is c.in-Binary.op c.in-Binary.left c.in-Binary.right c.args.place) all)

pub check_kind-returns-in_err-left-in-AndThen : goal.check_kind-returns-in_err-left-in-AndThen
check_kind-returns-in_err-left-in-AndThen t c =
    let p = err_from_is_err_and c.from_residual-in_err-left-in-AndThen.result c.from_residual-in_err-left-in-AndThen.ensures.1 in
    let left = subst (λ (e : Expr). SaysFault (judged (of_expr e).points c.args.known.now) c.in_err-left-in-AndThen.field-0.0) c.get-in-AndThen.ensures c.in_err-left-in-AndThen.ensures in
    rw c.in-AndThen.is (rw (and_is c.in-AndThen.left c.in-AndThen.right c.args.place)
    (handed_on _ c.args.known.now _ c.from_residual-in_err-left-in-AndThen.result p.0 c.in_err-left-in-AndThen.field-0.0 p.1 p.2 (front_refused (of_expr c.in-AndThen.left).points _ c.args.known.now _ left)))

pub check_kind-returns-in_ok-left-in-AndThen : goal.check_kind-returns-in_ok-left-in-AndThen
check_kind-returns-in_ok-left-in-AndThen t c =
    let left = subst (λ (e : Expr). Checked (of_expr e) c.args.known.now c.check_expr-in-AndThen.new.known (made_of c.in_ok-left-in-AndThen.left)) c.get-in-AndThen.ensures c.in_ok-left-in-AndThen.ensures in
    let all = subst (λ (e : Expr). Checks (joint_seen And c.args.place (of_expr c.in-AndThen.left) (of_expr e)) c.args.known.now c.check_second-in-AndThen.new.known c.check_second-in-AndThen.result) c.get-in-AndThen-2.ensures (c.check_second-in-AndThen.ensures (of_expr c.in-AndThen.left) c.args.known.now left) in
    rw c.in-AndThen.is (rw (and_is c.in-AndThen.left c.in-AndThen.right c.args.place) all)

pub check_kind-returns-in_err-left-in-OrElse : goal.check_kind-returns-in_err-left-in-OrElse
check_kind-returns-in_err-left-in-OrElse t c =
    let p = err_from_is_err_and c.from_residual-in_err-left-in-OrElse.result c.from_residual-in_err-left-in-OrElse.ensures.1 in
    let left = subst (λ (e : Expr). SaysFault (judged (of_expr e).points c.args.known.now) c.in_err-left-in-OrElse.field-0.0) c.get-in-OrElse.ensures c.in_err-left-in-OrElse.ensures in
    rw c.in-OrElse.is (rw (or_is c.in-OrElse.left c.in-OrElse.right c.args.place)
    (handed_on _ c.args.known.now _ c.from_residual-in_err-left-in-OrElse.result p.0 c.in_err-left-in-OrElse.field-0.0 p.1 p.2 (front_refused (of_expr c.in-OrElse.left).points _ c.args.known.now _ left)))

pub check_kind-returns-in_ok-left-in-OrElse : goal.check_kind-returns-in_ok-left-in-OrElse
check_kind-returns-in_ok-left-in-OrElse t c =
    let left = subst (λ (e : Expr). Checked (of_expr e) c.args.known.now c.check_expr-in-OrElse.new.known (made_of c.in_ok-left-in-OrElse.left)) c.get-in-OrElse.ensures c.in_ok-left-in-OrElse.ensures in
    let all = subst (λ (e : Expr). Checks (joint_seen Or c.args.place (of_expr c.in-OrElse.left) (of_expr e)) c.args.known.now c.check_second-in-OrElse.new.known c.check_second-in-OrElse.result) c.get-in-OrElse-2.ensures (c.check_second-in-OrElse.ensures (of_expr c.in-OrElse.left) c.args.known.now left) in
    rw c.in-OrElse.is (rw (or_is c.in-OrElse.left c.in-OrElse.right c.args.place) all)

pub check_kind-returns-in_err-condition-in-Choose : goal.check_kind-returns-in_err-condition-in-Choose
check_kind-returns-in_err-condition-in-Choose t c =
    let p = err_from_is_err_and c.from_residual-in_err-condition-in-Choose.result c.from_residual-in_err-condition-in-Choose.ensures.1 in
    let condition = subst (λ (e : Expr). SaysFault (judged (of_expr e).points c.args.known.now) c.in_err-condition-in-Choose.field-0.0) c.get-in-Choose.ensures c.in_err-condition-in-Choose.ensures in
    rw c.in-Choose.is (rw (choose_is c.in-Choose.condition c.in-Choose.yes c.in-Choose.no c.args.place)
    (handed_on _ c.args.known.now _ c.from_residual-in_err-condition-in-Choose.result p.0 c.in_err-condition-in-Choose.field-0.0 p.1 p.2 (front_refused (of_expr c.in-Choose.condition).points _ c.args.known.now _ condition)))

pub check_kind-returns-in_err-condition-in-Choose-2 : goal.check_kind-returns-in_err-condition-in-Choose-2
check_kind-returns-in_err-condition-in-Choose-2 t c =
    let p = err_from_is_err_and c.from_residual-in_err-condition-in-Choose-2.result c.from_residual-in_err-condition-in-Choose-2.ensures.1 in
    let condition = subst (λ (e : Expr). Checked (of_expr e) c.args.known.now c.check_expr-in-Choose.new.known (made_of c.in_ok-condition-in-Choose.condition)) c.get-in-Choose.ensures c.in_ok-condition-in-Choose.ensures in
    let fault = fault_of (of_expr c.get-in-Choose-2.result.now) c.check_expr-in-Choose.new.known c.check_expr-in-Choose-2.new.known c.check_expr-in-Choose-2.result c.in_err-condition-in-Choose-2.field-0.0 c.in_err-condition-in-Choose-2.ensures c.check_expr-in-Choose-2.ensures in
    let yes = subst (λ (e : Expr). SaysFault (judged (of_expr e).points c.check_expr-in-Choose.new.known) c.in_err-condition-in-Choose-2.field-0.0) c.get-in-Choose-2.ensures fault in
    rw c.in-Choose.is (rw (choose_is c.in-Choose.condition c.in-Choose.yes c.in-Choose.no c.args.place)
    (handed_on _ c.args.known.now _ c.from_residual-in_err-condition-in-Choose-2.result p.0 c.in_err-condition-in-Choose-2.field-0.0 p.1 p.2
    (later_refused (of_expr c.in-Choose.condition) c.args.known.now c.check_expr-in-Choose.new.known (made_of c.in_ok-condition-in-Choose.condition) _ _ condition
    (front_refused (of_expr c.in-Choose.yes).points _ c.check_expr-in-Choose.new.known _ yes))))

pub check_kind-returns-in_ok-condition-in-Choose-2 : goal.check_kind-returns-in_ok-condition-in-Choose-2
check_kind-returns-in_ok-condition-in-Choose-2 t c =
    let kept = subst (λ (e : AnyExpr). Checked (of_expr c.get-in-Choose.result.now) c.args.known.now c.check_expr-in-Choose.new.known (made_of e)) (sym c.in_ok-condition-in-Choose-2.ensures.0) c.in_ok-condition-in-Choose.ensures in
    let condition = subst (λ (e : Expr). Checked (of_expr e) c.args.known.now c.check_expr-in-Choose.new.known (made_of c.in_ok-condition-in-Choose-2.condition)) c.get-in-Choose.ensures kept in
    let checked = checked_of (of_expr c.get-in-Choose-2.result.now) c.check_expr-in-Choose.new.known c.check_expr-in-Choose-2.new.known c.check_expr-in-Choose-2.result c.in_ok-condition-in-Choose-2.yes c.in_ok-condition-in-Choose-2.ensures.1 c.check_expr-in-Choose-2.ensures in
    let yes = subst (λ (e : Expr). Checked (of_expr e) c.check_expr-in-Choose.new.known c.check_expr-in-Choose-2.new.known (made_of c.in_ok-condition-in-Choose-2.yes)) c.get-in-Choose-2.ensures checked in
    let all = subst (λ (e : Expr). Checks (choose_seen c.args.place (of_expr c.in-Choose.condition) (of_expr c.in-Choose.yes) (of_expr e)) c.args.known.now c.check_last.new.known c.check_last.result) c.get-in-Choose-3.ensures
    (c.check_last.ensures (of_expr c.in-Choose.condition) (of_expr c.in-Choose.yes) c.args.known.now c.check_expr-in-Choose.new.known condition yes) in
    rw c.in-Choose.is (rw (choose_is c.in-Choose.condition c.in-Choose.yes c.in-Choose.no c.args.place) all)

pub check_kind-returns-in-Unary : goal.check_kind-returns-in-Unary
check_kind-returns-in-Unary t c =
    let all = subst (λ (e : Expr). Checks (unary_seen c.in-Unary.op c.args.place (of_expr e)) c.args.known.now c.check_operand.new.known c.check_operand.result) c.get-in-Unary.ensures c.check_operand.ensures in
    rw c.in-Unary.is (rw (unary_is c.in-Unary.op c.in-Unary.value c.args.place) all)

pub check_kind-returns-in-Step : goal.check_kind-returns-in-Step
check_kind-returns-in-Step t c = rw c.in-Step.is (rw (step_is c.in-Step.stepped c.args.place) c.check_stepped.ensures)

pub check_operand-returns : goal.check_operand-returns
check_operand-returns t c =
    unary_checks (of_expr c.args.value.now) c.args.known.now c.check_expr.new.known (made_of c.in_ok-value.value) c.args.op c.args.place c.unary.result c.in_ok-value.ensures c.unary.ensures.refuses c.unary.ensures.made

pub check_operand-returns-in_err-value : goal.check_operand-returns-in_err-value
check_operand-returns-in_err-value t c =
    let p = err_from_is_err_and c.from_residual.result c.from_residual.ensures.1 in
    handed_on (unary_seen c.args.op c.args.place (of_expr c.args.value.now)) c.args.known.now _ c.from_residual.result p.0 c.in_err-value.field-0.0 p.1 p.2 (front_refused (of_expr c.args.value.now).points _ c.args.known.now _ c.in_err-value.ensures)

pub check_second-returns : goal.check_second-returns
check_second-returns t c s before first =
    let left = subst (λ (e : AnyExpr). Checked s before c.args.known.now (made_of e)) (sym c.in_ok-left.ensures.0) first in
    let right = checked_of (of_expr c.args.right.now) c.args.known.now c.check_expr.new.known c.check_expr.result c.in_ok-left.right c.in_ok-left.ensures.1 c.check_expr.ensures in
    joint_checks s (of_expr c.args.right.now) before c.args.known.now c.check_expr.new.known (made_of c.in_ok-left.left) (made_of c.in_ok-left.right) c.args.joint c.args.place c.join.result left right c.join.ensures.refuses c.join.ensures.made

pub check_second-returns-in_err-left : goal.check_second-returns-in_err-left
check_second-returns-in_err-left t c s before left =
    let p = err_from_is_err_and c.from_residual.result c.from_residual.ensures.1 in
    let right = fault_of (of_expr c.args.right.now) c.args.known.now c.check_expr.new.known c.check_expr.result c.in_err-left.field-0.0 c.in_err-left.ensures c.check_expr.ensures in
    handed_on (joint_seen c.args.joint c.args.place s (of_expr c.args.right.now)) before _ c.from_residual.result p.0 c.in_err-left.field-0.0 p.1 p.2
    (later_refused s before c.args.known.now (made_of c.args.left) _ _ left (front_refused (of_expr c.args.right.now).points _ c.args.known.now _ right))

pub check_last-returns : goal.check_last-returns
check_last-returns t c s u before between first second =
    let condition = subst (λ (kept : AnyExpr × AnyExpr). Checked s before between (made_of kept.0)) (sym c.in_ok-condition.ensures.0) first in
    let yes = subst (λ (kept : AnyExpr × AnyExpr). Checked u between c.args.known.now (made_of kept.1)) (sym c.in_ok-condition.ensures.0) second in
    let no = checked_of (of_expr c.args.no.now) c.args.known.now c.check_expr.new.known c.check_expr.result c.in_ok-condition.no c.in_ok-condition.ensures.1 c.check_expr.ensures in
    choose_checks s u (of_expr c.args.no.now) before between c.args.known.now c.check_expr.new.known (made_of c.in_ok-condition.condition) (made_of c.in_ok-condition.yes) (made_of c.in_ok-condition.no) c.args.place c.choose.result condition yes no c.choose.ensures.refuses c.choose.ensures.made

pub check_last-returns-in_err-condition : goal.check_last-returns-in_err-condition
check_last-returns-in_err-condition t c s u before between first second =
    let p = err_from_is_err_and c.from_residual.result c.from_residual.ensures.1 in
    let no = fault_of (of_expr c.args.no.now) c.args.known.now c.check_expr.new.known c.check_expr.result c.in_err-condition.field-0.0 c.in_err-condition.ensures c.check_expr.ensures in
    handed_on (choose_seen c.args.place s u (of_expr c.args.no.now)) before _ c.from_residual.result p.0 c.in_err-condition.field-0.0 p.1 p.2
    (later_refused s before between (made_of c.args.condition) _ _ first (later_refused u between c.args.known.now (made_of c.args.yes) _ _ second (front_refused (of_expr c.args.no.now).points _ c.args.known.now _ no)))

pub check_all-returns-in_err-typed : goal.check_all-returns-in_err-typed
check_all-returns-in_err-typed t c =
    let p = err_from_is_err_and c.from_residual.result c.from_residual.ensures.1 in
    rw p.1 (subst (λ (e : TypeError). SaysFault (judged (points_of (map of_expr c.args.exprs.now)) c.args.known.now) e) (sym p.2)
    (left_refused c.args.exprs.now c.loop-expr.expr-index c.expr-item.result c.loop-expr.known (judged (points_of (map of_expr c.args.exprs.now)) c.args.known.now) c.in_err-typed.field-0.0
    c.loop-expr-test.true c.expr-item.is c.loop-expr.invariant.left c.in_err-typed.ensures))

pub check_all-loop-expr-preserved : goal.check_all-loop-expr-preserved
check_all-loop-expr-preserved t c =
    record {
      left = next_left c.args.exprs.now c.loop-expr.expr-index c.expr-item.result c.loop-expr.known c.check_expr.new.known (made_of c.in_ok-typed.typed) (judged (points_of (map of_expr c.args.exprs.now)) c.args.known.now)
          c.loop-expr-test.true c.expr-item.is c.loop-expr.invariant.left c.in_ok-typed.ensures;
      grows = next_grows c.expr-item.result c.args.known.now c.loop-expr.known c.check_expr.new.known (made_of c.in_ok-typed.typed) c.loop-expr.invariant.grows c.in_ok-typed.ensures;
      typing = subst (λ (es : List AnyExpr). AreTyping c.check_expr.new.known (map of_expr (take (c.loop-expr.expr-index + 1) c.args.exprs.now)) (map made_of es)) (sym c.in_ok-push.ensures.ok)
          (next_typing c.args.exprs.now c.loop-expr.expr-index c.expr-item.result c.loop-expr.known c.check_expr.new.known c.loop-expr.all c.in_ok-typed.typed
          c.loop-expr-test.true c.expr-item.is c.loop-expr.invariant.typing c.in_ok-typed.ensures);
    }

pub check_key-returns : goal.check_key-returns
check_key-returns t c =
    let m = c.args.mapped.now in
    let all = subst (λ (es : List Expr). AllChecked (map of_expr es) c.name.new.self c.check_all.new.known (map made_of c.in_ok-keys.keys)) c.as_slice.ensures c.in_ok-keys.ensures in
    subst (λ (s : MapSeen). KeyChecked s c.args.known.now c.check_all.new.known c.in_ok-number.number.0 (map made_of c.in_ok-keys.keys)) (sym (map_is m))
    (key_checked (out-MapRef m).name (map of_expr (out-MapRef m).keys) (out-MapRef m).place c.args.known.now c.name.new.self c.check_all.new.known c.in_ok-number.number.0 (map made_of c.in_ok-keys.keys)
    c.in_ok-number.ensures.learned c.in_ok-number.ensures.named all)

pub check_map-returns : goal.check_map-returns
check_map-returns t c =
    let m = c.args.map.now in
    let named = ap (λ (s : MapSeen). s.name) (map_is m) in
    let placed = ap (λ (s : MapSeen). s.place) (map_is m) in
    read_checks (of_map m) c.args.known.now c.check_key.new.known c.read.new.known c.in_ok-keyed.keyed.map.0 (map made_of c.in_ok-keyed.keyed.keys) c.read.result c.in_ok-keyed.ensures
    (rw (named, placed) c.read.ensures.refuses) (rw named c.read.ensures.learned) (rw named c.read.ensures.made)

pub check_map-returns-in_err-keyed : goal.check_map-returns-in_err-keyed
check_map-returns-in_err-keyed t c =
    let p = err_from_is_err_and c.from_residual.result c.from_residual.ensures.1 in
    handed_on (map_read (of_map c.args.map.now)) c.args.known.now _ c.from_residual.result p.0 c.in_err-keyed.field-0.0 p.1 p.2 (front_refused (of_map c.args.map.now).points _ c.args.known.now _ c.in_err-keyed.ensures)

pub check_step-returns-in_ok-keyed-in-Map : goal.check_step-returns-in_ok-keyed-in-Map
check_step-returns-in_ok-keyed-in-Map t c =
    let m = c.in-Map.map in
    let s = out-IncDec c.args.stepped.now in
    let named = ap (λ (x : MapSeen). x.name) (map_is m) in
    let placed = ap (λ (x : MapSeen). x.place) (map_is m) in
    subst (λ (x : Seen). ChecksNumber x c.args.known.now c.step.new.known c.step.result) (sym (step_of_map c.args.stepped.now m c.in-Map.is))
    (step_checks (of_map m) s.place s.plus s.prefix c.args.known.now c.check_key.new.known c.step.new.known c.in_ok-keyed-in-Map.keyed.map.0 (map made_of c.in_ok-keyed-in-Map.keyed.keys) c.step.result
    c.in_ok-keyed-in-Map.ensures (rw (named, placed) c.step.ensures.refuses) (rw named c.step.ensures.learned) c.step.ensures.made)

pub check_step-returns-in_err-keyed-in-Map : goal.check_step-returns-in_err-keyed-in-Map
check_step-returns-in_err-keyed-in-Map t c =
    let m = c.in-Map.map in
    let s = out-IncDec c.args.stepped.now in
    let p = err_from_is_err_and c.from_residual.result c.from_residual.ensures.1 in
    subst (λ (x : Seen). ChecksNumber x c.args.known.now c.check_key.new.known c.from_residual.result) (sym (step_of_map c.args.stepped.now m c.in-Map.is))
    (handed_number (step_seen s.plus s.prefix s.place (OnMap (of_map m))) c.args.known.now _ c.from_residual.result p.0 c.in_err-keyed-in-Map.field-0.0 p.1 p.2 (front_refused (of_map m).points _ c.args.known.now _ c.in_err-keyed-in-Map.ensures))

pub check_kind-returns-in-Text : goal.check_kind-returns-in-Text
check_kind-returns-in-Text t c =
    let s = seen (at c.args.place (NeedsShort c.in-Text.text) ∷ []) Text (TextWord (short_text c.in-Text.text) ∷ []) in
    arm_checks c.args.kind.now (kinds.Text c.in-Text.text) s c.args.place c.args.known.now c.args.known.now c.literal.result c.in-Text.is (text_is c.in-Text.text c.args.place)
    (text_checks c.args.known.now c.as_slice.result.now c.in-Text.text c.args.place c.literal.result c.as_slice.ensures c.literal.ensures.refuses c.literal.ensures.made)

pub check_kind-returns-in-Builtin : goal.check_kind-returns-in-Builtin
check_kind-returns-in-Builtin t c =
    let b = c.in-Builtin.name in
    arm_checks c.args.kind.now (kinds.Builtin b) (seen [] (builtin_sort b) (BuiltinWord b ∷ [])) c.args.place c.args.known.now c.args.known.now (Ok c.builtin.result) c.in-Builtin.is (builtin_is b c.args.place)
    (builtin_checks c.args.known.now b c.builtin.result c.builtin.ensures)

pub check_kind-returns-in-Field : goal.check_kind-returns-in-Field
check_kind-returns-in-Field t c =
    let name = c.in-Field.name in let word = c.in-Field.name_place in let place = c.args.place in
    arm_checks c.args.kind.now (kinds.Field name word) (seen (at place Args ∷ at word (ReadsField name) ∷ []) (OfField name) (FieldWord name ∷ [])) place c.args.known.now c.args.known.now c.field.result
    c.in-Field.is (field_is name word place) c.field.ensures

pub check_kind-returns-in-Var : goal.check_kind-returns-in-Var
check_kind-returns-in-Var t c =
    let v = c.in-Var.var in
    arm_checks c.args.kind.now (kinds.Var v) (seen (at v.place (ReadsVar v.name) ∷ []) (OfVar v.name) (VarWord v.name ∷ [])) c.args.place c.args.known.now c.args.known.now c.variable.result
    c.in-Var.is (var_is v c.args.place) c.variable.ensures.checks

pub check_kind-returns-in-Map : goal.check_kind-returns-in-Map
check_kind-returns-in-Map t c =
    let m = c.in-Map.map in
    arm_checks c.args.kind.now (kinds.Map m) (map_read (of_map m)) c.args.place c.args.known.now c.check_map.new.known c.check_map.result c.in-Map.is (read_is m c.args.place) c.check_map.ensures

pub check_kind-returns-in-Paren : goal.check_kind-returns-in-Paren
check_kind-returns-in-Paren t c =
    let e = c.in-Paren.value in
    arm_checks c.args.kind.now (kinds.Paren e) (of_expr e) c.args.place c.args.known.now c.check_expr.new.known c.check_expr.result c.in-Paren.is (paren_is e c.args.place)
    (subst (λ (x : Expr). Checks (of_expr x) c.args.known.now c.check_expr.new.known c.check_expr.result) c.get.ensures c.check_expr.ensures)

pub check_stepped-returns : goal.check_stepped-returns
check_stepped-returns t c =
    subst (λ (m : Made). Checked (of_step c.args.stepped.now) c.args.known.now c.check_step.new.known m) (sym (any_num c.in_ok-number.number)) c.in_ok-number.ensures

pub check_all-loop-expr-smaller : goal.check_all-loop-expr-smaller
check_all-loop-expr-smaller t c = grind (arith, common_steps)

pub check_all-offset_bounds-exprs-expr-index : goal.check_all-offset_bounds-exprs-expr-index
check_all-offset_bounds-exprs-expr-index t c = grind (arith, common_steps)

pub check_all-loop-expr-init : goal.check_all-loop-expr-init
check_all-loop-expr-init t c = grind (arith, common_steps)

pub check_all-returns : goal.check_all-returns
check_all-returns t c = grind (arith, common_steps)
