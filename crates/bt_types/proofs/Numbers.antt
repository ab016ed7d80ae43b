-- Whole numbers that statements ask for, and variables that they set.
use Rattle.std.proofs.Common.{◌≡◌, ◌++◌, ℕ, List, [], ◌∷◌, unwrap_or, Option, Some, None, Result, Ok, Err, IfOk, slice_get, refl, sym, ap, subst, ◌∙◌}
use Rattle.bt_core.specs.declared.place.Place.{Place}
use Rattle.bt_core.specs.declared.map.Shape.{Shape}
use Rattle.bt_core.specs.declared.map.Shape.TheVariants.{Int}
use Rattle.bt_core.specs.declared.operator.BinOp.{BinOp}
use Rattle.bt_ast.specs.declared.expr.Expr.{Expr}
use Rattle.expr_types.specs.declared.fault.Rule.{Rule}
use Rattle.expr_types.specs.declared.fault.Rule.TheVariants.{WrongType}
use Rattle.expr_types.specs.declared.fault.TypeError.{TypeError}
use Rattle.expr_types.specs.declared.known.Known.{Known}
use Rattle.expr_types.specs.declared.known.Var.{Var}
use Rattle.typed_tree.specs.declared.expr.NumExpr.{NumExpr}
use Rattle.expr_types.specs.Mentions.{Sort, NeedsWhole, SetsVar, VarWord, AssignWord, Point}
use Rattle.expr_types.specs.Known.{shape_in, var_in, with_var, learn}
use Rattle.expr_types.specs.Judge.{judged, SaysFault, IsBreach, Refuses}
use Rattle.expr_types.specs.Rules.{broken_at, breaks, is_text, are_two}
use Rattle.expr_types.specs.Walk.{Seen, OnVar, at, of_expr, step_points}
use Rattle.typed_tree.specs.Parts.{TreePart, VarOf, Assigned, Made, num_parts, set_var_parts, update_var_parts}
use Rattle.expr_types.specs.Typing.{title, titles_of}
use Rattle.expr_types.specs.Join.{whole_breaks, set_breaks}
use Rattle.expr_types.specs.Checked.{Checked}
use Rattle.bt_types.specs.Told.{asks, value_told, number_told, set_told, update_told}
use Rattle.bt_types.specs.Done.{Done, Does}
use Rattle.expr_types.proofs.Growing.{grows_none}
use Rattle.expr_types.proofs.Later.{get_mapped, title_is}
use Rattle.bt_types.proofs.Turns.{Went, went_both, went_at, went_seen, fault_first, fault_behind, fault_here, held_more, held_seen, held_later, done_of, done_then, done_value, refused_next}

-- the title of a variable
pub var_title : (k : Known) (number : ℕ) (v : Var) → slice_get k.vars number ≡ Some v → title (titles_of k).variables number ≡ v.name
var_title k number v h = title_is (titles_of k).variables number v.name (get_mapped (λ (x : Var). x.name) k.vars number v h)

-- a whole number is asked for where the type is known
pub whole_is : (k : Known) (sort : Sort) (s : Shape) → shape_in k sort ≡ Some s → broken_at k (NeedsWhole sort) ≡ whole_breaks s
whole_is k sort s h = ap (λ (o : Option Shape). breaks (is_text o) WrongType) h

pub whole_went : (k : Known) (place : Place) (sort : Sort) (s : Shape) → shape_in k sort ≡ Some s → whole_breaks s ≡ None → Went (at place (NeedsWhole sort) ∷ []) k k
whole_went k place sort s h e = went_at place (NeedsWhole sort) k k tt (whole_is k sort s h ∙ e) refl

pub whole_fault : (k : Known) (place : Place) (sort : Sort) (s : Shape) (qs : List Point) (e : TypeError) → shape_in k sort ≡ Some s → IsBreach (whole_breaks s) place e → SaysFault (judged (at place (NeedsWhole sort) ∷ qs) k) e
whole_fault k place sort s qs e h b = fault_here place (NeedsWhole sort) qs k e (subst (λ (r : Option Rule). IsBreach r place e) (sym (whole_is k sort s h)) b)

pub number_does : (x : Expr) (place : Place) (k0 k1 : Known) (m : Made) (r : Result NumExpr TypeError) → Checked (of_expr x) k0 k1 m → Refuses (whole_breaks m.shape) place r → IfOk r (λ n. num_parts n ≡ m.parts)
    → Does (number_told x place) num_parts k0 k1 r
number_does x place k0 k1 m (Ok n) c h e =
    subst (λ (ps : List TreePart). Done (number_told x place) k0 k1 ps) (sym e)
    (done_then (value_told (of_expr x)) k0 k1 m.parts place (NeedsWhole (of_expr x).sort) tt (done_value (of_expr x) k0 k1 m c) (whole_is k1 (of_expr x).sort m.shape c.typing.shape ∙ h))
number_does x place k0 k1 m (Err e) c h g =
    refused_next (value_told (of_expr x)) (asks place (NeedsWhole (of_expr x).sort)) k0 k1 m.parts e (done_value (of_expr x) k0 k1 m c)
    (whole_fault k1 place (of_expr x).sort m.shape [] e c.typing.shape h)

-- a variable is set
set_is : (k : Known) (name : List ℕ) (sort : Sort) (s : Shape) → shape_in k sort ≡ Some s → broken_at k (SetsVar name sort) ≡ set_breaks (var_in name k.vars) s
set_is k name sort s h = ap (λ (o : Option Shape). breaks (are_two (var_in name k.vars) o) WrongType) h

set_learns : (k : Known) (name : List ℕ) (sort : Sort) (s : Shape) → shape_in k sort ≡ Some s → learn k (SetsVar name sort) ≡ with_var k (record { name = name; shape = s })
set_learns k name sort s h = ap (λ (o : Option Shape). with_var k (record { name = name; shape = unwrap_or o Int })) h

pub set_var_done : (name : List ℕ) (place : Place) (s : Seen) (k0 k1 k2 : Known) (number : ℕ) (v : Made) → Checked s k0 k1 v → set_breaks (var_in name k1.vars) v.shape ≡ None
    → k2 ≡ with_var k1 (record { name = name; shape = v.shape }) → slice_get k2.vars number ≡ Some (let x : Var = record { name = name; shape = v.shape } in x)
    → Done (set_told (OnVar name place) s) k0 k2 (set_var_parts number v)
set_var_done name place s k0 k1 k2 number v c h is n =
    let last = went_at place (SetsVar name s.sort) k1 k2 tt (set_is k1 name s.sort v.shape c.typing.shape ∙ h) (set_learns k1 name s.sort v.shape c.typing.shape ∙ sym is) in
    let var : Var = record { name = name; shape = v.shape } in
    done_of (set_told (OnVar name place) s) k0 k2 (set_var_parts number v)
    (went_both s.points (at place (SetsVar name s.sort) ∷ []) k0 k1 k2 (went_seen s k0 k1 v c) last)
    (held_more k2 (Assigned None) (AssignWord None) (VarOf number v.shape ∷ v.parts) (VarWord name ∷ s.words) tt refl
    (held_more k2 (VarOf number v.shape) (VarWord name) v.parts s.words (record { var = var; numbered = n; shapes = refl }) (ap (λ (x : List ℕ). VarWord x) (var_title k2 number var n))
    (held_later k1 k2 v.parts s.words last.grows (held_seen s k0 k1 v c))))

pub set_var_refused : (name : List ℕ) (place : Place) (s : Seen) (k0 k1 : Known) (v : Made) (e : TypeError) → Checked s k0 k1 v → IsBreach (set_breaks (var_in name k1.vars) v.shape) place e
    → SaysFault (judged (set_told (OnVar name place) s).points k0) e
set_var_refused name place s k0 k1 v e c h =
    fault_behind s.points (at place (SetsVar name s.sort) ∷ []) k0 k1 e (went_seen s k0 k1 v c)
    (fault_here place (SetsVar name s.sort) [] k1 e (subst (λ (r : Option Rule). IsBreach r place e) (sym (set_is k1 name s.sort v.shape c.typing.shape)) h))

-- a variable is changed by an operator
pub update_var_done : (op : BinOp) (name : List ℕ) (at_var place : Place) (s : Seen) (k0 k1 : Known) (number : ℕ) (v : Made) (value : List TreePart) → Checked s k0 k1 v
    → judged (step_points place (OnVar name at_var)) k1 ≡ Ok k1 → slice_get k1.vars number ≡ Some (let x : Var = record { name = name; shape = Int } in x) → whole_breaks v.shape ≡ None → value ≡ v.parts
    → Done (update_told op (OnVar name at_var) s place) k0 k1 (update_var_parts op number value)
update_var_done op name at_var place s k0 k1 number v value c h n w is =
    let stepped : Went (step_points place (OnVar name at_var)) k1 k1 = record { whole = h; grows = grows_none k1 } in
    let var : Var = record { name = name; shape = Int } in
    rw is (done_of (update_told op (OnVar name at_var) s place) k0 k1 (update_var_parts op number v.parts)
    (went_both s.points (step_points place (OnVar name at_var) ++ at place (NeedsWhole s.sort) ∷ []) k0 k1 k1 (went_seen s k0 k1 v c)
    (went_both (step_points place (OnVar name at_var)) (at place (NeedsWhole s.sort) ∷ []) k1 k1 k1 stepped (whole_went k1 place s.sort v.shape c.typing.shape w)))
    (held_more k1 (Assigned (Some op)) (AssignWord (Some op)) (VarOf number Int ∷ v.parts) (VarWord name ∷ s.words) tt refl
    (held_more k1 (VarOf number Int) (VarWord name) v.parts s.words (record { var = var; numbered = n; shapes = refl }) (ap (λ (x : List ℕ). VarWord x) (var_title k1 number var n))
    (held_seen s k0 k1 v c))))

pub update_var_missing : (op : BinOp) (name : List ℕ) (at_var place : Place) (s : Seen) (k0 k1 : Known) (v : Made) (e : TypeError) → Checked s k0 k1 v
    → SaysFault (judged (step_points place (OnVar name at_var)) k1) e → SaysFault (judged (update_told op (OnVar name at_var) s place).points k0) e
update_var_missing op name at_var place s k0 k1 v e c h =
    fault_behind s.points (step_points place (OnVar name at_var) ++ at place (NeedsWhole s.sort) ∷ []) k0 k1 e (went_seen s k0 k1 v c)
    (fault_first (step_points place (OnVar name at_var)) (at place (NeedsWhole s.sort) ∷ []) k1 e h)

pub update_var_refused : (op : BinOp) (name : List ℕ) (at_var place : Place) (s : Seen) (k0 k1 : Known) (v : Made) (e : TypeError) → Checked s k0 k1 v
    → judged (step_points place (OnVar name at_var)) k1 ≡ Ok k1 → IsBreach (whole_breaks v.shape) place e → SaysFault (judged (update_told op (OnVar name at_var) s place).points k0) e
update_var_refused op name at_var place s k0 k1 v e c h b =
    let stepped : Went (step_points place (OnVar name at_var)) k1 k1 = record { whole = h; grows = grows_none k1 } in
    fault_behind s.points (step_points place (OnVar name at_var) ++ at place (NeedsWhole s.sort) ∷ []) k0 k1 e (went_seen s k0 k1 v c)
    (fault_behind (step_points place (OnVar name at_var)) (at place (NeedsWhole s.sort) ∷ []) k1 k1 e stepped (whole_fault k1 place s.sort v.shape [] e c.typing.shape b))
