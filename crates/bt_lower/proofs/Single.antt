-- Lowering of each kind of single statement, by its tree.
use Rattle.std.proofs.Common.{◌≡◌, ℕ, ◌+◌, ◌≤◌, List, [], ◌∷◌, ◌++◌, length, refl, sym, ap, ◌∙◌, subst, arith, Bool, true, false, Option, Some, None}
use Rattle.std.specs.Prelude.{ℤ, pos, max, slice_get, ◌&&◌}
use Rattle.std.proofs.Math.Nat.{le-max_left, le-max_right, max-le}
use Rattle.std.proofs.lemmas.Bool.{and_parts}
use Rattle.bt_core.specs.declared.limits.TheConstants.{KEY_PARTS}
use Rattle.bt_core.specs.declared.map.AggKind.{AggKind}
use Rattle.bt_core.specs.declared.map.MapDecl.{MapDecl}
use Rattle.bt_core.specs.declared.map.MapId.{MapId}
use Rattle.bt_core.specs.declared.map.MapKind.{MapKind}
use Rattle.bt_core.specs.declared.map.MapKind.TheVariants.{Ints, Strs, Aggs}
use Rattle.bt_core.specs.declared.map.Shape.{Shape}
use Rattle.bt_core.specs.declared.map.Shape.TheVariants as shapes
use Rattle.bt_core.specs.declared.operator.BinOp.{BinOp}
use Rattle.bt_core.specs.declared.step.ObjectId.TheVariants.{Cpu, Out}
use Rattle.bt_core.specs.declared.step.Op.TheVariants as ops
use Rattle.bt_core.specs.declared.item.Item.TheVariants as items
use Rattle.bt_core.specs.declared.value.Value.{Value}
use Rattle.bt_core.specs.declared.value.Value.TheVariants.{Int}
use Rattle.bt_core.specs.Interaction.{Ended}
use Rattle.bt_core.specs.Arithmetic.{binary_value}
use Rattle.fmt_text.specs.declared.piece.Piece.{Piece}
use Rattle.typed_tree.specs.declared.expr.AnyExpr.{AnyExpr}
use Rattle.typed_tree.specs.declared.expr.NumExpr.{NumExpr}
use Rattle.typed_tree.specs.declared.stmt.TypedStmt.{TypedStmt}
use Rattle.typed_tree.specs.declared.stmt.TypedStmt.TheVariants as stmts
use Rattle.typed_tree.specs.Parts.{TreePart, made_of, num_parts, parts_in, key_shapes, keyed_parts, set_var_parts, set_map_parts, update_var_parts, update_map_parts, gather_parts, printf_parts, delete_parts, stmt_parts, Assigned, VarOf, MapOf, Gathered, Deleted, Printed, Shown, Cleared, Zeroed, Ending}
use Rattle.typed_tree.specs.Scope.{decl_of, is_declared, is_shared, is_agg, is_there, same_kind, same_shapes, same_bool, is_count, format_of, takes, may_print}
use Rattle.walk_meaning.specs.declared.flow.Flow.{Flow}
use Rattle.walk_meaning.specs.Does.{Does, given}
use Rattle.walk_meaning.specs.Exprs.{value_does, values_do, number_does, number_value}
use Rattle.walk_meaning.specs.Maps.{with_variable, variable}
use Rattle.walk_meaning.specs.Stmts.{stmt_does, set_variable, set_map, update_variable, update_map, gather, plain, printf, print, clear, zero_all, delete_at}
use Rattle.ir_code.specs.declared.instr.Instr.TheVariants as i
use Rattle.map_ops.specs.Holders.{part}
use Rattle.map_ops.specs.Asking.{tells}
use Rattle.ir_code.specs.Figures.{sizes_of, by_shape}
use Rattle.ir_code.specs.Meaning.{updated}
use Rattle.ir_code.specs.Typing.{is_key_shape, gathers, is_format}
use Rattle.ir_code.specs.Stacks.{top, below}
use Rattle.map_ops.specs.Values.{number_of}
use Rattle.ir_code.proofs.Shaped.{same_shapes-is}
use Rattle.bt_lower.specs.declared.code.Code.{Code}
use Rattle.bt_lower.specs.declared.code.Ways.{Ways}
use Rattle.bt_lower.specs.Code.{pushed}
use Rattle.bt_lower.specs.Lowers.{LowersParts, LowersValue, LowersNumber, LowersAny, LowersList, LowersStmt, all_made}
use Rattle.bt_lower.specs.Needs.{Need, need, more, beside, list_frame, sizes_in, codes_in, value_need, values_need, number_need, stmt_need}
use Rattle.bt_lower.specs.Sound.{ground_in, Site}
use Rattle.bt_lower.proofs.Actions.{set_var-acts, update_var-acts, step-acts, delete-acts, count-acts, printf-acts, set-acts, update-acts, add-acts}
use Rattle.bt_lower.proofs.Arms.{var-names}
use Rattle.bt_lower.proofs.Exprs.{Parts-none, Parts-less, Parts-append}
use Rattle.bt_lower.proofs.Forms as form
use Rattle.bt_lower.proofs.Lists.{fit-parts, fit-head, sizes-append}
use Rattle.bt_lower.proofs.Maps.{map_names, few-key}
use Rattle.bt_lower.proofs.Stmts.{Stmt-less, Lowers-act}
use Rattle.bt_lower.proofs.Sweeping.{print-acts, clear-acts, zero-acts, there-names}

pub stmt-is : (s x : TypedStmt) (ps : Bool → List TreePart) (d : Does Flow) (n : Need) (way : Ways) (c new : Code) → s ≡ x → stmt_parts x ≡ ps → stmt_does x ≡ d → stmt_need x ≡ n → LowersStmt ps d n way c new → LowersStmt (stmt_parts s) (stmt_does s) (stmt_need s) way c new
stmt-is s x ps d n way c new hs hp hd hn l =
    subst (λ (y : TypedStmt). LowersStmt (stmt_parts y) (stmt_does y) (stmt_need y) way c new) (sym hs)
    (subst (λ (q : Bool → List TreePart). LowersStmt q (stmt_does x) (stmt_need x) way c new) (sym hp)
    (subst (λ (q : Does Flow). LowersStmt ps q (stmt_need x) way c new) (sym hd)
    (subst (λ (q : Need). LowersStmt ps d q way c new) (sym hn) l)))

-- ---- variables

pub T-SetVar : (s : TypedStmt) (x : ℕ) (v : AnyExpr) (shape : Shape) (way : Ways) (c c1 new : Code) → s ≡ stmts.SetVar x v → shape ≡ (made_of v).shape → c1 ≡ pushed (i.Store x shape) c → LowersAny v c1 new → LowersStmt (stmt_parts s) (stmt_does s) (stmt_need s) way c new
T-SetVar s x v shape way c c1 new hs hx e1 l =
    let qs : Bool → List TreePart = λ inside. set_var_parts x (made_of v) in
    stmt-is s (stmts.SetVar x v) qs (set_variable x (value_does v)) (more (by_shape (made_of v).shape 8 24) (value_need v).need) way c new hs (form.SetVar-parts x v) (form.SetVar-does x v) (form.SetVar-need x v)
    (Stmt-less qs (set_variable x (value_does v)) (need (max (value_need v).need.frame (sizes_of ((made_of v).shape ∷ []) + 0)) (by_shape (made_of v).shape 8 24 + (value_need v).need.code)) (more (by_shape (made_of v).shape 8 24) (value_need v).need) way c new
    (max-le (omega arith) (omega (arith, l.lowered.sizes))) (omega arith)
    (Lowers-act qs (i.Store x (made_of v).shape) (made_of v).parts (value_does v ∷ []) ((made_of v).shape ∷ []) (set_variable x (value_does v)) (λ w vs frame. Ended tt) (λ vs frame a. with_variable x (top vs) frame) (value_need v).need way c c1 new
    (set_var-acts qs x (made_of v).shape (value_does v))
    (λ t inside f. let p = fit-head t.scope (Assigned None) (VarOf x (made_of v).shape ∷ (made_of v).parts) f in let q = fit-head t.scope (VarOf x (made_of v).shape) (made_of v).parts p.1 in (var-names t x (made_of v).shape q.0, q.1))
    (e1 ∙ ap (λ h. pushed (i.Store x h) c) hx) l.lowered))

pub T-UpdateVar : (s : TypedStmt) (x : ℕ) (op : BinOp) (v : NumExpr) (way : Ways) (c c1 new : Code) → s ≡ stmts.UpdateVar x op v → c1 ≡ pushed (i.UpdateVar x op) c → LowersNumber v c1 new → LowersStmt (stmt_parts s) (stmt_does s) (stmt_need s) way c new
T-UpdateVar s x op v way c c1 new hs e1 l =
    let qs : Bool → List TreePart = λ inside. update_var_parts op x (num_parts v) in
    stmt-is s (stmts.UpdateVar x op v) qs (update_variable x op (number_does v)) (more 16 (number_need v)) way c new hs (form.UpdateVar-parts x op v) (form.UpdateVar-does x op v) (form.UpdateVar-need x op v)
    (Stmt-less qs (update_variable x op (number_does v)) (need (max (number_need v).frame 8) (16 + (number_need v).code)) (more 16 (number_need v)) way c new
    (max-le (omega arith) (omega (arith, l.sizes))) (omega arith)
    (Lowers-act qs (i.UpdateVar x op) (num_parts v) (number_value (number_does v) ∷ []) (shapes.Int ∷ []) (update_variable x op (number_does v)) (λ w vs frame. Ended tt) (λ vs frame a. with_variable x (Int (binary_value op (number_of (variable x frame)) (number_of (top vs)))) frame) (number_need v) way c c1 new
    (update_var-acts qs x op (number_does v))
    (λ t inside f. let p = fit-head t.scope (Assigned (Some op)) (VarOf x shapes.Int ∷ num_parts v) f in let q = fit-head t.scope (VarOf x shapes.Int) (num_parts v) p.1 in (var-names t x shapes.Int q.0, q.1))
    e1 l))

pub T-Step : (s : TypedStmt) (v : NumExpr) (way : Ways) (c c1 new : Code) → s ≡ stmts.Step v → c1 ≡ pushed i.Pop c → LowersNumber v c1 new → LowersStmt (stmt_parts s) (stmt_does s) (stmt_need s) way c new
T-Step s v way c c1 new hs e1 l =
    let qs : Bool → List TreePart = λ inside. num_parts v in
    stmt-is s (stmts.Step v) qs (plain (number_does v)) (number_need v) way c new hs (form.Step-parts v) (form.Step-does v) (form.Step-need v)
    (Stmt-less qs (plain (number_does v)) (need (max (number_need v).frame 8) (0 + (number_need v).code)) (number_need v) way c new (max-le (omega arith) (omega (arith, l.sizes))) (omega arith)
    (Lowers-act qs i.Pop (num_parts v) (number_value (number_does v) ∷ []) (shapes.Int ∷ []) (plain (number_does v)) (λ w vs frame. Ended tt) (λ vs frame a. frame) (number_need v) way c c1 new (step-acts qs (number_does v)) (λ t inside f. (refl, f)) e1 l))

-- ---- maps as a whole

pub T-Print : (s : TypedStmt) (m : MapId) (n : ℕ) (div : ℤ) (way : Ways) (c new : Code) → s ≡ stmts.Print m n div → new ≡ pushed (i.Print m n div) c → LowersStmt (stmt_parts s) (stmt_does s) (stmt_need s) way c new
T-Print s m n div way c new hs e1 =
    let qs : Bool → List TreePart = λ inside. Shown m.0 n div ∷ [] in
    stmt-is s (stmts.Print m n div) qs (print m n div) (need 0 16) way c new hs (form.Print-parts m n div) (form.Print-does m n div) (form.Print-need m n div)
    (Stmt-less qs (print m n div) (need (max 0 0) 16) (need 0 16) way c new (omega arith) (omega arith)
    (Lowers-act qs (i.Print m n div) [] [] [] (print m n div) _ (λ vs frame a. frame) (need 0 0) way c new new (print-acts m n div)
    (λ t inside f. let p = fit-head t.scope (Shown m.0 n div) [] f in let q = and_parts (is_there (decl_of m.0 t.scope.maps)) (may_print n div) p.0 in (rw (there-names t m q.0) q.1, refl)) e1 (Parts-none new)))

pub T-Clear : (s : TypedStmt) (m : MapId) (way : Ways) (c new : Code) → s ≡ stmts.Clear m → new ≡ pushed (i.Clear m) c → LowersStmt (stmt_parts s) (stmt_does s) (stmt_need s) way c new
T-Clear s m way c new hs e1 =
    let qs : Bool → List TreePart = λ inside. Cleared m.0 ∷ [] in
    stmt-is s (stmts.Clear m) qs (clear m) (need 0 12) way c new hs (form.Clear-parts m) (form.Clear-does m) (form.Clear-need m)
    (Stmt-less qs (clear m) (need (max 0 0) 12) (need 0 12) way c new (omega arith) (omega arith)
    (Lowers-act qs (i.Clear m) [] [] [] (clear m) _ (λ vs frame a. frame) (need 0 0) way c new new (clear-acts m)
    (λ t inside f. let p = fit-head t.scope (Cleared m.0) [] f in (there-names t m p.0, refl)) e1 (Parts-none new)))

pub T-Zero : (s : TypedStmt) (m : MapId) (way : Ways) (c new : Code) → s ≡ stmts.Zero m → new ≡ pushed (i.Zero m) c → LowersStmt (stmt_parts s) (stmt_does s) (stmt_need s) way c new
T-Zero s m way c new hs e1 =
    let qs : Bool → List TreePart = λ inside. Zeroed m.0 ∷ [] in
    stmt-is s (stmts.Zero m) qs (zero_all m) (need 0 12) way c new hs (form.Zero-parts m) (form.Zero-does m) (form.Zero-need m)
    (Stmt-less qs (zero_all m) (need (max 0 0) 12) (need 0 12) way c new (omega arith) (omega arith)
    (Lowers-act qs (i.Zero m) [] [] [] (zero_all m) _ (λ vs frame a. frame) (need 0 0) way c new new (zero-acts m)
    (λ t inside f. let p = fit-head t.scope (Zeroed m.0) [] f in (there-names t m p.0, refl)) e1 (Parts-none new)))

-- ---- keys, and values above them

keyed : (m : MapId) (keys : List AnyExpr) (d : Does Value) (ps : List TreePart) (shape : Shape) (n : Need) (c c1 new : Code) → LowersValue ps d shape n c c1 → LowersList keys c1 new →
    LowersParts (parts_in (all_made keys) ++ ps) (values_do keys ++ d ∷ []) (key_shapes (all_made keys) ++ shape ∷ []) (need (beside (values_need keys) n.frame) (codes_in (values_need keys) + n.code)) c new
keyed m keys d ps shape n c c1 new lv lk =
    Parts-less _ _ _ (need (max (list_frame (values_need keys)) (sizes_of (key_shapes (all_made keys)) + n.frame)) (codes_in (values_need keys) + n.code)) _ c new
    (omega (arith, ap (λ (x : ℕ). max (list_frame (values_need keys)) (x + n.frame)) lk.sized)) (omega arith)
    (Parts-append (parts_in (all_made keys)) ps (values_do keys) (d ∷ []) (key_shapes (all_made keys)) (shape ∷ []) (need (list_frame (values_need keys)) (codes_in (values_need keys))) n c c1 new lv lk.lowered)

pub T-SetMap : (s : TypedStmt) (m : MapId) (keys es : List AnyExpr) (v : AnyExpr) (key : List Shape) (shape : Shape) (way : Ways) (c c1 c2 new : Code) → s ≡ stmts.SetMap m keys v → es ≡ keys → key ≡ key_shapes (all_made keys) → shape ≡ (made_of v).shape →
    c1 ≡ pushed (i.Set m key shape) c → LowersAny v c1 c2 → LowersList es c2 new → LowersStmt (stmt_parts s) (stmt_does s) (stmt_need s) way c new
T-SetMap s m keys es v key shape way c c1 c2 new hs he hk hx e1 lv lk0 =
    let lk = subst (λ (x : List AnyExpr). LowersList x c2 new) he lk0 in
    let ks = key_shapes (all_made keys) in
    let sh = (made_of v).shape in
    let ps = parts_in (all_made keys) in
    let vs = (made_of v).parts in
    let vn = (value_need v).need in
    let qs : Bool → List TreePart = λ inside. set_map_parts m.0 (all_made keys) (made_of v) in
    stmt-is s (stmts.SetMap m keys v) qs (set_map m (values_do keys) (value_does v)) (need (beside (values_need keys) vn.frame) (24 + codes_in (values_need keys) + vn.code)) way c new hs (form.SetMap-parts m keys v) (form.SetMap-does m keys v) (form.SetMap-need m keys v)
    (Stmt-less qs (set_map m (values_do keys) (value_does v)) (need (max (beside (values_need keys) vn.frame) (sizes_of (ks ++ sh ∷ []) + 0)) (24 + (codes_in (values_need keys) + vn.code))) _ way c new
    (max-le (omega arith) (omega (arith, sizes-append ks (sh ∷ []), lk.sized, lv.lowered.sizes, le-max_right (list_frame (values_need keys)) (sizes_in (values_need keys) + vn.frame)))) (omega arith)
    (Lowers-act qs (i.Set m ks sh) (ps ++ vs) (values_do keys ++ value_does v ∷ []) (ks ++ sh ∷ []) (set_map m (values_do keys) (value_does v)) (λ w us frame. tells (part m (below us)) (ops.Set (below us) (top us))) (λ us frame a. frame)
    (need (beside (values_need keys) vn.frame) (codes_in (values_need keys) + vn.code)) way c c1 new (set-acts qs m ks sh (values_do keys) (value_does v))
    (λ t inside f. let p = fit-head t.scope (Assigned None) (keyed_parts m.0 (all_made keys) sh ++ vs) f in let q = fit-head t.scope (MapOf m.0 ks sh) (ps ++ vs) p.1 in (map_names t m ks sh q.0, q.1))
    (e1 ∙ ap (λ x. pushed (i.Set m x shape) c) hk ∙ ap (λ x. pushed (i.Set m ks x) c) hx) (keyed m keys (value_does v) vs sh vn c1 c2 new lv.lowered lk)))

pub T-UpdateMap : (s : TypedStmt) (m : MapId) (keys es : List AnyExpr) (op : BinOp) (v : NumExpr) (key : List Shape) (way : Ways) (c c1 c2 new : Code) → s ≡ stmts.UpdateMap m keys op v → es ≡ keys → key ≡ key_shapes (all_made keys) →
    c1 ≡ pushed (i.Update m key op) c → LowersNumber v c1 c2 → LowersList es c2 new → LowersStmt (stmt_parts s) (stmt_does s) (stmt_need s) way c new
T-UpdateMap s m keys es op v key way c c1 c2 new hs he hk e1 lv lk0 =
    let lk = subst (λ (x : List AnyExpr). LowersList x c2 new) he lk0 in
    let ks = key_shapes (all_made keys) in
    let ps = parts_in (all_made keys) in
    let vs = num_parts v in
    let vn = number_need v in
    let qs : Bool → List TreePart = λ inside. update_map_parts op m.0 (all_made keys) vs in
    let a : sizes_in (values_need keys) + max vn.frame 16 ≤ beside (values_need keys) (max vn.frame 16) = le-max_right (list_frame (values_need keys)) (sizes_in (values_need keys) + max vn.frame 16) in
    let b : list_frame (values_need keys) ≤ beside (values_need keys) (max vn.frame 16) = le-max_left (list_frame (values_need keys)) (sizes_in (values_need keys) + max vn.frame 16) in
    let x : vn.frame ≤ max vn.frame 16 = le-max_left vn.frame 16 in
    let y : 16 ≤ max vn.frame 16 = le-max_right vn.frame 16 in
    let z : sizes_of (ks ++ shapes.Int ∷ []) ≡ sizes_of ks + sizes_of (shapes.Int ∷ []) = sizes-append ks (shapes.Int ∷ []) in
    stmt-is s (stmts.UpdateMap m keys op v) qs (update_map m (values_do keys) op (number_does v)) (need (beside (values_need keys) (max vn.frame 16)) (40 + codes_in (values_need keys) + vn.code)) way c new hs (form.UpdateMap-parts m keys op v) (form.UpdateMap-does m keys op v) (form.UpdateMap-need m keys op v)
    (Stmt-less qs (update_map m (values_do keys) op (number_does v)) (need (max (beside (values_need keys) vn.frame) (sizes_of (ks ++ shapes.Int ∷ []) + 8)) (40 + (codes_in (values_need keys) + vn.code))) _ way c new
    (max-le (max-le b (omega arith)) (omega (arith, lk.sized))) (omega arith)
    (Lowers-act qs (i.Update m ks op) (ps ++ vs) (values_do keys ++ number_value (number_does v) ∷ []) (ks ++ shapes.Int ∷ []) (update_map m (values_do keys) op (number_does v)) (λ w us frame. updated m (below us) op (number_of (top us))) (λ us frame a. frame)
    (need (beside (values_need keys) vn.frame) (codes_in (values_need keys) + vn.code)) way c c1 new (update-acts qs m ks op (values_do keys) (number_does v))
    (λ t inside f. let p = fit-head t.scope (Assigned (Some op)) (keyed_parts m.0 (all_made keys) shapes.Int ++ vs) f in let q = fit-head t.scope (MapOf m.0 ks shapes.Int) (ps ++ vs) p.1 in (map_names t m ks shapes.Int q.0, q.1))
    (e1 ∙ ap (λ x. pushed (i.Update m x op) c) hk) (keyed m keys (number_value (number_does v)) vs shapes.Int vn c1 c2 new lv lk)))

-- ---- aggregations

same_agg-agg : (k : MapKind) (a : AggKind) → same_kind k (Aggs a) ≡ true → is_agg k ≡ true
same_agg-agg Ints a h = cc
same_agg-agg Strs a h = cc
same_agg-agg (Aggs b) a h = refl

gathers-case : (t : Site) (n : ℕ) (kind : AggKind) (key : List Shape) (o : Option MapDecl) → decl_of n t.scope.maps ≡ o → is_declared o (Aggs kind) key ≡ true → gathers (ground_in t.ground) n key ≡ true
gathers-case t n kind key None e h = cc
gathers-case t n kind key (Some decl) e h =
    let p = and_parts (same_kind decl.kind (Aggs kind)) (same_shapes decl.key_shape key) h in
    let same : decl.key_shape ≡ key = same_shapes-is decl.key_shape key p.1 in
    let few : length key ≤ KEY_PARTS = subst (λ (l : List Shape). length l ≤ KEY_PARTS) same (t.agrees.few n decl e) in
    rw (few-key key few, t.agrees.maps n decl e, same_agg-agg decl.kind kind p.0) p.1

pub T-Count : (s : TypedStmt) (m : MapId) (keys es : List AnyExpr) (kind : AggKind) (key : List Shape) (way : Ways) (c c1 new : Code) → s ≡ stmts.Gather m keys kind None → es ≡ keys → key ≡ key_shapes (all_made keys) →
    c1 ≡ pushed (i.Count m key) c → LowersList es c1 new → LowersStmt (stmt_parts s) (stmt_does s) (stmt_need s) way c new
T-Count s m keys es kind key way c c1 new hs he hk e1 lk0 =
    let lk = subst (λ (x : List AnyExpr). LowersList x c1 new) he lk0 in
    let ks = key_shapes (all_made keys) in
    let ps = parts_in (all_made keys) in
    let qs : Bool → List TreePart = λ inside. gather_parts m.0 (all_made keys) kind None in
    stmt-is s (stmts.Gather m keys kind None) qs (gather m (values_do keys) (given (pos 1))) (need (list_frame (values_need keys)) (24 + codes_in (values_need keys))) way c new hs (form.Gather-parts m keys kind None) (form.Gather-does m keys kind None) (form.Gather-need m keys kind None)
    (Stmt-less qs (gather m (values_do keys) (given (pos 1))) (need (max (list_frame (values_need keys)) (sizes_of ks + 0)) (24 + codes_in (values_need keys))) _ way c new (max-le (omega arith) (omega (arith, lk.lowered.sizes))) (omega arith)
    (Lowers-act qs (i.Count m ks) ps (values_do keys) ks (gather m (values_do keys) (given (pos 1))) (λ w us frame. tells (Cpu w.actor) (ops.Add m us (pos 1))) (λ us frame a. frame)
    (need (list_frame (values_need keys)) (codes_in (values_need keys))) way c c1 new (count-acts qs m ks (values_do keys))
    (λ t inside f. let p = fit-head t.scope (Gathered m.0 ks kind true) (ps ++ []) f in let g = and_parts (is_declared (decl_of m.0 t.scope.maps) (Aggs kind) ks) (same_bool true (is_count kind)) p.0 in (gathers-case t m.0 kind ks (decl_of m.0 t.scope.maps) refl g.0, (fit-parts t.scope ps [] p.1).0))
    (e1 ∙ ap (λ x. pushed (i.Count m x) c) hk) lk.lowered))

pub T-Add : (s : TypedStmt) (m : MapId) (keys es : List AnyExpr) (kind : AggKind) (v : NumExpr) (key : List Shape) (way : Ways) (c c1 c2 new : Code) → s ≡ stmts.Gather m keys kind (Some v) → es ≡ keys → key ≡ key_shapes (all_made keys) →
    c1 ≡ pushed (i.Add m key) c → LowersNumber v c1 c2 → LowersList es c2 new → LowersStmt (stmt_parts s) (stmt_does s) (stmt_need s) way c new
T-Add s m keys es kind v key way c c1 c2 new hs he hk e1 lv lk0 =
    let lk = subst (λ (x : List AnyExpr). LowersList x c2 new) he lk0 in
    let ks = key_shapes (all_made keys) in
    let ps = parts_in (all_made keys) in
    let vs = num_parts v in
    let vn = number_need v in
    let qs : Bool → List TreePart = λ inside. gather_parts m.0 (all_made keys) kind (Some v) in
    stmt-is s (stmts.Gather m keys kind (Some v)) qs (gather m (values_do keys) (number_does v)) (need (beside (values_need keys) vn.frame) (24 + codes_in (values_need keys) + vn.code)) way c new hs (form.Gather-parts m keys kind (Some v)) (form.Gather-does m keys kind (Some v)) (form.Gather-need m keys kind (Some v))
    (Stmt-less qs (gather m (values_do keys) (number_does v)) (need (max (beside (values_need keys) vn.frame) (sizes_of (ks ++ shapes.Int ∷ []) + 0)) (24 + (codes_in (values_need keys) + vn.code))) _ way c new
    (max-le (omega arith) (omega (arith, sizes-append ks (shapes.Int ∷ []), lk.sized, lv.sizes, le-max_right (list_frame (values_need keys)) (sizes_in (values_need keys) + vn.frame)))) (omega arith)
    (Lowers-act qs (i.Add m ks) (ps ++ vs) (values_do keys ++ number_value (number_does v) ∷ []) (ks ++ shapes.Int ∷ []) (gather m (values_do keys) (number_does v)) (λ w us frame. tells (Cpu w.actor) (ops.Add m (below us) (number_of (top us)))) (λ us frame a. frame)
    (need (beside (values_need keys) vn.frame) (codes_in (values_need keys) + vn.code)) way c c1 new (add-acts qs m ks (values_do keys) (number_does v))
    (λ t inside f. let p = fit-head t.scope (Gathered m.0 ks kind false) (ps ++ vs) f in let g = and_parts (is_declared (decl_of m.0 t.scope.maps) (Aggs kind) ks) (same_bool false (is_count kind)) p.0 in (gathers-case t m.0 kind ks (decl_of m.0 t.scope.maps) refl g.0, p.1))
    (e1 ∙ ap (λ x. pushed (i.Add m x) c) hk) (keyed m keys (number_value (number_does v)) vs shapes.Int vn c1 c2 new lv lk)))

-- ---- what stands under a key is taken away, and values are printed

shared-case : (t : Site) (n : ℕ) (key : List Shape) (o : Option MapDecl) → decl_of n t.scope.maps ≡ o → is_shared o key ≡ true → (is_key_shape key && is_shared (slice_get t.ground.maps n) key) ≡ true
shared-case t n key None e h = cc
shared-case t n key (Some decl) e h =
    let p = and_parts _ (same_shapes decl.key_shape key) h in
    let same : decl.key_shape ≡ key = same_shapes-is decl.key_shape key p.1 in
    let few : length key ≤ KEY_PARTS = subst (λ (l : List Shape). length l ≤ KEY_PARTS) same (t.agrees.few n decl e) in
    rw (few-key key few, t.agrees.maps n decl e) h

pub T-Delete : (s : TypedStmt) (m : MapId) (keys es : List AnyExpr) (key : List Shape) (way : Ways) (c c1 new : Code) → s ≡ stmts.Delete m keys → es ≡ keys → key ≡ key_shapes (all_made keys) →
    c1 ≡ pushed (i.Delete m key) c → LowersList es c1 new → LowersStmt (stmt_parts s) (stmt_does s) (stmt_need s) way c new
T-Delete s m keys es key way c c1 new hs he hk e1 lk0 =
    let lk = subst (λ (x : List AnyExpr). LowersList x c1 new) he lk0 in
    let ks = key_shapes (all_made keys) in
    let ps = parts_in (all_made keys) in
    let qs : Bool → List TreePart = λ inside. delete_parts m.0 (all_made keys) in
    stmt-is s (stmts.Delete m keys) qs (delete_at m (values_do keys)) (need (list_frame (values_need keys)) (16 + codes_in (values_need keys))) way c new hs (form.Delete-parts m keys) (form.Delete-does m keys) (form.Delete-need m keys)
    (Stmt-less qs (delete_at m (values_do keys)) (need (max (list_frame (values_need keys)) (sizes_of ks + 0)) (16 + codes_in (values_need keys))) _ way c new (max-le (omega arith) (omega (arith, lk.lowered.sizes))) (omega arith)
    (Lowers-act qs (i.Delete m ks) ps (values_do keys) ks (delete_at m (values_do keys)) (λ w us frame. tells (part m us) (ops.Delete us)) (λ us frame a. frame)
    (need (list_frame (values_need keys)) (codes_in (values_need keys))) way c c1 new (delete-acts qs m ks (values_do keys))
    (λ t inside f. let p = fit-head t.scope (Deleted m.0 ks) ps f in (shared-case t m.0 ks (decl_of m.0 t.scope.maps) refl p.0, p.1))
    (e1 ∙ ap (λ x. pushed (i.Delete m x) c) hk) lk.lowered))

format-case : (t : Site) (n : ℕ) (key : List Shape) (o : Option (List Piece)) → format_of n t.scope.formats ≡ o → takes o key ≡ true → is_format (slice_get t.ground.formats n) key ≡ true
format-case t n key None e h = cc
format-case t n key (Some pieces) e h = rw (t.agrees.formats n pieces e) h

pub T-Printf : (s : TypedStmt) (format : ℕ) (values es : List AnyExpr) (key : List Shape) (way : Ways) (c c1 new : Code) → s ≡ stmts.Printf format values → es ≡ values → key ≡ key_shapes (all_made values) →
    c1 ≡ pushed (i.Printf format key) c → LowersList es c1 new → LowersStmt (stmt_parts s) (stmt_does s) (stmt_need s) way c new
T-Printf s format values es key way c c1 new hs he hk e1 lk0 =
    let lk = subst (λ (x : List AnyExpr). LowersList x c1 new) he lk0 in
    let ks = key_shapes (all_made values) in
    let ps = parts_in (all_made values) in
    let qs : Bool → List TreePart = λ inside. printf_parts format (all_made values) in
    stmt-is s (stmts.Printf format values) qs (printf format (values_do values)) (need (list_frame (values_need values)) (16 + codes_in (values_need values))) way c new hs (form.Printf-parts format values) (form.Printf-does format values) (form.Printf-need format values)
    (Stmt-less qs (printf format (values_do values)) (need (max (list_frame (values_need values)) (sizes_of ks + 0)) (16 + codes_in (values_need values))) _ way c new (max-le (omega arith) (omega (arith, lk.lowered.sizes))) (omega arith)
    (Lowers-act qs (i.Printf format ks) ps (values_do values) ks (printf format (values_do values)) (λ w us frame. tells Out (ops.Emit (items.Printf format us))) (λ us frame a. frame)
    (need (list_frame (values_need values)) (codes_in (values_need values))) way c c1 new (printf-acts qs format ks (values_do values))
    (λ t inside f. let p = fit-head t.scope (Printed format ks) (ps ++ Ending ∷ []) f in (format-case t format ks (format_of format t.scope.formats) refl p.0, (fit-parts t.scope ps (Ending ∷ []) p.1).0))
    (e1 ∙ ap (λ x. pushed (i.Printf format x) c) hk) lk.lowered))
