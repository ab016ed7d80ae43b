-- What a statement with blocks was read of can be written again.
use Rattle.std.proofs.Common.{◌≡◌, ℕ, ℤ, false, List, [], ◌∷◌, ◌++◌, Option, Some, None, refl, ap, sym, subst, ◌∙◌, inl, inr, append_assoc}
use Rattle.std.specs.Prelude.{codes, map, option_map}
use Rattle.bt_core.specs.declared.place.Place.{Place}
use Rattle.bt_ast.specs.declared.expr.Expr.{Expr}
use Rattle.bt_ast.specs.declared.stmt.Block.{Block, roll-Block}
use Rattle.bt_ast.specs.declared.stmt.Stmt.{Stmt}
use Rattle.bt_ast.specs.declared.stmt.StmtKind.TheVariants as stmts
use Rattle.ast_text.specs.Words.{token, ending, number_text}
use Rattle.ast_text.specs.Exprs.{expr_text}
use Rattle.ast_text.specs.Stmts.{arms_after, arm_of, otherwise_text, joined, block_text, stmt_text}
use Rattle.bt_grammar.specs.declared.class.Class.{Class}
use Rattle.bt_grammar.specs.declared.class.Class.TheVariants.{IfWord, ElseWord, WhileWord, UnrollWord, OpenBrace, CloseBrace, Semicolon}
use Rattle.bt_grammar.specs.Form.{Item, Part, Expression, Simple, Arm, Tail, Control, Body, Braced, Form, Call, Map, Then, Or, Rel, whole}
use Rattle.bt_grammar.specs.Tokens.{origin}
use Rattle.bt_grammar.specs.Words.{word_class, mark_class}
use Rattle.bt_grammar.specs.Trees.{second, cons, nothing, more_arms, last_block, if_stmt, while_stmt, unroll_stmt, block_of}
use Rattle.bt_grammar.specs.Rules.{rule, mark}
use Rattle.read_back_laws.specs.Bare.{bare_arm, bare_block}
use Rattle.bt_grammar.proofs.AllClasses.{is_same, is_refl}
use Rattle.read_back_laws.proofs.BareStmts.{If_text, If_bare, While_text, While_bare, Unroll_text, Unroll_bare, stmt_text_is, block_text_is, block_bare_is}
use Rattle.read_back_laws.proofs.Lexemes.{written, Honest}
use Rattle.read_back_laws.proofs.LexemesFixed.{kind_of, fixed_valid}
use Rattle.read_back_laws.proofs.CanonicalWeights.{NoDeeper, item_classes, semicolon_shallow}
use Rattle.read_back_laws.proofs.CanonicalForms.{Back, Lift, Again, Behind, Parens, Both, Marked, one_item, lift_mark, lift_empty, lift_map, lift_then, lift_or, lift_as, lift_pair, lift_second, lift_parens}
use Rattle.read_back_laws.proofs.CanonicalValues.{IsExpr, IsSimple, IsControl, IsArm, IsTail, IsBody, IsBlock, Value}
use Rattle.read_back_laws.proofs.CanonicalNumbers.{lift_number}
use Rattle.read_back_laws.proofs.CanonicalExprs.{joined_by}
use Rattle.read_back_laws.proofs.CanonicalStmts.{stmts_same, IsCount}

-- ---- arms

abbrev in_parens_text : List ℕ → List ℕ
in_parens_text x = token (codes "(") ++ (x ++ token (codes ")"))

arm_case : (a b : Expr × Block) (x : List ℕ) → Both (Parens IsExpr) IsBlock a x b → IsArm a x b
arm_case a b x (y, z, ex, (w, ey, (ew, e1)), (ez, e2)) = (ex ∙ joined_by (ey ∙ ap in_parens_text ew) ez, (λ i. (e1 i, e2 i)))

-- what stands behind `else`
abbrev IsElse : Back (List (Expr × Block) × Option Block)
IsElse t x u = (token (codes "else") ++ x ≡ arms_after (token (codes "else")) (map arm_of t.0) ++ otherwise_text (option_map block_text t.1)) × (map bare_arm u.0 ≡ map bare_arm t.0) × (option_map bare_block u.1 ≡ option_map bare_block t.1)

more_text : (e i p b a o : List ℕ) → e ++ ((i ++ (p ++ b)) ++ (a ++ o)) ≡ (e ++ ((i ++ p) ++ (b ++ a))) ++ o
more_text e i p b a o = simp (append_assoc) refl

arms_case : (a b : Expr × Block) (t u : List (Expr × Block) × Option Block) (x y : List ℕ) → Behind (token (codes "if")) IsArm a x b → IsTail t y u → IsElse (more_arms a t) (x ++ y) (more_arms b u)
arms_case a b t u x y (z, ex, (ez, e1)) (ey, e2, e3) = (
  ap (λ (l : List ℕ). token (codes "else") ++ l) (joined_by (ex ∙ ap (λ (l : List ℕ). token (codes "if") ++ l) ez) ey)
      ∙ more_text (token (codes "else")) (token (codes "if")) (in_parens_text (expr_text a.0)) (block_text a.1) (arms_after (token (codes "else")) (map arm_of t.0)) (otherwise_text (option_map block_text t.1)),
  (λ i. e1 i ∷ e2 i),
  e3,
)

last_case : (b c : Block) (x : List ℕ) → IsBlock b x c → IsElse (last_block b) x (last_block c)
last_case b c x (ex, eb) = (ap (λ (l : List ℕ). token (codes "else") ++ l) ex, refl, ap Some eb)

else_case : (t u : List (Expr × Block) × Option Block) (x : List ℕ) → Behind (token (codes "else")) IsElse t x u → IsTail t x u
else_case t u x (y, ex, (e, e2, e3)) = (ex ∙ e, e2, e3)

-- ---- control

if_text : (i p b a o : List ℕ) → i ++ ((p ++ b) ++ (a ++ o)) ≡ ((i ++ p) ++ (b ++ a)) ++ o
if_text i p b a o = simp (append_assoc) refl

if_case : (p q : Place) (a b : (Expr × Block) × (List (Expr × Block) × Option Block)) (x y : List ℕ) → Marked (token (codes "if")) p x q → Both IsArm IsTail a y b → IsControl (if_stmt p a) (x ++ y) (if_stmt q b)
if_case p q a b x y ex (z, w, ey, (ez, e1), (ew, e2, e3)) = (
  joined_by ex (ey ∙ joined_by ez ew)
      ∙ (if_text (token (codes "if")) (in_parens_text (expr_text a.0.0)) (block_text a.0.1) (arms_after (token (codes "else")) (map arm_of a.1.0)) (otherwise_text (option_map block_text a.1.1))
      ∙ (sym (If_text (a.0 ∷ a.1.0) a.1.1) ∙ sym (stmt_text_is p (stmts.If (a.0 ∷ a.1.0) a.1.1)))),
  stmts_same p q (stmts.If (a.0 ∷ a.1.0) a.1.1) (stmts.If (b.0 ∷ b.1.0) b.1.1)
      (If_bare (b.0 ∷ b.1.0) b.1.1 ∙ ((λ i. stmts.If (e1 i ∷ e2 i) (e3 i)) ∙ sym (If_bare (a.0 ∷ a.1.0) a.1.1))),
)

while_case : (p q : Place) (a b : Expr × Block) (x y : List ℕ) → Marked (token (codes "while")) p x q → IsArm a y b → IsControl (while_stmt p a) (x ++ y) (while_stmt q b)
while_case p q a b x y ex (ey, eb) = (
  joined_by ex ey ∙ (sym (append_assoc (token (codes "while")) (in_parens_text (expr_text a.0)) (block_text a.1)) ∙ (sym (While_text a.0 a.1) ∙ sym (stmt_text_is p (stmts.While a.0 a.1)))),
  stmts_same p q (stmts.While a.0 a.1) (stmts.While b.0 b.1) (While_bare b.0 b.1 ∙ ((λ i. stmts.While (eb i).0 (eb i).1) ∙ sym (While_bare a.0 a.1))),
)

unroll_case : (p q : Place) (a b : ℤ × Block) (x y : List ℕ) → Marked (token (codes "unroll")) p x q → Both (Parens IsCount) IsBlock a y b → IsControl (unroll_stmt p a) (x ++ y) (unroll_stmt q b)
unroll_case p q a b x y ex (z, w, ey, (v, ez, (ev, e1)), (ew, e2)) = (
  joined_by ex (ey ∙ joined_by (ez ∙ ap in_parens_text ev) ew) ∙ (sym (append_assoc (token (codes "unroll")) (in_parens_text (number_text a.0)) (block_text a.1)) ∙ (sym (Unroll_text a.0 a.1) ∙ sym (stmt_text_is p (stmts.Unroll a.0 a.1)))),
  stmts_same p q (stmts.Unroll a.0 a.1) (stmts.Unroll b.0 b.1) (Unroll_bare b.0 b.1 ∙ ((λ i. stmts.Unroll (e1 i) (e2 i)) ∙ sym (Unroll_bare a.0 a.1))),
)

-- ---- blocks

nothing_case : (p q : Place) (x : List ℕ) → Marked (ending (codes "}")) p x q → IsBody (nothing p) x (nothing q)
nothing_case p q x ex = (ex, refl)

control_case : (s r : Stmt) (ss rs : List Stmt) (x y : List ℕ) → IsControl s x r → IsBody ss y rs → IsBody (cons s ss) (x ++ y) (cons r rs)
control_case s r ss rs x y (ex, e1) (ey, e2) = (joined_by ex ey ∙ sym (append_assoc (stmt_text s) (joined (map stmt_text ss)) (ending (codes "}"))), (λ i. e1 i ∷ e2 i))

simple_case : (s r : Stmt) (ss rs : List Stmt) (x y : List ℕ) → IsSimple s x r → Behind (ending (codes ";")) IsBody ss y rs → IsBody (cons s ss) (x ++ y) (cons r rs)
simple_case s r ss rs x y (ex, e1) (z, ey, (ez, e2)) =
    (ap (λ (l : List ℕ). x ++ l) ey ∙ (sym (append_assoc x (ending (codes ";")) z) ∙ (joined_by ex ez ∙ sym (append_assoc (stmt_text s) (joined (map stmt_text ss)) (ending (codes "}"))))), (λ i. e1 i ∷ e2 i))

block_case : (p q : Place) (ss rs : List Stmt) (x y : List ℕ) → Marked (ending (codes "{")) p x q → IsBody ss y rs → IsBlock (block_of p ss) (x ++ y) (block_of q rs)
block_case p q ss rs x y ex (ey, eb) =
    (joined_by ex ey ∙ sym (block_text_is p ss), block_bare_is q rs ∙ (ap (λ (l : List Stmt). roll-Block (record { stmts = l; place = origin })) eb ∙ sym (block_bare_is p ss)))

abbrev Rest : Form (List Stmt)
Rest = Or (Then second (mark Semicolon) (Call Body)) (Map nothing (mark CloseBrace))

module _ (R : Rel) (calls : (n : Part) → Lift R (Call n) (Value n)) where
  pub lift_Arm : Lift R (rule Arm) IsArm
  lift_Arm = lift_as R (lift_pair R (lift_parens R (calls (Expression false))) (calls Braced)) arm_case

  pub lift_Tail : Lift R (rule Tail) IsTail
  lift_Tail = lift_or R (lift_as R (lift_second R ElseWord refl (lift_or R (lift_then R (lift_second R IfWord refl (calls Arm)) (calls Tail) arms_case) (lift_map R (calls Braced) last_case))) else_case)
      (lift_empty R ([], None) {V = IsTail} (refl, refl, refl))

  pub lift_Control : Lift R (rule Control) IsControl
  lift_Control = lift_or R (lift_then R (lift_mark R IfWord refl) (lift_pair R (calls Arm) (calls Tail)) if_case)
      (lift_or R (lift_then R (lift_mark R WhileWord refl) (calls Arm) while_case)
      (lift_then R (lift_mark R UnrollWord refl) (lift_pair R (lift_parens R (lift_number R)) (calls Braced)) unroll_case))

  pub lift_Braced : Lift R (rule Braced) IsBlock
  lift_Braced = lift_then R (lift_mark R OpenBrace refl) (calls Body) block_case

  pub lift_end : Lift R (Map nothing (mark CloseBrace)) IsBody
  lift_end = lift_map R (lift_mark R CloseBrace refl) nothing_case

  -- a semicolon is always written
  lift_rest : ((u : Item) → u.class ≡ CloseBrace → R Body (u ∷ []) []) → Lift R Rest (Behind (ending (codes ";")) IsBody)
  unfolding word_class mark_class
  lift_rest closes = record { lift = go }
    where
      semicolon : Lift R (Then second (mark Semicolon) (Call Body)) (Behind (ending (codes ";")) IsBody)
      semicolon = lift_second R Semicolon refl (calls Body)

      go : (ts : List Item) (a : List Stmt) → Honest ts → whole R Rest ts a → Again R Rest (Behind (ending (codes ";")) IsBody) ts a
      go ts a h (inl w) = let (ks, v, s, again) = semicolon.lift ts a h w in (ks, v, s, λ us are. let (b, w', r) = again us are in (b, inl w', r))
      go ts a h (inr (p, e, (t, ep, (et, q)))) = (
        kind_of Semicolon ∷ (kind_of CloseBrace ∷ []),
        (fixed_valid Semicolon refl, (fixed_valid CloseBrace refl, tt)),
        subst (λ (l : List Class). NoDeeper l (Semicolon ∷ CloseBrace ∷ [])) (sym (ap item_classes et ∙ ap (λ (c : Class). c ∷ []) (is_same CloseBrace t.class q))) semicolon_shallow,
        λ us are.
            let (u, r, eu, ek, ec, are') = are in
            let (v, ev, ek', ec') = one_item (kind_of CloseBrace) r are' in (
              [],
              inl (u ∷ [], v ∷ [], u.place, [], eu ∙ ap (λ (z : List Item). u ∷ z) ev, refl, (u, refl, (refl, is_refl Semicolon u.class ec)), closes v ec'),
              subst (λ (l : List Stmt). Behind (ending (codes ";")) IsBody l (written (kind_of Semicolon ∷ (kind_of CloseBrace ∷ []))) []) (sym e) (ending (codes "}"), refl, (refl, refl)),
            ),
      )

  pub lift_Body : ((u : Item) → u.class ≡ CloseBrace → R Body (u ∷ []) []) → Lift R (rule Body) IsBody
  lift_Body closes = lift_or R lift_end (lift_or R (lift_then R (calls Control) (calls Body) control_case) (lift_then R (calls Simple) (lift_rest closes) simple_case))
