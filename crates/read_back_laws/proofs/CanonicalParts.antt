-- What a probe and a script were read of can be written again.
use Rattle.std.proofs.Common.{◌≡◌, ℕ, zero, suc, Bool, true, false, not, List, [], ◌∷◌, ◌++◌, Option, Some, None, refl, ap, sym, ◌∙◌, inl, inr, append_assoc}
use Rattle.std.specs.Prelude.{codes, map, option_map}
use Rattle.std.proofs.lemmas.List.{append-nil}
use Rattle.bt_ast.specs.declared.expr.Expr.{Expr}
use Rattle.bt_ast.specs.declared.stmt.Block.{Block}
use Rattle.bt_ast.specs.declared.stmt.Stmt.{Stmt}
use Rattle.bt_ast.specs.declared.probe.Point.{Point}
use Rattle.bt_ast.specs.declared.probe.Probe.{Probe}
use Rattle.ast_text.specs.Words.{token}
use Rattle.ast_text.specs.Stmts.{joined}
use Rattle.ast_text.specs.Scripts.{points_text, predicate_text, probe_text}
use Rattle.bt_grammar.specs.declared.class.Class.{Class}
use Rattle.bt_core.specs.declared.operator.BinOp.TheVariants.{Div}
use Rattle.bt_grammar.specs.declared.class.Class.TheVariants.{CloseBrace, Operator}
use Rattle.bt_grammar.specs.declared.class.Tier.{Tier}
use Rattle.bt_grammar.specs.declared.class.Tier.TheVariants.{Products, Sums, Shifts, Orders, Equalities, BitAnds, BitXors, BitOrs, AndThens, OrElses}
use Rattle.bt_grammar.specs.Form.{Item, is_brace, brace_next, Part, Primary, Unary, Level, Expression, Values, Keyed, Assignable, Int, Aggregation, Update, AfterMap, AfterVar, Printf, Print, Delete, CallOrJump, Simple, Arm, Tail, Control, Body, Braced, Points, OneProbe, WholeScript, Of, Call, Rel, whole}
use Rattle.bt_grammar.specs.Tokens.{origin}
use Rattle.bt_grammar.specs.Trees.{single, snoc, with_points, probe_of}
use Rattle.bt_grammar.specs.Rules.{rule, operand}
use Rattle.bt_grammar.specs.Tables.{fst_of}
use Rattle.bt_grammar.specs.Grammar.{whole_at}
use Rattle.read_back_laws.specs.Bare.{bare_expr, bare_point, bare_probe}
use Rattle.bt_grammar.proofs.AllClasses.{implies1, is_refl}
use Rattle.bt_grammar.proofs.Depth.{first_at}
use Rattle.read_back_laws.proofs.Lexemes.{Honest}
use Rattle.read_back_laws.proofs.CanonicalForms.{Back, Lift, Again, Before, Behind, Maybe, lift_map, lift_then, lift_until, lift_chain, lift_as, lift_optional, lift_second}
use Rattle.read_back_laws.proofs.CanonicalValues.{IsExpr, IsBody, IsBlock, IsPoints, IsProbe, IsProbes, Value}
use Rattle.read_back_laws.proofs.CanonicalExprs.{joined_by, snoc_same, lift_Primary, lift_Unary, lift_Level, lift_Expression, lift_Values, lift_Keyed, lift_Assignable}
use Rattle.read_back_laws.proofs.CanonicalNumbers.{lift_Int}
use Rattle.read_back_laws.proofs.CanonicalPoints.{lift_Points}
use Rattle.read_back_laws.proofs.CanonicalStmts.{lift_Aggregation, lift_Update, lift_AfterMap, lift_AfterVar, lift_Printf, lift_Print, lift_Delete, lift_CallOrJump, lift_Simple}
use Rattle.read_back_laws.proofs.CanonicalBlocks.{lift_Arm, lift_Tail, lift_Control, lift_Braced, lift_end, lift_Body}

-- ---- probes

abbrev IsPredicate : Back (Option Expr)
IsPredicate o x p = (x ≡ predicate_text o) × (option_map bare_expr p ≡ option_map bare_expr o)

predicate_case : (o p : Option Expr) (x : List ℕ) → Maybe (Behind (token (codes "/")) (Before (token (codes "/")) IsExpr)) o x p → IsPredicate o x p
predicate_case None p x (ex, ep) = (ex, ap (λ (z : Option Expr). option_map bare_expr z) ep)
predicate_case (Some e) p x (f, ep, (y, ex, (z, ey, (ez, eb)))) =
    (ex ∙ ap (λ (l : List ℕ). token (codes "/") ++ l) (ey ∙ ap (λ (l : List ℕ). l ++ token (codes "/")) ez), ap (λ (z : Option Expr). option_map bare_expr z) ep ∙ ap Some eb)

abbrev IsBehind : Back (List Point → Probe)
IsBehind f x g = (ps qs : List Point) → map bare_point qs ≡ map bare_point ps → (points_text ps ++ x ≡ probe_text (f ps)) × (bare_probe (g qs) ≡ bare_probe (f ps))

abbrev bare_made : List Point → Option Expr → Block → Probe
bare_made ps o b = record { points = ps; predicate = o; block = b; place = origin }

behind_case : (o p : Option Expr) (b c : Block) (x y : List ℕ) → IsPredicate o x p → IsBlock b y c → IsBehind (probe_of o b) (x ++ y) (probe_of p c)
behind_case o p b c x y (ex, eo) (ey, eb) = λ ps qs ep. (ap (λ (l : List ℕ). points_text ps ++ l) (joined_by ex ey), (λ i. bare_made (ep i) (eo i) (eb i)))

probe_case : (ps qs : List Point) (f g : List Point → Probe) (x y : List ℕ) → IsPoints ps x qs → IsBehind f y g → IsProbe (with_points ps f) (x ++ y) (with_points qs g)
probe_case ps qs f g x y (p, more, eps, ex, eb) h = let (e, b) = h ps qs eb in
    (ap (λ (l : List ℕ). l ++ y) (ex ∙ ap points_text (sym eps)) ∙ e, b)

joined_snoc : (ps : List Probe) (p : Probe) → joined (map probe_text (ps ++ p ∷ [])) ≡ joined (map probe_text ps) ++ probe_text p
joined_snoc [] p = append-nil (probe_text p)
joined_snoc (q ∷ ps) p = ap (λ (l : List ℕ). probe_text q ++ l) (joined_snoc ps p) ∙ sym (append_assoc (probe_text q) (joined (map probe_text ps)) (probe_text p))

one_case : (p q : Probe) (x : List ℕ) → IsProbe p x q → IsProbes (single p) x (single q)
one_case p q x (ex, eb) = (ex ∙ sym (append-nil (probe_text p)), ap (λ (l : Probe). l ∷ []) eb)

more_case : (ps qs : List Probe) (p q : Probe) (x y : List ℕ) → IsProbes ps x qs → IsProbe p y q → IsProbes (snoc ps p) (x ++ y) (snoc qs q)
more_case ps qs p q x y (ex, eb) (ey, ef) = (joined_by ex ey ∙ sym (joined_snoc ps p), snoc_same bare_probe ps qs p q eb ef)

module _ (R : Rel) (calls : (n : Part) → Lift R (Call n) (Value n)) where
  lift_OneProbe : Lift R (rule OneProbe) IsProbe
  lift_OneProbe = lift_then R (calls Points) (lift_then R (lift_as R (lift_optional R (lift_second R (Operator Div) refl (lift_until R (Operator Div) refl (calls (Expression true))))) predicate_case) (calls Braced) behind_case) probe_case

  lift_WholeScript : Lift R (rule WholeScript) IsProbes
  lift_WholeScript = lift_chain R (lift_map R (calls OneProbe) one_case) (calls OneProbe) more_case

-- ---- no expression begins with a brace

no_brace : (c : Class) → not (is_brace c) ≡ true → is_brace c ≡ false
no_brace c h = flipped (is_brace c) h
  where
    flipped : (b : Bool) → not b ≡ true → b ≡ false
    flipped true h = cc (h)
    flipped false h = refl

part_unbraced : (d : ℕ) (n : Part) → ((c : Class) → fst_of n c ≡ true → not (is_brace c) ≡ true) → (us : List Item) (v : Of n) → whole_at d n us v → brace_next us ≡ false
part_unbraced d n h [] v w = refl
part_unbraced d n h (t ∷ us) v w = no_brace t.class (h t.class (first_at d n t us v w))

unbraced : (d : ℕ) (p : Bool) (tier : Tier) (us : List Item) (v : Expr) → whole (whole_at d) (operand p tier) us v → brace_next us ≡ false
unbraced d p Products us v w = part_unbraced d Unary (implies1 (fst_of Unary) (λ c. not (is_brace c)) refl) us v w
unbraced d p Sums us v w = part_unbraced d (Level p Products) (implies1 (fst_of (Level p Products)) (λ c. not (is_brace c)) refl) us v w
unbraced d p Shifts us v w = part_unbraced d (Level p Sums) (implies1 (fst_of (Level p Sums)) (λ c. not (is_brace c)) refl) us v w
unbraced d p Orders us v w = part_unbraced d (Level p Shifts) (implies1 (fst_of (Level p Shifts)) (λ c. not (is_brace c)) refl) us v w
unbraced d p Equalities us v w = part_unbraced d (Level p Orders) (implies1 (fst_of (Level p Orders)) (λ c. not (is_brace c)) refl) us v w
unbraced d p BitAnds us v w = part_unbraced d (Level p Equalities) (implies1 (fst_of (Level p Equalities)) (λ c. not (is_brace c)) refl) us v w
unbraced d p BitXors us v w = part_unbraced d (Level p BitAnds) (implies1 (fst_of (Level p BitAnds)) (λ c. not (is_brace c)) refl) us v w
unbraced d p BitOrs us v w = part_unbraced d (Level p BitXors) (implies1 (fst_of (Level p BitXors)) (λ c. not (is_brace c)) refl) us v w
unbraced d p AndThens us v w = part_unbraced d (Level p BitOrs) (implies1 (fst_of (Level p BitOrs)) (λ c. not (is_brace c)) refl) us v w
unbraced d p OrElses us v w = part_unbraced d (Level p AndThens) (implies1 (fst_of (Level p AndThens)) (λ c. not (is_brace c)) refl) us v w

-- ---- all parts

body_at : (d : ℕ) → ((n : Part) → Lift (whole_at d) (Call n) (Value n)) → Lift (whole_at d) (rule Body) IsBody
body_at zero calls = record { lift = go }
  where
    go : (ts : List Item) (a : List Stmt) → Honest ts → whole (whole_at zero) (rule Body) ts a → Again (whole_at zero) (rule Body) IsBody ts a
    go ts a h (inl w) = let (ks, v, s, again) = (lift_end (whole_at zero) calls).lift ts a h w in (ks, v, s, λ us are. let (b, w', r) = again us are in (b, inl w', r))
    go ts a h (inr (inl w)) = absurd w.6
    go ts a h (inr (inr w)) = absurd w.6
body_at (suc d) calls = lift_Body (whole_at (suc d)) calls (λ u e. inl (u.place, refl, (u, refl, (refl, is_refl CloseBrace u.class e))))

rules : (d : ℕ) → ((n : Part) → Lift (whole_at d) (Call n) (Value n)) → (n : Part) → Lift (whole_at d) (rule n) (Value n)
rules d calls Primary = lift_Primary (whole_at d) calls (unbraced d)
rules d calls Unary = lift_Unary (whole_at d) calls (unbraced d)
rules d calls (Level p tier) = lift_Level (whole_at d) calls (unbraced d) p tier
rules d calls (Expression p) = lift_Expression (whole_at d) calls (unbraced d) p
rules d calls Values = lift_Values (whole_at d) calls (unbraced d)
rules d calls Keyed = lift_Keyed (whole_at d) calls (unbraced d)
rules d calls Assignable = lift_Assignable (whole_at d) calls (unbraced d)
rules d calls Int = lift_Int (whole_at d)
rules d calls Aggregation = lift_Aggregation (whole_at d) calls
rules d calls Update = lift_Update (whole_at d) calls
rules d calls AfterMap = lift_AfterMap (whole_at d) calls
rules d calls AfterVar = lift_AfterVar (whole_at d) calls
rules d calls Printf = lift_Printf (whole_at d) calls
rules d calls Print = lift_Print (whole_at d) calls
rules d calls Delete = lift_Delete (whole_at d) calls
rules d calls CallOrJump = lift_CallOrJump (whole_at d) calls
rules d calls Simple = lift_Simple (whole_at d) calls
rules d calls Arm = lift_Arm (whole_at d) calls
rules d calls Tail = lift_Tail (whole_at d) calls
rules d calls Control = lift_Control (whole_at d) calls
rules d calls Body = body_at d calls
rules d calls Braced = lift_Braced (whole_at d) calls
rules d calls Points = lift_Points (whole_at d)
rules d calls OneProbe = lift_OneProbe (whole_at d) calls
rules d calls WholeScript = lift_WholeScript (whole_at d) calls

-- each part can be written again
pub lift_part : (d : ℕ) (n : Part) → Lift (whole_at d) (Call n) (Value n)
lift_part zero n = record { lift = λ ts a h w. absurd w }
lift_part (suc d) n = record { lift = (rules d (lift_part d) n).lift }
