-- Whether `exit()` stands in a block, by its statements.
use Rattle.std.proofs.Common.{◌≡◌, ◌||◌, ◌<◌, ◌≤◌, ◌+◌, ℕ, Bool, true, false, List, [], ◌∷◌, length, map, take, get_or, option_map, unwrap_or, Option, Some, None, refl, sym, ap, ◌∙◌}
use Rattle.std.specs.List.{list_any}
use Rattle.std.proofs.lemmas.List.Folds.{list_any_at, list_any_more}
use Rattle.std.proofs.lemmas.List.{take_all}
use Rattle.bt_ast.specs.declared.expr.Expr.{Expr}
use Rattle.bt_ast.specs.declared.stmt.Block.{Block, out-Block, roll-out-Block, fold-roll-Block}
use Rattle.bt_ast.specs.declared.stmt.StmtKind.{fold-roll-StmtKind}
use Rattle.bt_ast.specs.declared.stmt.StmtKind.TheVariants.{If, rolls-If}
use Rattle.bt_ast.specs.declared.stmt.StmtKind.TheOpen.{StmtKind-F}
use Rattle.bt_ast.specs.declared.stmt.StmtKind.TheShapes.{former-StmtKind-If-0-at-2}
use Rattle.bt_types.specs.Exits.{kind_exits_layer, block_exits_layer, stmt_exits_layer, kind_exits, stmt_exits, block_exits}

any_map : {A B : Type 0} (f : B → Bool) (g : A → B) (xs : List A) → list_any f (map g xs) ≡ list_any (λ x. f (g x)) xs
any_map f g [] = refl
any_map f g (x ∷ xs) = ap (λ (b : Bool). f (g x) || b) (any_map f g xs)

pub block_exits_is : (b : Block) → block_exits b ≡ list_any stmt_exits (out-Block b).stmts
block_exits_is b =
    ap block_exits (sym (roll-out-Block b))
    ∙ (fold-roll-Block Bool Bool Bool kind_exits_layer block_exits_layer stmt_exits_layer (out-Block b)
    ∙ any_map (λ (exits : Bool). exits) stmt_exits (out-Block b).stmts)

arms_any : (arms : List (Expr × Block)) → list_any (λ (arm : Expr × Bool). arm.1) (map (former-StmtKind-If-0-at-2.map Block Bool block_exits) arms) ≡ list_any (λ (arm : Expr × Block). block_exits arm.1) arms
arms_any [] = refl
arms_any (a ∷ arms) = ap (λ (b : Bool). block_exits a.1 || b) (arms_any arms)

pub if_exits : (arms : List (Expr × Block)) (otherwise : Option Block) → kind_exits (If arms otherwise) ≡ (list_any (λ (arm : Expr × Block). block_exits arm.1) arms || unwrap_or (option_map block_exits otherwise) false)
if_exits arms None =
    ap kind_exits (sym (rolls-If arms None))
    ∙ (fold-roll-StmtKind Bool Bool Bool kind_exits_layer block_exits_layer stmt_exits_layer (StmtKind-F.If arms None)
    ∙ ap (λ (b : Bool). b || false) (arms_any arms))
if_exits arms (Some block) =
    ap kind_exits (sym (rolls-If arms (Some block)))
    ∙ (fold-roll-StmtKind Bool Bool Bool kind_exits_layer block_exits_layer stmt_exits_layer (StmtKind-F.If arms (Some block))
    ∙ ap (λ (b : Bool). b || block_exits block) (arms_any arms))

pub any_here : {A : Type 0} (f : A → Bool) (xs : List A) (i : ℕ) (x : A) → i < length xs → x ≡ get_or xs i x → f x ≡ true → list_any f xs ≡ true
any_here f xs i x within is h = list_any_at f xs i x within (ap f (sym is) ∙ h)

pub none_more : {A : Type 0} (f : A → Bool) (xs : List A) (i : ℕ) (x : A) → i < length xs → x ≡ get_or xs i x → list_any f (take i xs) ≡ false → f x ≡ false → list_any f (take (i + 1) xs) ≡ false
none_more f xs i x within is before h = list_any_more f xs i x within ∙ (ap (λ (b : Bool). b || f (get_or xs i x)) before ∙ (ap f (sym is) ∙ h))

pub none_all : {A : Type 0} (f : A → Bool) (xs : List A) (i : ℕ) → length xs ≤ i → list_any f (take i xs) ≡ false → list_any f xs ≡ false
none_all {A} f xs i past h = ap (λ (l : List A). list_any f l) (sym (take_all i xs past)) ∙ h
