-- Each part of a block is read by its steps.
use Rattle.std.proofs.Common.{◌≡◌, ◌<◌, Bool, true, false, List, [], ◌∷◌, ◌++◌, length, refl, sym, ◌∙◌, ap, append_assoc, arith}
use Rattle.std.proofs.lemmas.List.{append-nil}
use Rattle.bt_lexer.specs.declared.token.Token.{Token}
use Rattle.bt_ast.specs.declared.expr.Expr.{Expr}
use Rattle.bt_ast.specs.declared.stmt.Block.{Block}
use Rattle.bt_ast.specs.declared.stmt.Stmt.{Stmt}
use Rattle.bt_grammar.specs.declared.class.Class.TheVariants.{IfWord, ElseWord, WhileWord, CloseBrace, Semicolon}
use Rattle.bt_grammar.specs.Classes.{is}
use Rattle.bt_grammar.specs.Tables.{is_control}
use Rattle.bt_grammar.specs.Form.{Item, Simple, Arm, Tail, Control, Body, Braced, Form, Or, Then, Map, Call}
use Rattle.bt_grammar.specs.Reading.{Out, Done, Refused, Unfinished, and_then, read, reads, rest_of}
use Rattle.bt_grammar.specs.Rules.{rule, mark, in_parens, a_number}
use Rattle.bt_grammar.specs.Tokens.{items}
use Rattle.bt_grammar.specs.Trees.{second, nothing}
use Rattle.bt_parser.specs.Statements.{turns_by, arm_by, arms_on, arms_turn, control_by, body_on, ended, ended_by, body_turn, block_by}
use Rattle.bt_grammar.proofs.Enough.{reads_is}
use Rattle.bt_parser.proofs.Mirrored.{and_then_assoc, and_then_same}

pub turns_is : (ts : List Item) → read reads (in_parens a_number) ts ≡ turns_by ts
turns_is ts = simp and_then_assoc

pub arm_is : (ts : List Item) → reads Arm ts ≡ arm_by ts
arm_is ts = reads_is Arm ts

pub block_is : (ts : List Item) → reads Braced ts ≡ block_by ts
block_is ts = rw (reads_is Braced ts) (simp and_then_assoc)

control_by_class : (t : Item) (r : List Item) (b d : Bool) → is IfWord t.class ≡ b → is WhileWord t.class ≡ d → read reads (rule Control) (t ∷ r) ≡ control_by (t ∷ r)
unfolding arms_on
control_by_class t r true d h i = rw h (simp and_then_assoc)
control_by_class t r false true h i = rw (h, i) refl
control_by_class t r false false h i = rw (h, i) (simp and_then_assoc)

pub control_is : (ts : List Item) → reads Control ts ≡ control_by ts
control_is [] = reads_is Control []
control_is (t ∷ r) = rw (reads_is Control (t ∷ r)) (control_by_class t r (is IfWord t.class) (is WhileWord t.class) refl refl)

-- ---- the arms of an `if`

else_by : (arms : List (Expr × Block)) (t u : Item) (r : List Item) (b : Bool) → is ElseWord t.class ≡ true → is IfWord u.class ≡ b
    → arms_on arms (t ∷ u ∷ r) ≡ arms_turn arms (t ∷ u ∷ r)
unfolding arms_on
else_by arms t u r true h i = rw (reads_is Tail (t ∷ u ∷ r)) (rw (h, i) (simp (and_then_assoc, append_assoc)))
else_by arms t u r false h i = rw (reads_is Tail (t ∷ u ∷ r)) (rw (h, i) (simp (and_then_assoc, append-nil)))

else_is : (arms : List (Expr × Block)) (t : Item) (r : List Item) → is ElseWord t.class ≡ true → arms_on arms (t ∷ r) ≡ arms_turn arms (t ∷ r)
unfolding arms_on
else_is arms t [] h = rw (reads_is Tail (t ∷ [])) (rw h (simp (and_then_assoc, append-nil)))
else_is arms t (u ∷ r) h = else_by arms t u r (is IfWord u.class) h refl

arms_by : (arms : List (Expr × Block)) (t : Item) (r : List Item) (b : Bool) → is ElseWord t.class ≡ b → arms_on arms (t ∷ r) ≡ arms_turn arms (t ∷ r)
unfolding arms_on
arms_by arms t r true h = else_is arms t r h
arms_by arms t r false h = rw (reads_is Tail (t ∷ r)) (rw h (simp append-nil))

pub arms_turns : (arms : List (Expr × Block)) (ts : List Item) → arms_on arms ts ≡ arms_turn arms ts
unfolding arms_on
arms_turns arms [] = rw (reads_is Tail [], append-nil arms) refl
arms_turns arms (t ∷ r) = arms_by arms t r (is ElseWord t.class) refl

-- a token is left behind the first of two
pub second_left : (old new : List Token) → items new ≡ rest_of (items old) → 1 < length old → 0 < length new
second_left [] new e h = absurd (omega arith)
second_left (t ∷ []) new e h = absurd (omega arith)
second_left (t ∷ u ∷ r) [] e h = cc (e)
second_left (t ∷ u ∷ r) (x ∷ new) e h = omega arith

-- ---- the statements of a block

abbrev behind_simple : Form (List Stmt)
behind_simple = Or (Then second (mark Semicolon) (Call Body)) (Map nothing (mark CloseBrace))

body_close : (xs : List Stmt) (t : Item) (r : List Item) → is CloseBrace t.class ≡ true → body_on xs (t ∷ r) ≡ Done xs r
unfolding body_on
body_close xs t r h = rw (reads_is Body (t ∷ r)) (rw h (simp append-nil))

-- what stands behind a statement without blocks, where that is no semicolon
last_by : (body : List Stmt) (x : Stmt) (t : Item) (r : List Item) (b : Bool) → is Semicolon t.class ≡ false → is CloseBrace t.class ≡ b
    → and_then (read reads behind_simple (t ∷ r)) (λ ys r1. Done ((body ++ x ∷ []) ++ ys) r1) ≡ and_then (ended x (t ∷ r)) (λ y r1. body_on (body ++ y ∷ []) r1)
last_by body x t r true h i = rw (h, i) (simp append-nil (sym (body_close (body ++ x ∷ []) t r i)))
last_by body x t r false h i = rw (h, i) refl

semi_by : (body : List Stmt) (x : Stmt) (t : Item) (r : List Item) (b : Bool) → is Semicolon t.class ≡ b
    → and_then (read reads behind_simple (t ∷ r)) (λ ys r1. Done ((body ++ x ∷ []) ++ ys) r1) ≡ and_then (ended x (t ∷ r)) (λ y r1. body_on (body ++ y ∷ []) r1)
unfolding body_on
semi_by body x t r true h = rw h (simp and_then_assoc)
semi_by body x t r false h = last_by body x t r (is CloseBrace t.class) h refl

semi_is : (body : List Stmt) (x : Stmt) (r : List Item)
    → and_then (read reads behind_simple r) (λ ys r1. Done ((body ++ x ∷ []) ++ ys) r1) ≡ and_then (ended x r) (λ y r1. body_on (body ++ y ∷ []) r1)
semi_is body x [] = refl
semi_is body x (t ∷ r) = semi_by body x t r (is Semicolon t.class) refl

-- a list that begins with one more
pushed : (body : List Stmt) (x : Stmt) (o : Out (List Stmt)) → and_then (and_then o (λ ys r. Done (x ∷ ys) r)) (λ ys r. Done (body ++ ys) r) ≡ and_then o (λ ys r. Done ((body ++ x ∷ []) ++ ys) r)
pushed body x (Done ys r) = ap (λ z. Done z r) (sym (append_assoc body (x ∷ []) ys))
pushed body x (Refused r) = refl
pushed body x Unfinished = refl

body_simple : (body : List Stmt) (ts : List Item)
    → and_then (and_then (reads Simple ts) (λ x r. and_then (read reads behind_simple r) (λ ys r1. Done (x ∷ ys) r1))) (λ ys r. Done (body ++ ys) r)
    ≡ and_then (ended_by ts) (λ x r. body_on (body ++ x ∷ []) r)
body_simple body ts =
    and_then_assoc (reads Simple ts) _ _ ∙ and_then_same (reads Simple ts) _ _ (λ x r. pushed body x (read reads behind_simple r) ∙ semi_is body x r)
    ∙ sym (and_then_assoc (reads Simple ts) ended (λ x r. body_on (body ++ x ∷ []) r))

body_control : (body : List Stmt) (ts : List Item)
    → and_then (and_then (reads Control ts) (λ x r. and_then (reads Body r) (λ ys r1. Done (x ∷ ys) r1))) (λ ys r. Done (body ++ ys) r)
    ≡ and_then (reads Control ts) (λ x r. body_on (body ++ x ∷ []) r)
unfolding body_on
body_control body ts = and_then_assoc (reads Control ts) _ _ ∙ and_then_same (reads Control ts) _ _ (λ x r. pushed body x (reads Body r))

body_by : (body : List Stmt) (t : Item) (r : List Item) (b d : Bool) → is CloseBrace t.class ≡ b → is_control t.class ≡ d → body_on body (t ∷ r) ≡ body_turn body (t ∷ r)
unfolding body_on
body_by body t r true d h i = body_close body t r h ∙ sym (rw h refl)
body_by body t r false true h i = rw (reads_is Body (t ∷ r)) (rw (h, i) (body_control body (t ∷ r)))
body_by body t r false false h i = rw (reads_is Body (t ∷ r)) (rw (h, i) (body_simple body (t ∷ r)))

body_end : (body : List Stmt) → body_on body [] ≡ body_turn body []
unfolding body_on
body_end body = rw (reads_is Body []) (body_simple body [])

pub body_turns : (body : List Stmt) (ts : List Item) → body_on body ts ≡ body_turn body ts
body_turns body [] = body_end body
body_turns body (t ∷ r) = body_by body t r (is CloseBrace t.class) (is_control t.class) refl refl

pub body_start : (ts : List Item) → reads Body ts ≡ body_on [] ts
unfolding body_on
body_start ts = start_of (reads Body ts)
  where
    start_of : (o : Out (List Stmt)) → o ≡ and_then o (λ ys r. Done ([] ++ ys) r)
    start_of (Done ys r) = refl
    start_of (Refused r) = refl
    start_of Unfinished = refl
