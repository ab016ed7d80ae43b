-- Loops, blocks and arms on their way.
use Rattle.std.proofs.Common.{◌≡◌, ℕ, zero, suc, ◌+◌, ◌-◌, ◌<◌, ◌≤◌, List, ◌∷◌, length, drop, map, Some, None, Bool, true, false, refl, sym, ap, ◌∙◌, arith, ℤ, Result, Ok, Err}
use Rattle.std.proofs.lemmas.List.{drop_more, drop_all}
use Rattle.std.specs.Prelude.{get_or}
use Rattle.bt_core.specs.declared.step.Step.{Step}
use Rattle.bt_core.specs.declared.memory.Memory.{Memory}
use Rattle.bt_core.specs.Interaction.{Interaction, Whole, Part, Left}
use Rattle.bt_core.proofs.InteractionLaws.{Left-here, Left-Whole, Left-Part, Left-is}
use Rattle.typed_tree.specs.declared.expr.NumExpr.{NumExpr}
use Rattle.typed_tree.specs.declared.stmt.TypedBlock.{TypedBlock}
use Rattle.typed_tree.specs.declared.stmt.TypedStmt.{TypedStmt}
use Rattle.walk_meaning.specs.declared.flow.Flow.{Flow}
use Rattle.walk_meaning.specs.declared.flow.Flow.TheVariants.{Next, Break, Continue, Stop}
use Rattle.walk_meaning.specs.declared.flow.Frame.{Frame}
use Rattle.walk_meaning.specs.Does.{BodyScene, Does, given, bind, choose, if_holds}
use Rattle.map_ops.specs.Values.{holds}
use Rattle.walk_meaning.specs.Exprs.{number_does}
use Rattle.bt_walk.specs.Flows.{is_next, leaves}
use Rattle.walk_meaning.specs.Stmts.{stmt_does, block_does, if_next, in_sequence, first_arm, again, turn, turns, tests, while_true}
use Rattle.bt_walk.specs.Walked.{Walked}
use Rattle.bt_walk.proofs.Binds.{Part-first, Given-done, Looked-done, Left-next}
use Rattle.walk_meaning.proofs.StmtDoes.{arm_of}

-- the rest of what is left was performed as far as it went
pub Left-Walked : {A : Type 0} (whole : Does A) (scene : BodyScene) (start : Frame) (d : Does A) (frame after : Frame) (old mid new : List Step) (r : Result A Memory) → Left (whole scene start) old mid (d scene frame) →
    Walked d scene frame mid new r after → Walked whole scene start old new r after
Left-Walked whole scene start d frame after old mid new (Ok a) p q = Left-Whole _ _ _ _ _ _ p q
Left-Walked whole scene start d frame after old mid new (Err x) p q = Left-Part _ _ _ _ _ p q

goes_on : (flow : Flow) (rest : Does Flow) → is_next flow ≡ true → if_next flow rest ≡ rest
goes_on Next rest e = refl
goes_on Break rest e = cc
goes_on Continue rest e = cc
goes_on (Stop x) rest e = cc

goes_no : (flow : Flow) (rest : Does Flow) → is_next flow ≡ false → if_next flow rest ≡ given flow
goes_no Next rest e = cc
goes_no Break rest e = refl
goes_no Continue rest e = refl
goes_no (Stop x) rest e = refl

turns_on : (flow : Flow) (rest : Does Flow) → leaves flow ≡ None → again flow rest ≡ rest
turns_on Next rest e = refl
turns_on Break rest e = cc
turns_on Continue rest e = refl
turns_on (Stop x) rest e = cc

turns_no : (flow left : Flow) (rest : Does Flow) → leaves flow ≡ Some left → again flow rest ≡ given left
turns_no Next left rest e = cc
turns_no Break left rest e = ap given (Some_is Next left e)
  where
    Some_is : (a b : Flow) → Some a ≡ Some b → a ≡ b
    Some_is a b e = cc
turns_no Continue left rest e = cc
turns_no (Stop x) left rest e = ap given (Some_is (Stop x) left e)
  where
    Some_is : (a b : Flow) → Some a ≡ Some b → a ≡ b
    Some_is a b e = cc

pub done_with : (whole : Interaction (Flow × Frame)) (d : Does Flow) (flow : Flow) (scene : BodyScene) (frame : Frame) (old now : List Step) → d ≡ given flow → Left whole old now (d scene frame) → Whole whole old now (flow, frame)
done_with whole d flow scene frame old now e p = Left-Whole _ _ _ _ _ _ (Left-is _ _ _ _ _ p (ap (λ (x : Does Flow). x scene frame) e)) (Given-done _ _ _ _ _ _ refl refl)

-- ---- blocks

module _ (whole : Interaction (Flow × Frame)) (ss : List TypedStmt) (n : ℕ) (s : TypedStmt) (scene : BodyScene) (frame : Frame) (old mid new : List Step) (h : n < length ss) (i : s ≡ get_or ss n s)
    (p : Left whole old mid (in_sequence (map stmt_does (drop n ss)) scene frame)) where
  block_now : Left whole old mid (bind (stmt_does s) (λ flow. if_next flow (in_sequence (map stmt_does (drop (n + 1) ss)))) scene frame)
  block_now = let d : drop n ss ≡ s ∷ drop (n + 1) ss = drop_more ss n s h ∙ ap (λ y. y ∷ drop (n + 1) ss) (sym i) in
      Left-is _ _ _ _ _ p (ap (λ (l : List TypedStmt). in_sequence (map stmt_does l) scene frame) d)

  pub block-stop : Part (stmt_does s scene frame) mid new → Part whole old new
  block-stop q = Left-Part _ _ _ _ _ block_now (Part-first _ _ _ _ _ _ q)

  module _ (flow : Flow) (after : Frame) (q : Whole (stmt_does s scene frame) mid new (flow, after)) where
    block_then : Left whole old new (if_next flow (in_sequence (map stmt_does (drop (n + 1) ss))) scene after)
    block_then = Left-next _ _ _ _ _ _ _ _ _ _ block_now q

    pub block-next : is_next flow ≡ true → Left whole old new (in_sequence (map stmt_does (drop (n + 1) ss)) scene after)
    block-next e = Left-is _ _ _ _ _ block_then (ap (λ (d : Does Flow). d scene after) (goes_on flow (in_sequence (map stmt_does (drop (n + 1) ss))) e))

    pub block-leaves : is_next flow ≡ false → Whole whole old new (flow, after)
    block-leaves e = done_with _ _ _ _ _ _ _ (goes_no flow (in_sequence (map stmt_does (drop (n + 1) ss))) e) block_then

pub block-end : (whole : Interaction (Flow × Frame)) (ss : List TypedStmt) (n : ℕ) (scene : BodyScene) (frame : Frame) (old now : List Step) → length ss ≤ n → Left whole old now (in_sequence (map stmt_does (drop n ss)) scene frame) → Whole whole old now (Next, frame)
block-end whole ss n scene frame old now h p = done_with _ _ _ _ _ _ _ (ap (λ (l : List TypedStmt). in_sequence (map stmt_does l)) (drop_all n ss h)) p

-- ---- arms

module _ (whole : Interaction (Flow × Frame)) (arms : List (NumExpr × TypedBlock)) (n : ℕ) (arm : NumExpr × TypedBlock) (otherwise : Does Flow) (scene : BodyScene) (frame : Frame) (old mid new : List Step)
    (h : n < length arms) (i : arm ≡ get_or arms n arm) (p : Left whole old mid (first_arm (map arm_of (drop n arms)) otherwise scene frame)) where
  arm_now : Left whole old mid (if_holds (number_does arm.0) (block_does arm.1) (first_arm (map arm_of (drop (n + 1) arms)) otherwise) scene frame)
  arm_now = let d : drop n arms ≡ arm ∷ drop (n + 1) arms = drop_more arms n arm h ∙ ap (λ y. y ∷ drop (n + 1) arms) (sym i) in
      Left-is _ _ _ _ _ p (ap (λ (l : List (NumExpr × TypedBlock)). first_arm (map arm_of l) otherwise scene frame) d)

  pub arm-stop : Part (number_does arm.0 scene frame) mid new → Part whole old new
  arm-stop q = Left-Part _ _ _ _ _ arm_now (Part-first _ _ _ _ _ _ q)

  module _ (test : ℤ) (after : Frame) (q : Whole (number_does arm.0 scene frame) mid new (test, after)) where
    arm_then : Left whole old new (choose (holds test) (block_does arm.1) (first_arm (map arm_of (drop (n + 1) arms)) otherwise) scene after)
    arm_then = Left-next _ _ _ _ _ _ _ _ _ _ arm_now q

    pub arm-yes : holds test ≡ true → Left whole old new (block_does arm.1 scene after)
    unfolding choose
    arm-yes e = Left-is _ _ _ _ _ arm_then (ap (λ (b : Bool). choose b (block_does arm.1) (first_arm (map arm_of (drop (n + 1) arms)) otherwise) scene after) e)

    pub arm-no : holds test ≡ false → Left whole old new (first_arm (map arm_of (drop (n + 1) arms)) otherwise scene after)
    unfolding choose
    arm-no e = Left-is _ _ _ _ _ arm_then (ap (λ (b : Bool). choose b (block_does arm.1) (first_arm (map arm_of (drop (n + 1) arms)) otherwise) scene after) e)

pub arms-end : (whole : Interaction (Flow × Frame)) (arms : List (NumExpr × TypedBlock)) (n : ℕ) (otherwise : Does Flow) (scene : BodyScene) (frame : Frame) (old now : List Step) → length arms ≤ n →
    Left whole old now (first_arm (map arm_of (drop n arms)) otherwise scene frame) → Left whole old now (otherwise scene frame)
arms-end whole arms n otherwise scene frame old now h p = Left-is _ _ _ _ _ p (ap (λ (l : List (NumExpr × TypedBlock)). first_arm (map arm_of l) otherwise scene frame) (drop_all n arms h))

-- ---- loops of so many turns

module _ (whole : Interaction (Flow × Frame)) (line count made : ℕ) (block : Does Flow) (scene : BodyScene) (frame : Frame) (old mid new : List Step) (h : made < count)
    (p : Left whole old mid (turns (count - made) line block scene frame)) where
  turns_now : Left whole old mid (bind (turn line block) (λ flow. again flow (turns (count - (made + 1)) line block)) scene frame)
  turns_now = let e : count - made ≡ suc (count - (made + 1)) = omega (arith, h) in Left-is _ _ _ _ _ p (ap (λ (k : ℕ). turns k line block scene frame) e)

  pub turns-stop : Part (turn line block scene frame) mid new → Part whole old new
  turns-stop q = Left-Part _ _ _ _ _ turns_now (Part-first _ _ _ _ _ _ q)

  module _ (flow : Flow) (after : Frame) (q : Whole (turn line block scene frame) mid new (flow, after)) where
    turns_then : Left whole old new (again flow (turns (count - (made + 1)) line block) scene after)
    turns_then = Left-next _ _ _ _ _ _ _ _ _ _ turns_now q

    pub turns-next : leaves flow ≡ None → Left whole old new (turns (count - (made + 1)) line block scene after)
    turns-next e = Left-is _ _ _ _ _ turns_then (ap (λ (d : Does Flow). d scene after) (turns_on flow (turns (count - (made + 1)) line block) e))

    pub turns-leaves : (left : Flow) → leaves flow ≡ Some left → Whole whole old new (left, after)
    turns-leaves left e = done_with _ _ _ _ _ _ _ (turns_no flow left (turns (count - (made + 1)) line block) e) turns_then

pub turns-start : (line count : ℕ) (block : Does Flow) (scene : BodyScene) (frame : Frame) (old : List Step) → Left (turns count line block scene frame) old old (turns (count - 0) line block scene frame)
turns-start line count block scene frame old = Left-is _ _ _ _ _ (Left-here _ _) (let e : count ≡ count - 0 = omega arith in ap (λ (k : ℕ). turns k line block scene frame) e)

pub turns-end : (whole : Interaction (Flow × Frame)) (line count made : ℕ) (block : Does Flow) (scene : BodyScene) (frame : Frame) (old now : List Step) → count ≤ made → Left whole old now (turns (count - made) line block scene frame) → Whole whole old now (Next, frame)
turns-end whole line count made block scene frame old now h p = done_with _ _ _ _ _ _ _ (let e : count - made ≡ 0 = omega (arith, h) in ap (λ (k : ℕ). turns k line block) e) p

-- ---- loops with a test: as many tests as there are turns left, and one more

pub record Looping (whole : Interaction (Flow × Frame)) (old now : List Step) (line : ℕ) (test : Does ℤ) (block : Does Flow) (scene : BodyScene) (frame : Frame) : Type 0 where
  pub fuel : ℕ
  pub enough : frame.turns ≤ fuel
  pub left : Left whole old now (tests (suc fuel) line test block scene frame)

pub while-starts : (line : ℕ) (test : Does ℤ) (block : Does Flow) (scene : BodyScene) (frame : Frame) (old : List Step) → Looping (while_true line test block scene frame) old old line test block scene frame
while-starts line test block scene frame old = record { fuel = frame.turns; enough = omega arith; left = Left-next _ _ _ _ _ _ _ _ _ _ (Left-here _ _) (Looked-done _ _ _ _ _ refl) }

module _ (whole : Interaction (Flow × Frame)) (line : ℕ) (test : Does ℤ) (block : Does Flow) (scene : BodyScene) (frame : Frame) (old mid : List Step) (l : Looping whole old mid line test block scene frame) where
  pub while-stop : (new : List Step) → Part (test scene frame) mid new → Part whole old new
  while-stop new q = Left-Part _ _ _ _ _ l.left (Part-first _ _ _ _ _ _ q)

  module _ (mid1 : List Step) (n : ℤ) (tested : Frame) (q : Whole (test scene frame) mid mid1 (n, tested)) where
    while_test : Left whole old mid1 (choose (holds n) (bind (turn line block) (λ flow. again flow (tests l.fuel line test block))) (given Next) scene tested)
    while_test = Left-next _ _ _ _ _ _ _ _ _ _ l.left q

    pub while-ends : holds n ≡ false → Whole whole old mid1 (Next, tested)
    unfolding choose
    while-ends e = done_with _ _ _ _ _ _ _ (ap (λ (b : Bool). choose b (bind (turn line block) (λ flow. again flow (tests l.fuel line test block))) (given Next)) e) while_test

    while_now : holds n ≡ true → Left whole old mid1 (bind (turn line block) (λ flow. again flow (tests l.fuel line test block)) scene tested)
    unfolding choose
    while_now e = Left-is _ _ _ _ _ while_test (ap (λ (b : Bool). choose b (bind (turn line block) (λ flow. again flow (tests l.fuel line test block))) (given Next) scene tested) e)

    pub while-breaks : (new : List Step) → holds n ≡ true → Part (turn line block scene tested) mid1 new → Part whole old new
    while-breaks new e r = Left-Part _ _ _ _ _ (while_now e) (Part-first _ _ _ _ _ _ r)

    module _ (new : List Step) (flow : Flow) (after : Frame) (e : holds n ≡ true) (r : Whole (turn line block scene tested) mid1 new (flow, after)) where
      while_turned : Left whole old new (again flow (tests l.fuel line test block) scene after)
      while_turned = Left-next _ _ _ _ _ _ _ _ _ _ (while_now e) r

      pub while-leaves : (left : Flow) → leaves flow ≡ Some left → Whole whole old new (left, after)
      while-leaves left h = done_with _ _ _ _ _ _ _ (turns_no flow left (tests l.fuel line test block) h) while_turned

      pub while-again : leaves flow ≡ None → tested.turns ≡ frame.turns → after.turns < tested.turns → Looping whole old new line test block scene after
      while-again h same less = more l.fuel refl (omega (arith, l.enough, same, less))
        where
          more : (m : ℕ) → m ≡ l.fuel → after.turns < m → Looping whole old new line test block scene after
          more zero i b = absurd (omega (arith, b))
          more (suc m) i b = record {
            fuel = m;
            enough = omega (arith, b);
            left = Left-is _ _ _ _ _ while_turned (ap (λ (d : Does Flow). d scene after) (turns_on flow (tests l.fuel line test block) h) ∙ ap (λ (k : ℕ). tests k line test block scene after) (sym i));
          }
