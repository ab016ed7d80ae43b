-- Lowering of loops: a turn, and what follows it.
use Rattle.std.proofs.Common.{◌≡◌, ℕ, zero, suc, ◌+◌, ◌-◌, ◌*◌, ◌<◌, ◌≤◌, List, [], length, refl, sym, ap, ◌∙◌, subst, arith, Option, Some}
use Rattle.std.specs.Prelude.{slice_get}
use Rattle.bt_core.specs.declared.ending.Ending.{Ending}
use Rattle.bt_core.specs.declared.ending.Ending.TheVariants.{Cut as AtCut}
use Rattle.bt_core.specs.declared.item.Item.TheVariants as items
use Rattle.bt_core.specs.declared.map.Shape.{Shape}
use Rattle.bt_core.specs.declared.step.ObjectId.TheVariants.{Out}
use Rattle.bt_core.specs.declared.step.Op.TheVariants as ops
use Rattle.bt_core.specs.declared.value.Value.{Value}
use Rattle.bt_core.specs.Interaction.{Interaction, Ended, and_then}
use Rattle.bt_core.proofs.InteractionLaws.{and_then_assoc}
use Rattle.walk_meaning.specs.declared.flow.Flow.{Flow}
use Rattle.walk_meaning.specs.declared.flow.Flow.TheVariants.{Next, Break, Continue, Stop}
use Rattle.walk_meaning.specs.declared.flow.Frame.{Frame}
use Rattle.walk_meaning.specs.Does.{Does, given, looked_at, changed, lifted, bind}
use Rattle.walk_meaning.specs.Does.{BodyScene}
use Rattle.walk_meaning.specs.Stmts.{cut, turn, again}
use Rattle.ir_code.specs.declared.blocks.Block.{Block}
use Rattle.ir_code.specs.declared.blocks.Exit.TheVariants.{Again, End}
use Rattle.ir_code.specs.declared.instr.Instr.TheVariants as i
use Rattle.ir_code.specs.declared.state.State.{State}
use Rattle.map_ops.specs.Asking.{tells}
use Rattle.ir_code.specs.Meaning.{Scene, block_run, run_from}
use Rattle.bt_lower.specs.declared.code.Code.{Code}
use Rattle.bt_lower.specs.Code.{pushed, begun, gated, with_cut}
use Rattle.bt_lower.specs.Lowers.{Stand, Runs, Reaches, state}
use Rattle.bt_lower.proofs.Blocks.{Runs-push, Reaches-close, Reaches-is, Reaches-more}

abbrev pub with_turns : ℕ → Frame → Frame
with_turns left frame = record { variables = frame.variables; turns = left }

-- the block of the cut
pub Reaches-cut : (bs : List Block) (line : ℕ) (c : Code) (n : ℕ) (scene : Scene) (w : BodyScene) (frame : Frame) (values : List Value) (k : (Flow × Frame) → Interaction Ending) → Stand (length c.blocks) (with_cut line c).blocks bs → k (Stop AtCut, frame) ≡ Ended AtCut →
    Reaches bs (length c.blocks) (n + 1) scene (state frame values) (and_then (cut line w frame) k)
unfolding given bind lifted
Reaches-cut bs line c n scene w frame values k stand e =
    Reaches-close bs (pushed (i.Cut line) (begun (End AtCut) [] c)) n scene (state frame values) (and_then (cut line w frame) k) stand
    (Runs-push bs (begun (End AtCut) [] c) (i.Cut line) n scene (state frame values) (tells Out (ops.Emit (items.Cut line))) (λ u. state frame values) (λ u. k (Stop AtCut, frame)) refl
    (λ u. record { by = λ m h. sym e }))

-- the block that ends a turn
pub Reaches-again : (bs : List Block) (a head depth n : ℕ) (stack : List Shape) (scene : Scene) (s : State) (u : Interaction Ending) → slice_get bs a ≡ Some (record { stack = stack; instrs = []; exit = Again head; depth = depth }) → Reaches bs head n scene s u → Reaches bs a (n + 1) scene s u
Reaches-again bs a head depth n stack scene s u e r = record { by = run }
  where
    run : (m : ℕ) → n + 1 ≤ m → run_from bs m scene a s ≡ u
    run zero h = absurd (omega arith)
    run (suc m) h = ap (λ (o : Option Block). block_run (run_from bs m scene) o scene s) e ∙ r.by m (omega arith)

-- nothing but a gate is open
pub Runs-gate : (bs : List Block) (c : Code) (line block at_cut n turns : ℕ) (body : Does Flow) (scene : Scene) (w : BodyScene) (frame : Frame) (values : List Value) (k : (Flow × Frame) → Interaction Ending) → frame.turns ≡ turns →
    (turns ≡ 0 → Reaches bs at_cut n scene (state frame values) (and_then (cut line w frame) k)) →
    ((left : ℕ) → turns ≡ suc left → Reaches bs block n scene (state (with_turns left frame) values) (and_then (body w (with_turns left frame)) k)) →
    Runs bs (gated block at_cut c) n scene (state frame values) (and_then (turn line body w frame) k)
unfolding bind looked_at changed
Runs-gate bs c line block at_cut n zero body scene w frame values k e p q =
    subst (λ (f : Frame). Runs bs (gated block at_cut c) n scene (state f values) (and_then (turn line body w f) k)) same
    (record { by = λ m h. (subst (λ (f : Frame). Reaches bs at_cut n scene (state f values) (and_then (cut line w f) k)) (sym same) (p refl)).by m h })
  where
    same : with_turns 0 frame ≡ frame
    same = ap (λ (t : ℕ). with_turns t frame) (sym e)
Runs-gate bs c line block at_cut n (suc left) body scene w frame values k e p q =
    subst (λ (f : Frame). Runs bs (gated block at_cut c) n scene (state f values) (and_then (turn line body w f) k)) same
    (record { by = λ m h. ap (λ (t : ℕ). run_from bs m scene block (state (with_turns t frame) values)) less ∙ (q left refl).by m h })
  where
    same : with_turns (suc left) frame ≡ frame
    same = ap (λ (t : ℕ). with_turns t frame) (sym e)

    less : suc left - 1 ≡ left
    less = omega arith

deeper : (t d most : ℕ) → (t + (d + 1)) * most ≡ (t + d) * most + most
deeper t d most = let e : t + (d + 1) ≡ suc (t + d) = omega arith in ap (λ (n : ℕ). n * most) e ∙ omega arith

-- a turn and what follows it, from what a loop's blocks do; the values on the stack are those at the loop's block
module _ (bs : List Block) (most line d L leave at_cut a head block gate n3 n4 n6 n9 : ℕ) (body : Does Flow) (scene : Scene) (w : BodyScene) (values : List Value) (k : (Flow × Frame) → Interaction Ending)
    (small : n9 ≤ most) (some : 1 ≤ n3) (next6 : n6 ≡ n4 + 1) (any : 1 ≤ n4) (least : L + 1 ≤ n9)
    (stops : (e : Ending) (st : Frame) → k (Stop e, st) ≡ Ended e)
    (cut_does : (st : Frame) → Reaches bs at_cut 1 scene (state st values) (and_then (cut line w st) k))
    (again_does : (st : Frame) (n : ℕ) (u : Interaction Ending) → Reaches bs head n scene (state st values) u → Reaches bs a (n + 1) scene (state st values) u)
    (block_does : (st : Frame) (k2 : (Flow × Frame) → Interaction Ending)
    → ((x : Frame) → x.turns ≤ st.turns → Reaches bs a ((x.turns + (d + 1)) * most + n3) scene (state x values) (k2 (Next, x)))
    → ((x : Frame) → x.turns ≤ st.turns → Reaches bs leave ((x.turns + (d + 1)) * most + n3) scene (state x values) (k2 (Break, x)))
    → ((x : Frame) → x.turns ≤ st.turns → Reaches bs a ((x.turns + (d + 1)) * most + n3) scene (state x values) (k2 (Continue, x)))
    → ((e : Ending) (x : Frame) → k2 (Stop e, x) ≡ Ended e)
    → Reaches bs block ((st.turns + (d + 1)) * most + n4) scene (state st values) (and_then (body w st) k2))
    (gate_does : (n : ℕ) (st : Frame) (k2 : (Flow × Frame) → Interaction Ending)
    → (st.turns ≡ 0 → Reaches bs at_cut n scene (state st values) (and_then (cut line w st) k2))
    → ((left : ℕ) → st.turns ≡ suc left → Reaches bs block n scene (state (with_turns left st) values) (and_then (body w (with_turns left st)) k2))
    → Reaches bs gate (n + 1) scene (state st values) (and_then (turn line body w st) k2)) where
  pub turn_reaches : (rest : Does Flow) (st : Frame) →
      ((x : Frame) → x.turns < st.turns → Reaches bs head ((x.turns + d) * most + n9) scene (state x values) (and_then (rest w x) k)) →
      ((x : Frame) → x.turns < st.turns → Reaches bs leave ((x.turns + d) * most + L + 1) scene (state x values) (k (Next, x))) →
      Reaches bs gate ((st.turns + d) * most + n6) scene (state st values) (and_then (bind (turn line body) (λ flow. again flow rest) w st) k)
  unfolding bind given lifted
  turn_reaches rest st goes leaves =
      Reaches-is _ _ _ scene _ _ _ (sym (and_then_assoc (turn line body w st) (λ p. again p.0 rest w p.1) k))
      (Reaches-more bs _ _ _ scene _ _ (omega (arith, next6))
      (gate_does ((st.turns + d) * most + n4) st (λ p. and_then (again p.0 rest w p.1) k)
      (λ z. Reaches-is _ _ _ scene _ _ _ cut_same (Reaches-more bs _ _ _ scene _ _ (omega (arith, any)) (cut_does st)))
      (λ left e.
      let same : left + (d + 1) ≡ st.turns + d = omega (arith, e) in
      let on : (x : Frame) → x.turns ≤ left → Reaches bs a ((x.turns + (d + 1)) * most + n3) scene (state x values) (and_then (rest w x) k) =
      λ x h. Reaches-more bs _ _ _ scene _ _ (omega (arith, deeper x.turns d most, small, some)) (again_does x _ _ (goes x (omega (arith, e, h)))) in
      Reaches-more bs _ _ _ scene _ _ (omega (arith, ap (λ (m : ℕ). m * most) same))
      (block_does (with_turns left st) (λ p. and_then (again p.0 rest w p.1) k) on
      (λ x h. Reaches-more bs _ _ _ scene _ _ (omega (arith, deeper x.turns d most, small, some, least)) (leaves x (omega (arith, e, h))))
      on
      (λ e' x. stops e' x)))))
    where
      cut_same : and_then (cut line w st) k ≡ and_then (cut line w st) (λ p. and_then (again p.0 rest w p.1) k)
      cut_same = refl
