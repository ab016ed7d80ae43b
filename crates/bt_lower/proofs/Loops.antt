-- Lowering of loops: what their blocks do.
use Rattle.std.proofs.Common.{◌≡◌, ℕ, zero, suc, ◌+◌, ◌*◌, ◌<◌, ◌≤◌, List, [], ◌∷◌, length, refl, sym, ap, ◌∙◌, subst, arith, Bool, true, Some, length-append}
use Rattle.std.specs.Prelude.{ℤ, cond, slice_get, slice_set}
use Rattle.bt_core.specs.declared.ending.Ending.{Ending}
use Rattle.bt_core.specs.declared.ending.Ending.TheVariants.{Cut as AtCut}
use Rattle.bt_core.specs.declared.map.Shape.TheVariants as shapes
use Rattle.bt_core.specs.declared.value.Value.{Value}
use Rattle.bt_core.specs.Interaction.{Interaction, Ended, and_then}
use Rattle.typed_tree.specs.Parts.{TreePart}
use Rattle.typed_tree.specs.Scope.{all_fit}
use Rattle.walk_meaning.specs.declared.flow.Flow.{Flow}
use Rattle.walk_meaning.specs.declared.flow.Flow.TheVariants.{Next, Stop}
use Rattle.walk_meaning.specs.declared.flow.Frame.{Frame}
use Rattle.walk_meaning.specs.Does.{Does, given, bind}
use Rattle.map_ops.specs.Values.{holds, number_of}
use Rattle.walk_meaning.specs.Does.{BodyScene}
use Rattle.walk_meaning.specs.Exprs.{number_value}
use Rattle.walk_meaning.specs.Stmts.{turn, again, tests}
use Rattle.ir_code.specs.declared.blocks.Block.{Block}
use Rattle.ir_code.specs.declared.blocks.Exit.TheVariants.{Branch, End}
use Rattle.ir_code.specs.declared.instr.Instr.TheVariants as i
use Rattle.ir_code.specs.Figures.{sizes_of, instrs_slots, exit_slots, blocks_slots}
use Rattle.ir_code.specs.Stacks.{top}
use Rattle.bt_lower.specs.declared.code.Code.{Code}
use Rattle.bt_lower.specs.Code.{pushed, begun, closed, open_block, reserved, placeholder, gated, turn_end, with_cut}
use Rattle.bt_lower.specs.Lowers.{Stand, Grew, Reaches, state, seen_by, LowersValue, LowersBlock}
use Rattle.bt_lower.specs.Needs.{Need}
use Rattle.bt_lower.specs.Sound.{Footing, Site, HasRoom, Sound, SoundBlock, Back}
use Rattle.bt_lower.proofs.Blocks.{Grew-trans, Grew-one, Grew-length, Stand-later, Stand-before, Runs-is, Reaches-close, Reaches-is, Reaches-more, closed-length}
use Rattle.bt_lower.proofs.Ifs.{test-is, branches}
use Rattle.bt_lower.proofs.Patches.{Stand-set, Stand-under, here-set}
use Rattle.bt_lower.proofs.Stmts.{fuel-depth}
use Rattle.bt_lower.proofs.Turns.{Reaches-cut, Reaches-again, Runs-gate, turn_reaches}

-- the blocks of a loop up to its gate: `c` is what follows the loop, `d` is the code that is made behind the gate, up to the loop's head
module _ (ps : Bool → List TreePart) (body : Does Flow) (n : Need) (line block head : ℕ) (c c4 d : Code)
    (lb : LowersBlock ps body n (length (with_cut line (closed c)).blocks) (record { leave = length c.blocks; again = length (with_cut line (closed c)).blocks }) (reserved (with_cut line (closed c))) c4 block)
    (grown : Grew (closed (gated block (length (closed c).blocks) c4)).blocks d.blocks) where
  c1 : Code
  c1 = closed c

  abbrev pub loop_end : ℕ
  loop_end = length (with_cut line (closed c)).blocks

  abbrev pub gate_code : Code
  gate_code = gated block (length (closed c).blocks) c4

  len1 : length (closed c).blocks ≡ length c.blocks + 1
  len1 = closed-length c

  len2 : length (with_cut line (closed c)).blocks ≡ length c.blocks + 2
  len2 = omega (arith, closed-length (pushed (i.Cut line) (begun (End AtCut) [] (closed c))), len1)

  len3 : length (reserved (with_cut line (closed c))).blocks ≡ length c.blocks + 3
  len3 = omega (arith, length-append (with_cut line (closed c)).blocks (placeholder (with_cut line (closed c)) ∷ []), len2)

  len4 : length (reserved (with_cut line (closed c))).blocks ≤ length c4.blocks
  len4 = Grew-length _ _ lb.grew

  len6 : length (closed gate_code).blocks ≡ length c4.blocks + 1
  len6 = closed-length gate_code

  len9 : length (closed gate_code).blocks ≤ length d.blocks
  len9 = Grew-length _ _ grown

  g49 : Grew c4.blocks d.blocks
  g49 = Grew-trans _ _ _ (Grew-one c4.blocks (open_block gate_code)) grown

  g29 : Grew (with_cut line (closed c)).blocks d.blocks
  g29 = Grew-trans _ _ _ (Grew-one (with_cut line (closed c)).blocks (placeholder (with_cut line (closed c)))) (Grew-trans _ _ _ lb.grew g49)

  g19 : Grew (closed c).blocks d.blocks
  g19 = Grew-trans _ _ _ (Grew-one (closed c).blocks (open_block (pushed (i.Cut line) (begun (End AtCut) [] (closed c))))) g29

  pub g09 : Grew c.blocks d.blocks
  g09 = Grew-trans _ _ _ (Grew-one c.blocks (open_block c)) g19

  module _ (bs : List Block) (stand : Stand (length c.blocks) (slice_set d.blocks loop_end (turn_end head d)) bs) where
    pub over : Stand (length (reserved (with_cut line (closed c))).blocks) d.blocks bs
    over = Stand-set (length c.blocks) _ loop_end d.blocks bs (turn_end head d) (omega (arith, len3)) (omega (arith, len2, len3)) stand

    pub stands1 : Stand (length c.blocks) (closed c).blocks bs
    stands1 = Stand-under (length c.blocks) loop_end (closed c).blocks d.blocks bs (turn_end head d) g19 (omega (arith, len1, len2)) stand

    pub stands2 : Stand (length (closed c).blocks) (with_cut line (closed c)).blocks bs
    stands2 = Stand-later _ _ _ _ (omega (arith, len1)) (Stand-under (length c.blocks) loop_end (with_cut line (closed c)).blocks d.blocks bs (turn_end head d) g29 (omega arith) stand)

    pub stands4 : Stand (length (reserved (with_cut line (closed c))).blocks) c4.blocks bs
    stands4 = Stand-before _ _ _ _ g49 over

    pub stands6 : Stand (length c4.blocks) (closed gate_code).blocks bs
    stands6 = Stand-later _ _ _ _ len4 (Stand-before _ _ _ _ grown over)

    pub here : slice_get bs loop_end ≡ Some (turn_end head d)
    here = here-set (length c.blocks) loop_end d.blocks bs (turn_end head d) (omega (arith, len2)) (omega (arith, len2, len3, len4, len6, len9)) stand

    module _ (most : ℕ) (wide : length d.blocks ≤ most) (t : Site) (inside : Bool) (fit : all_fit t.scope (ps inside) ≡ true) (w : BodyScene) (same : w.maps ≡ t.scope.maps) (values : List Value) (k : (Flow × Frame) → Interaction Ending) (stops : (e : Ending) (st : Frame) → k (Stop e, st) ≡ Ended e) where
      -- a turn, and what follows it
      pub loop_turn : (rest : Does Flow) (st : Frame) →
          ((x : Frame) → x.turns < st.turns → Reaches bs head ((x.turns + c.depth) * most + length d.blocks) (seen_by t.ground.maps w) (state x values) (and_then (rest w x) k)) →
          ((x : Frame) → x.turns < st.turns → Reaches bs (length c.blocks) ((x.turns + c.depth) * most + length c.blocks + 1) (seen_by t.ground.maps w) (state x values) (k (Next, x))) →
          Reaches bs (length c4.blocks) ((st.turns + c.depth) * most + length (closed gate_code).blocks) (seen_by t.ground.maps w) (state st values) (and_then (bind (turn line body) (λ flow. again flow rest) w st) k)
      loop_turn rest st goes leaves =
          turn_reaches bs most line c.depth (length c.blocks) (length c.blocks) (length (closed c).blocks) loop_end head block (length c4.blocks)
          (length (reserved (with_cut line (closed c))).blocks) (length c4.blocks) (length (closed gate_code).blocks) (length d.blocks) body (seen_by t.ground.maps w) w values k
          wide (omega (arith, len3)) len6 (omega (arith, len3, len4)) (omega (arith, len3, len4, len6, len9)) stops
          (λ x. Reaches-cut bs line (closed c) 0 (seen_by t.ground.maps w) w x values k stands2 (stops AtCut x))
          (λ x m u r. Reaches-again bs loop_end head (d.depth + 1) m d.stack (seen_by t.ground.maps w) (state x values) u here r)
          (λ x k2 kn kl ka ks. Reaches-more bs _ _ _ (seen_by t.ground.maps w) _ _ (omega (arith, fuel-depth most x.turns (reserved (with_cut line (closed c))) c4 lb.depth))
          (lb.does bs stands4 most (omega (arith, len6, len9, wide)) t inside fit w same x values k2 kn kl ka ks))
          (λ m x k2 p q. Reaches-close bs gate_code m (seen_by t.ground.maps w) (state x values) _ stands6 (Runs-gate bs c4 line block (length (closed c).blocks) m x.turns body (seen_by t.ground.maps w) w x values k2 refl p q))
          rest st goes leaves

-- ---- `while`: the test stands at the head

module _ (ps : Bool → List TreePart) (body : Does Flow) (n : Need) (line block : ℕ) (pt : List TreePart) (tst : Does ℤ) (nt : Need) (c c4 c8 : Code)
    (lb : LowersBlock ps body n (length (with_cut line (closed c)).blocks) (record { leave = length c.blocks; again = length (with_cut line (closed c)).blocks }) (reserved (with_cut line (closed c))) c4 block)
    (lt : LowersValue pt (number_value tst) shapes.Int nt (begun (Branch (length c4.blocks) (length c.blocks)) (shapes.Int ∷ []) (closed (gated block (length (closed c).blocks) c4))) c8) where
  abbrev d9 : Code
  d9 = closed c8

  abbrev gate6 : Code
  gate6 = closed (gated block (length (closed c).blocks) c4)

  grown9 : Grew gate6.blocks (closed c8).blocks
  grown9 = Grew-trans _ _ _ lt.grew (Grew-one c8.blocks (open_block c8))

  abbrev at_end : ℕ
  at_end = length (with_cut line (closed c)).blocks

  deep4 : c4.depth ≡ c.depth + 1
  deep4 = lb.depth

  deep8 : c8.depth ≡ c.depth
  deep8 = omega (arith, lt.depth, deep4)

  module _ (bs : List Block) (stand : Stand (length c.blocks) (slice_set (closed c8).blocks at_end (turn_end (length c8.blocks) (closed c8))) bs) where
    st_over : Stand (length (reserved (with_cut line (closed c))).blocks) (closed c8).blocks bs
    st_over = over ps body n line block (length c8.blocks) c c4 (closed c8) lb grown9 bs stand

    len36 : length (reserved (with_cut line (closed c))).blocks ≤ length gate6.blocks
    len36 = omega (arith, Grew-length _ _ lb.grew, closed-length (gated block (length (closed c).blocks) c4))

    st8 : Stand (length gate6.blocks) c8.blocks bs
    st8 = Stand-later _ _ _ _ len36 (Stand-before _ _ _ _ (Grew-one c8.blocks (open_block c8)) st_over)

    st9 : Stand (length c8.blocks) (closed c8).blocks bs
    st9 = Stand-later _ _ _ _ (omega (arith, len36, Grew-length _ _ lt.grew)) st_over

    module _ (most : ℕ) (wide : length (closed c8).blocks ≤ most) (t : Site) (inside : Bool) (fit : all_fit t.scope (ps inside) ≡ true) (w : BodyScene) (same : w.maps ≡ t.scope.maps) (values : List Value) (k : (Flow × Frame) → Interaction Ending) (stops : (e : Ending) (st : Frame) → k (Stop e, st) ≡ Ended e)
        (turns_at : ℕ) (left_does : (st : Frame) → st.turns ≤ turns_at → Reaches bs (length c.blocks) ((st.turns + c.depth) * most + length c.blocks + 1) (seen_by t.ground.maps w) (state st values) (k (Next, st))) where
      next-is : (st : Frame) → k (Next, st) ≡ and_then (given Next w st) k
      unfolding given
      next-is st = refl

      pub tests_reach : (m : ℕ) (st : Frame) → st.turns < m → st.turns ≤ turns_at → Reaches bs (length c8.blocks) ((st.turns + c.depth) * most + length (closed c8).blocks) (seen_by t.ground.maps w) (state st values) (and_then (tests m line tst body w st) k)
      tests_reach zero st lt' le = absurd (omega arith)
      tests_reach (suc m) st lt' le =
          Reaches-more bs _ _ _ (seen_by t.ground.maps w) _ _ (omega (arith, closed-length c8))
          (Reaches-close bs c8 ((st.turns + c.depth) * most + length c8.blocks) (seen_by t.ground.maps w) (state st values) _ st9
          (Runs-is bs c8 _ (seen_by t.ground.maps w) _ _ _ (sym (test-is tst (bind (turn line body) (λ flow. again flow (tests m line tst body))) (given Next) w st k))
          (lt.does bs st8 ((st.turns + c.depth) * most) t.ground.maps w st values (λ q. cond (holds (number_of (top q.0))) (and_then (bind (turn line body) (λ flow. again flow (tests m line tst body)) w q.1) k) (and_then (given Next w q.1) k))
          (λ q long turns. branches bs gate6 (length c4.blocks) (length c.blocks) _ (seen_by t.ground.maps w) values q long (λ q1. and_then (bind (turn line body) (λ flow. again flow (tests m line tst body)) w q1) k) (λ q1. and_then (given Next w q1) k)
          (Reaches-more bs _ _ _ (seen_by t.ground.maps w) _ _ (omega (arith, ap (λ (x : ℕ). (x + c.depth) * most) turns))
          (loop_turn ps body n line block (length c8.blocks) c c4 (closed c8) lb grown9 bs stand most wide t inside fit w same values k stops (tests m line tst body) q.1
          (λ x h. tests_reach m x (omega (arith, h, turns, lt')) (omega (arith, h, turns, le)))
          (λ x h. left_does x (omega (arith, h, turns, le)))))
          (Reaches-is bs _ _ (seen_by t.ground.maps w) _ _ _ (next-is q.1)
          (Reaches-more bs _ _ _ (seen_by t.ground.maps w) _ _ (omega (arith, ap (λ (x : ℕ). (x + c.depth) * most) turns, len36, closed-length c, Grew-length _ _ (g09 ps body n line block (length c8.blocks) c c4 (closed c8) lb grown9), under6))
          (left_does q.1 (omega (arith, turns, le)))))))))
        where
          under6 : length c.blocks + 1 ≤ length gate6.blocks
          under6 = omega (arith, len36, length-append (with_cut line (closed c)).blocks (placeholder (with_cut line (closed c)) ∷ []), closed-length (pushed (i.Cut line) (begun (End AtCut) [] (closed c))), closed-length c)

pub some-below : {A : Type 0} (xs : List A) (b : ℕ) (x : A) → slice_get xs b ≡ Some x → b < length xs
some-below [] b x e = cc
some-below (y ∷ ys) zero x e = omega arith
some-below (y ∷ ys) (suc b) x e = let h : b < length ys = some-below ys b x e in omega arith

pub set-slots : (xs : List Block) (a : ℕ) (v u : Block) → slice_get xs a ≡ Some u → instrs_slots u.instrs ≡ 0 → instrs_slots v.instrs ≡ 0 → exit_slots u.exit ≡ 1 → exit_slots v.exit ≡ 1 → blocks_slots (slice_set xs a v) ≡ blocks_slots xs
set-slots [] a v u e p q r s = refl
set-slots (x ∷ xs) zero v u e p q r s =
    let is : x ≡ u = cc in
    let a : instrs_slots x.instrs ≡ 0 = ap (λ (y : Block). instrs_slots y.instrs) is ∙ p in
    let b : exit_slots x.exit ≡ 1 = ap (λ (y : Block). exit_slots y.exit) is ∙ r in
    omega (arith, a, b, q, s)
set-slots (x ∷ xs) (suc a) v u e p q r s = omega (arith, set-slots xs a v u e p q r s)

-- the block that ends a turn is sound where it stands
pub Sound-end : (g : Footing) (bs : List Block) (a head : ℕ) (d : Code) → slice_get bs a ≡ Some (turn_end head d) → HasRoom g (sizes_of d.stack) → Back bs (d.depth + 1) d.stack head → Sound g bs a (a + 1)
Sound-end g bs a head d e room back = record { each = each }
  where
    each : (n : ℕ) → a ≤ n → n < a + 1 → (b : Block) → slice_get bs n ≡ Some b → SoundBlock g bs n b
    each n h l b f =
        let same : n ≡ a = omega arith in
        let is : turn_end head d ≡ b = cc (sym e ∙ ap (λ (m : ℕ). slice_get bs m) (sym same) ∙ f) in
        subst (λ (x : Block). SoundBlock g bs n x) is (record { after = d.stack; turns = (refl, room); leads = back })
