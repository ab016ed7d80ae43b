-- Lowering of `while`.
use Rattle.std.proofs.Common.{◌≡◌, ℕ, suc, ◌+◌, ◌-◌, ◌*◌, ◌<◌, ◌≤◌, List, [], ◌∷◌, ◌++◌, length, refl, sym, ap, ◌∙◌, subst, arith, append-nil, Bool, true, Some, length-append, length-set}
use Rattle.std.specs.Prelude.{ℤ, max, slice_get, slice_set}
use Rattle.std.proofs.Math.Nat.{le-max_left, le-max_right}
use Rattle.bt_core.specs.declared.ending.Ending.TheVariants.{Cut as AtCut}
use Rattle.bt_core.specs.declared.map.Shape.{Shape}
use Rattle.bt_core.specs.declared.map.Shape.TheVariants as shapes
use Rattle.typed_tree.specs.Parts.{TreePart}
use Rattle.typed_tree.specs.Scope.{Scope, all_fit}
use Rattle.walk_meaning.specs.declared.flow.Flow.{Flow}
use Rattle.walk_meaning.specs.declared.flow.Flow.TheVariants.{Next}
use Rattle.walk_meaning.specs.Does.{Does, looked_at, bind}
use Rattle.walk_meaning.specs.Exprs.{number_value}
use Rattle.walk_meaning.specs.Stmts.{while_true}
use Rattle.ir_code.specs.declared.blocks.Block.{Block}
use Rattle.ir_code.specs.declared.blocks.Exit.TheVariants.{Branch, End}
use Rattle.ir_code.specs.declared.instr.Instr.TheVariants as i
use Rattle.ir_code.specs.Figures.{sizes_of, blocks_slots}
use Rattle.ir_code.specs.Typing.{stack_in}
use Rattle.ir_code.specs.Ways.{depth_in}
use Rattle.bt_lower.specs.declared.code.Code.{Code}
use Rattle.bt_lower.specs.declared.code.Ways.{Ways}
use Rattle.bt_lower.specs.Code.{pushed, begun, closed, open_block, reserved, placeholder, gated, patched, turn_end, with_cut, code_slots}
use Rattle.bt_lower.specs.Lowers.{Stand, Grew, state, seen_by, fuel, LowersValue, LowersBlock, LowersStmt}
use Rattle.bt_lower.specs.Needs.{Need, more, greater}
use Rattle.bt_lower.specs.Sound.{Footing, HasRoom, Opens, Sound, Target, Back}
use Rattle.bt_lower.proofs.Blocks.{Grew-trans, Grew-one, Grew-length, Stand-later, Stand-before, Reaches-close, closed-length, here-closed, slice_get-append, slice_get-seam}
use Rattle.bt_lower.proofs.Lists.{front-none, sizes-append}
use Rattle.bt_lower.proofs.Loops.{over, stands1, stands2, stands4, stands6, here, g09, tests_reach, some-below, set-slots, Sound-end}
use Rattle.bt_lower.proofs.Opening.{Room-less, none-read, Sound-join, Sound-close, Target-close, Opens-push, Opens-branch}
use Rattle.bt_lower.proofs.Patches.{Grew-set}
use Rattle.bt_lower.proofs.Slots.{slots-pushed, slots-closed, slots-begun, slots-reserved, slots-gated}

-- the stack at a cut, and at what ends a turn
pub cut-stack : (line : ℕ) (c : Code) → (with_cut line c).stack ≡ c.stack
cut-stack line c = append-nil _ ∙ front-none (c.stack ++ []) ∙ append-nil c.stack

pub cut-slots : (line : ℕ) (c : Code) → code_slots (with_cut line c) ≤ code_slots c + 4
cut-slots line c = omega (arith, slots-closed (pushed (i.Cut line) (begun (End AtCut) [] c)), slots-pushed (i.Cut line) (begun (End AtCut) [] c), slots-begun (End AtCut) [] c)

-- the cut is sound
pub cut-sound : (g : Footing) (bs : List Block) (line : ℕ) (c : Code) → HasRoom g (sizes_of c.stack) → Stand (length c.blocks) (with_cut line c).blocks bs → Sound g bs (length c.blocks) (length (with_cut line c).blocks)
cut-sound g bs line c room stand =
    let none : sizes_of (c.stack ++ []) ≡ sizes_of c.stack = ap sizes_of (append-nil c.stack) in
    let none2 : sizes_of ((c.stack ++ []) ++ []) ≡ sizes_of c.stack = ap sizes_of (append-nil (c.stack ++ [])) ∙ none in
    Sound-close g bs (pushed (i.Cut line) (begun (End AtCut) [] c)) stand
    (Opens-push g bs (begun (End AtCut) [] c) (i.Cut line) (c.stack ++ []) (sym (append-nil (c.stack ++ []))) refl (none-read g.payload) (Room-less g _ _ (omega (arith, none2)) room)
    (record { after = c.stack ++ []; turns = (refl, Room-less g _ _ (omega (arith, none)) room); leads = tt }))

pub cut-target : (bs : List Block) (line m depth : ℕ) (c : Code) → Stand (length c.blocks) (with_cut line c).blocks bs → length c.blocks < m → c.depth ≤ depth → Target bs m depth c.stack (length c.blocks)
cut-target bs line m depth c stand lt le =
    subst (λ (l : List Shape). Target bs m depth l (length c.blocks)) (cut-stack line c) (Target-close bs (pushed (i.Cut line) (begun (End AtCut) [] c)) m depth stand lt le)

-- the place that is kept in a list of blocks
pub placed : (x : Code) (ys : List Block) → Grew (reserved x).blocks ys → slice_get ys (length x.blocks) ≡ Some (placeholder x)
placed x ys g = ap (λ l. slice_get l (length x.blocks)) g.is ∙ slice_get-append (reserved x).blocks g.more (length x.blocks) (omega (arith, length-append x.blocks (placeholder x ∷ []))) ∙ slice_get-seam x.blocks [] (placeholder x)

pub Lowers-loop : (qs ps : Bool → List TreePart) (pt : List TreePart) (body : Does Flow) (tst : Does ℤ) (n nt : Need) (line block : ℕ) (way : Ways) (c c4 c8 : Code) →
    ((s : Scope) (inside : Bool) → all_fit s (qs inside) ≡ true → (all_fit s pt ≡ true) × (all_fit s (ps true) ≡ true)) →
    LowersBlock ps body n (length (with_cut line (closed c)).blocks) (record { leave = length c.blocks; again = length (with_cut line (closed c)).blocks }) (reserved (with_cut line (closed c))) c4 block →
    LowersValue pt (number_value tst) shapes.Int nt (begun (Branch (length c4.blocks) (length c.blocks)) (shapes.Int ∷ []) (closed (gated block (length (closed c).blocks) c4))) c8 →
    LowersStmt qs (while_true line tst body) (more 24 (greater nt n)) way c (patched (length (with_cut line (closed c)).blocks) (length c8.blocks) (closed c8))
unfolding bind looked_at code_slots
Lowers-loop qs ps pt body tst n nt line block way c c4 c8 fit lb lt = record {
  grew = Grew-set c.blocks (closed c8).blocks (length (with_cut line (closed c)).blocks) (turn_end (length c8.blocks) (closed c8)) (omega (arith, len2)) grown;
  depth = deep8;
  slots = omega (arith, same-slots, slots-closed c, cut-slots line (closed c), slots-reserved (with_cut line (closed c)), lb.slots, slots-gated block (length (closed c).blocks) c4, slots-closed (gated block (length (closed c).blocks) c4), slots-begun (Branch (length c4.blocks) (length c.blocks)) (shapes.Int ∷ []) (closed (gated block (length (closed c).blocks) c4)), lt.slots, slots-closed c8);
  stack = stack8;
  does = λ bs stand most le t inside fits w same frame values k fo.
      let f = fit t.scope inside fits in
      let wide : length (closed c8).blocks ≤ most = omega (arith, le, length-set (closed c8).blocks (length (with_cut line (closed c)).blocks) (turn_end (length c8.blocks) (closed c8))) in
      let reach = tests_reach ps body n line block pt tst nt c c4 c8 lb lt bs stand most wide t true f.1 w same values k fo.stop frame.turns
      (λ st h. Reaches-close bs c (fuel most c st.turns) (seen_by t.ground.maps w) (state st values) (k (Next, st)) (stands1 ps body n line block (length c8.blocks) c c4 (closed c8) lb grown9 bs stand) (fo.next st h)) (suc frame.turns) frame (omega arith) (omega arith) in
      let flat : (frame.turns + c8.depth) * most ≡ (frame.turns + c.depth) * most = ap (λ (x : ℕ). (frame.turns + x) * most) deep8 in
      record { by = λ m h. reach.by m (omega (arith, h, flat, length-set (closed c8).blocks (length (with_cut line (closed c)).blocks) (turn_end (length c8.blocks) (closed c8)))) };
  sound = λ bs stand t inside fits room ways o.
      let f = fit t.scope inside fits in
      let g = t.ground in
      let mt : nt.frame ≤ max nt.frame n.frame = le-max_left nt.frame n.frame in
      let mn : n.frame ≤ max nt.frame n.frame = le-max_right nt.frame n.frame in
      let r0 : HasRoom g (sizes_of c.stack) = Room-less g _ _ (omega arith) room in
      let st1 = stands1 ps body n line block (length c8.blocks) c c4 (closed c8) lb grown9 bs stand in
      let st2 = stands2 ps body n line block (length c8.blocks) c c4 (closed c8) lb grown9 bs stand in
      let st4 = stands4 ps body n line block (length c8.blocks) c c4 (closed c8) lb grown9 bs stand in
      let st6 = stands6 ps body n line block (length c8.blocks) c c4 (closed c8) lb grown9 bs stand in
      let ov = over ps body n line block (length c8.blocks) c c4 (closed c8) lb grown9 bs stand in
      let e = here ps body n line block (length c8.blocks) c c4 (closed c8) lb grown9 bs stand in
      let st8 : Stand (length (closed (gated block (length (closed c).blocks) c4)).blocks) c8.blocks bs = Stand-later _ _ _ _ len36 (Stand-before _ _ _ _ (Grew-one c8.blocks (open_block c8)) ov) in
      let st9 : Stand (length c8.blocks) (closed c8).blocks bs = Stand-later _ _ _ _ (omega (arith, len36, Grew-length _ _ lt.grew)) ov in
      let head = here-closed bs c8 st9 in
      let back : Back bs (c8.depth + 1) c8.stack (length c8.blocks) = record { there = some-below bs (length c8.blocks) (open_block c8) head; outside = omega (arith, ap depth_in head); finds = ap stack_in head } in
      let leaves : Target bs (length (reserved (with_cut line (closed c))).blocks) (reserved (with_cut line (closed c))).depth (reserved (with_cut line (closed c))).stack (length c.blocks) = subst (λ (l : List Shape). Target bs (length (reserved (with_cut line (closed c))).blocks) (reserved (with_cut line (closed c))).depth l (length c.blocks)) (sym stack3) (Target-close bs c (length (reserved (with_cut line (closed c))).blocks) (reserved (with_cut line (closed c))).depth st1 (omega (arith, len3)) (omega arith)) in
      let ends : Target bs (length (reserved (with_cut line (closed c))).blocks) (reserved (with_cut line (closed c))).depth (reserved (with_cut line (closed c))).stack (length (with_cut line (closed c)).blocks) = record { later = omega (arith, len3, len2); loops = omega (arith, ap depth_in e, deep8); finds = ap stack_in e ∙ stack8 ∙ sym stack3 } in
      let pb = lb.sound bs st4 t true f.1 (Room-less g _ _ (omega (arith, ap sizes_of stack3)) room) (record { leaves = leaves; goes_on = ends }) ends in
      let gate_to : Target bs (length c4.blocks) (c4.depth - 1 + 1) c4.stack block = subst (λ (l : List Shape). Target bs (length c4.blocks) (c4.depth - 1 + 1) l block) (sym lb.stack) (subst (λ (m : ℕ). Target bs (length c4.blocks) m (reserved (with_cut line (closed c))).stack block) deep-gate pb.0) in
      let gate_cut : Target bs (length c4.blocks) (c4.depth - 1) c4.stack (length (closed c).blocks) = subst (λ (l : List Shape). Target bs (length c4.blocks) (c4.depth - 1) l (length (closed c).blocks)) (sym stack4)
      (cut-target bs line (length c4.blocks) (c4.depth - 1) (closed c) st2 (omega (arith, len1, len3, Grew-length _ _ lb.grew)) (omega (arith, deep4))) in
      let gate : Opens g bs (gated block (length (closed c).blocks) c4) = record { after = c4.stack; turns = (refl, Room-less g _ _ (omega (arith, ap sizes_of stack4)) room); leads = (gate_to, gate_cut) } in
      let to_gate : Target bs (length (closed (gated block (length (closed c).blocks) c4)).blocks) (closed (gated block (length (closed c).blocks) c4)).depth (closed (gated block (length (closed c).blocks) c4)).stack (length c4.blocks) = Target-close bs (gated block (length (closed c).blocks) c4) (length (closed (gated block (length (closed c).blocks) c4)).blocks) (c4.depth - 1) st6 (omega (arith, closed-length (gated block (length (closed c).blocks) c4))) (omega arith) in
      let to_leave : Target bs (length (closed (gated block (length (closed c).blocks) c4)).blocks) (closed (gated block (length (closed c).blocks) c4)).depth (closed (gated block (length (closed c).blocks) c4)).stack (length c.blocks) = subst (λ (l : List Shape). Target bs (length (closed (gated block (length (closed c).blocks) c4)).blocks) (c4.depth - 1) l (length c.blocks)) (sym stack4) (Target-close bs c (length (closed (gated block (length (closed c).blocks) c4)).blocks) (c4.depth - 1) st1 (omega (arith, len3, len36)) (omega (arith, deep4))) in
      let z : sizes_of (c4.stack ++ shapes.Int ∷ []) ≡ sizes_of c4.stack + sizes_of (shapes.Int ∷ []) = sizes-append c4.stack (shapes.Int ∷ []) in
      let pt' = lt.sound bs st8 t f.0 c4.stack refl (Room-less g _ _ (omega (arith, ap sizes_of stack4)) room) (Opens-branch g bs (closed (gated block (length (closed c).blocks) c4)) (length c4.blocks) (length c.blocks) (Room-less g _ _ (omega (arith, lt.sizes, ap sizes_of stack4)) room) to_gate to_leave) in
      let r8 : HasRoom g (sizes_of c8.stack) = Room-less g _ _ (omega (arith, ap sizes_of stack8)) room in
      let last : length (patched (length (with_cut line (closed c)).blocks) (length c8.blocks) (closed c8)).blocks ≡ length (closed c8).blocks = length-set (closed c8).blocks (length (with_cut line (closed c)).blocks) (turn_end (length c8.blocks) (closed c8)) in (
        record { after = c8.stack; turns = (refl, r8); leads = Target-close bs c8 (length (patched (length (with_cut line (closed c)).blocks) (length c8.blocks) (closed c8)).blocks) c8.depth st9 (omega (arith, last, closed-length c8)) (omega arith) },
        subst (λ (m : ℕ). Sound g bs (length c.blocks) m) (sym last)
            (Sound-join g bs _ (length (closed c).blocks) _ (Sound-close g bs c st1 o)
            (Sound-join g bs _ (length (with_cut line (closed c)).blocks) _ (cut-sound g bs line (closed c) r0 st2)
            (Sound-join g bs _ ((length (with_cut line (closed c)).blocks) + 1) _ (Sound-end g bs (length (with_cut line (closed c)).blocks) (length c8.blocks) (closed c8) e r8 back)
            (subst (λ (m : ℕ). Sound g bs m (length (closed c8).blocks)) (sym len3')
            (Sound-join g bs _ (length c4.blocks) _ pb.1
            (Sound-join g bs _ (length (closed (gated block (length (closed c).blocks) c4)).blocks) _ (Sound-close g bs (gated block (length (closed c).blocks) c4) st6 gate)
            (Sound-join g bs _ (length c8.blocks) _ pt'.1 (Sound-close g bs c8 st9 pt'.0)))))))),
      );
}
  where
    len1 : length (closed c).blocks ≡ length c.blocks + 1
    len1 = closed-length c

    len2 : length (with_cut line (closed c)).blocks ≡ length c.blocks + 2
    len2 = omega (arith, closed-length (pushed (i.Cut line) (begun (End AtCut) [] (closed c))), len1)

    len3' : length (with_cut line (closed c)).blocks + 1 ≡ length (reserved (with_cut line (closed c))).blocks
    len3' = sym (length-append (with_cut line (closed c)).blocks (placeholder (with_cut line (closed c)) ∷ []))

    len3 : length (reserved (with_cut line (closed c))).blocks ≡ length c.blocks + 3
    len3 = omega (arith, len3', len2)

    len36 : length (reserved (with_cut line (closed c))).blocks ≤ length (closed (gated block (length (closed c).blocks) c4)).blocks
    len36 = omega (arith, Grew-length _ _ lb.grew, closed-length (gated block (length (closed c).blocks) c4))

    grown9 : Grew (closed (gated block (length (closed c).blocks) c4)).blocks (closed c8).blocks
    grown9 = Grew-trans _ _ _ lt.grew (Grew-one c8.blocks (open_block c8))

    grown : Grew c.blocks (closed c8).blocks
    grown = g09 ps body n line block (length c8.blocks) c c4 (closed c8) lb grown9

    deep4 : c4.depth ≡ c.depth + 1
    deep4 = lb.depth

    deep8 : c8.depth ≡ c.depth
    deep8 = omega (arith, lt.depth, deep4)

    deep-gate : c.depth + 1 ≡ c4.depth - 1 + 1
    deep-gate = omega (arith, deep4)

    stack3 : (with_cut line (closed c)).stack ≡ c.stack
    stack3 = cut-stack line (closed c)

    stack4 : c4.stack ≡ c.stack
    stack4 = lb.stack ∙ stack3

    stack8 : c8.stack ≡ c.stack
    stack8 = lt.stack c4.stack refl ∙ stack4

    same-slots : blocks_slots (slice_set (closed c8).blocks (length (with_cut line (closed c)).blocks) (turn_end (length c8.blocks) (closed c8))) ≡ blocks_slots (closed c8).blocks
    same-slots = set-slots (closed c8).blocks _ _ (placeholder (with_cut line (closed c)))
        (placed (with_cut line (closed c)) (closed c8).blocks (Grew-trans _ _ _ lb.grew (Grew-trans _ _ _ (Grew-one c4.blocks (open_block (gated block (length (closed c).blocks) c4))) grown9))) refl refl refl refl
