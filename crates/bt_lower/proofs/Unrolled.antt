-- Lowering of `unroll`, from the steps by which it is done.
use Rattle.std.proofs.Common.{◌≡◌, ℕ, ◌+◌, [], ◌∷◌, length, refl, sym, ap, ◌∙◌, subst, Bool, true}
use Rattle.std.specs.Prelude.{pos}
use Rattle.bt_core.specs.declared.value.Value.TheVariants.{Int}
use Rattle.typed_tree.specs.declared.stmt.TypedBlock.{TypedBlock}
use Rattle.typed_tree.specs.declared.stmt.TypedStmt.TheVariants as stmts
use Rattle.typed_tree.specs.Parts.{block_parts, stmt_parts, Unrolled}
use Rattle.typed_tree.specs.Scope.{Scope, all_fit}
use Rattle.walk_meaning.specs.Stmts.{stmt_does, block_does, turns}
use Rattle.ir_code.specs.declared.blocks.Exit.TheVariants.{Count}
use Rattle.ir_code.specs.declared.instr.Instr.TheVariants as i
use Rattle.bt_lower.specs.declared.code.Code.{Code}
use Rattle.bt_lower.specs.declared.code.Ways.{Ways}
use Rattle.bt_lower.specs.Code.{pushed, begun, closed, reserved, gated, patched, with_cut}
use Rattle.bt_lower.specs.Lowers.{LowersBlock, LowersStmt}
use Rattle.bt_lower.specs.Needs.{need, stmt_need, block_need}
use Rattle.bt_lower.proofs.Forms.{Unroll-parts, Unroll-does, Unroll-need}
use Rattle.bt_lower.proofs.Lists.{fit-head}
use Rattle.bt_lower.proofs.Single.{stmt-is}
use Rattle.bt_lower.proofs.Unrolls.{Lowers-counted, counting}

-- the loop's block, between the code before it and the code after it
abbrev pub LoopBlock : TypedBlock → ℕ → ℕ → Code → Code → ℕ → Type 0
LoopBlock b leave again old new block = LowersBlock (block_parts b) (block_does b) (block_need b) again (record { leave = leave; again = again }) old new block

unroll-fit : (n : ℕ) (b : TypedBlock) (line : ℕ) (s : Scope) (inside : Bool) → all_fit s (Unrolled n line ∷ block_parts b true) ≡ true → all_fit s (block_parts b true) ≡ true
unroll-fit n b line s inside h = let p = fit-head s (Unrolled n line) (block_parts b true) h in p.1

-- ---- what stands up to a loop's gate

module _ (line : ℕ) (c c1 c2 c3 : Code) (leave cut again : ℕ)
    (e1 : c1 ≡ closed c) (el : leave ≡ length c.blocks) (e2 : c2 ≡ with_cut line c1) (ec : cut ≡ length c1.blocks) (e3 : c3 ≡ reserved c2) (ea : again ≡ length c2.blocks) where
  second-is : c2 ≡ with_cut line (closed c)
  second-is = e2 ∙ ap (with_cut line) e1

  again-is : again ≡ length (with_cut line (closed c)).blocks
  again-is = ea ∙ ap (λ (x : Code). length x.blocks) second-is

  cut-is : cut ≡ length (closed c).blocks
  cut-is = ec ∙ ap (λ (x : Code). length x.blocks) e1

  block-is : (b : TypedBlock) (c4 : Code) (block : ℕ) → LoopBlock b leave again c3 c4 block → LoopBlock b (length c.blocks) (length (with_cut line (closed c)).blocks) (reserved (with_cut line (closed c))) c4 block
  block-is b c4 block l =
      subst (λ (x : Code). LoopBlock b (length c.blocks) (length (with_cut line (closed c)).blocks) x c4 block) (e3 ∙ ap reserved second-is)
      (subst (λ (n : ℕ). LoopBlock b (length c.blocks) n c3 c4 block) again-is
      (subst (λ (n : ℕ). LoopBlock b n again c3 c4 block) el l))

  gate-is : (c4 c5 : Code) (block : ℕ) → c5 ≡ gated block cut c4 → c5 ≡ gated block (length (closed c).blocks) c4
  gate-is c4 c5 block e5 = e5 ∙ ap (λ (n : ℕ). gated block n c4) cut-is

-- an `unroll` lets its count go behind the loop: `c0` is what follows it
module _ (line : ℕ) (c0 c c1 c2 c3 : Code) (leave cut again : ℕ) (e0 : c ≡ pushed i.Pop c0)
    (e1 : c1 ≡ closed c) (el : leave ≡ length c.blocks) (e2 : c2 ≡ with_cut line c1) (ec : cut ≡ length c1.blocks) (e3 : c3 ≡ reserved c2) (ea : again ≡ length c2.blocks) where
  starts : c1 ≡ closed (pushed i.Pop c0)
  starts = e1 ∙ ap closed e0

  leave-is : leave ≡ length c0.blocks
  leave-is = el ∙ ap (λ (x : Code). length x.blocks) e0

  pub unroll-steps : (count : ℕ) (b : TypedBlock) (way : Ways) (c4 c5 c6 c7 c8 c9 new : Code) (block gate head : ℕ) →
      LoopBlock b leave again c3 c4 block → c5 ≡ gated block cut c4 → c6 ≡ closed c5 → gate ≡ length c5.blocks →
      c7 ≡ begun (Count gate leave) [] c6 → c8 ≡ closed c7 → head ≡ length c7.blocks → c9 ≡ patched again head c8 → new ≡ pushed (i.Put (Int (pos count))) c9 →
      LowersStmt (stmt_parts (stmts.Unroll count b line)) (stmt_does (stmts.Unroll count b line)) (stmt_need (stmts.Unroll count b line)) way c0 new
  unroll-steps count b way c4 c5 c6 c7 c8 c9 new block gate head lb e5 e6 eg e7 e8 eh e9 en =
      let second : again ≡ length (with_cut line (closed (pushed i.Pop c0))).blocks = again-is line (pushed i.Pop c0) c1 c2 c3 leave cut again starts leave-is e2 ec e3 ea in
      let gated-is = gate-is line (pushed i.Pop c0) c1 c2 c3 leave cut again starts leave-is e2 ec e3 ea c4 c5 block e5 in
      let gate_number : gate ≡ length c4.blocks = eg ∙ ap (λ (x : Code). length x.blocks) gated-is in
      let counts : c7 ≡ counting line block (pushed i.Pop c0) c4 =
      e7 ∙ ap (begun (Count gate leave) []) (e6 ∙ ap closed gated-is)
      ∙ ap (λ (n : ℕ). begun (Count n leave) [] (closed (gated block (length (closed (pushed i.Pop c0)).blocks) c4))) gate_number
      ∙ ap (λ (n : ℕ). begun (Count (length c4.blocks) n) [] (closed (gated block (length (closed (pushed i.Pop c0)).blocks) c4))) leave-is in
      let ends : c9 ≡ patched (length (with_cut line (closed (pushed i.Pop c0))).blocks) (length (counting line block (pushed i.Pop c0) c4).blocks) (closed (counting line block (pushed i.Pop c0) c4)) =
      e9 ∙ ap (λ (n : ℕ). patched n head c8) second
      ∙ ap (λ (n : ℕ). patched (length (with_cut line (closed (pushed i.Pop c0))).blocks) n c8) (eh ∙ ap (λ (x : Code). length x.blocks) counts)
      ∙ ap (patched (length (with_cut line (closed (pushed i.Pop c0))).blocks) (length (counting line block (pushed i.Pop c0) c4).blocks)) (e8 ∙ ap closed counts) in
      stmt-is (stmts.Unroll count b line) (stmts.Unroll count b line) _ _ _ way c0 new refl (Unroll-parts count b line) (Unroll-does count b line) (Unroll-need count b line)
      (subst (λ (x : Code). LowersStmt (λ (inside : Bool). Unrolled count line ∷ block_parts b true) (turns count line (block_does b)) (need (8 + (block_need b).frame) (32 + (block_need b).code)) way c0 x) (sym (en ∙ ap (pushed (i.Put (Int (pos count)))) ends))
      (Lowers-counted (λ (inside : Bool). Unrolled count line ∷ block_parts b true) (block_parts b) (block_does b) (block_need b) count line block way c0 c4
      (unroll-fit count b line) (block-is line (pushed i.Pop c0) c1 c2 c3 leave cut again starts leave-is e2 ec e3 ea b c4 block lb)))
