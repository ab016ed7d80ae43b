-- Lists of blocks that differ in neither the types at their blocks' starts nor the loops round them.
use Rattle.std.proofs.Common.{◌≡◌, ℕ, ◌+◌, ◌-◌, List, [], ◌∷◌, length, Bool, refl, ap, ◌∙◌}
use Rattle.std.specs.Prelude.{◌&&◌, ◌==◌, nat_le, slice_get}
use Rattle.std.proofs.lemmas.Bool.{and_parts}
use Rattle.std.specs.Prelude.{true}
use Rattle.bt_core.specs.declared.map.Shape.{Shape}
use Rattle.bt_core.specs.declared.map.Shape.TheVariants as shapes
use Rattle.typed_tree.specs.Scope.{same_shapes}
use Rattle.ir_code.specs.declared.blocks.Block.{Block}
use Rattle.ir_code.specs.declared.blocks.Exit.{Exit}
use Rattle.ir_code.specs.declared.blocks.Exit.TheVariants.{Goto, Branch, Count, Gate, Again, End}
use Rattle.ir_code.specs.Typing.{Ground, front_of, end_with, all_stand, all_turned, stack_in, goes_with, exit_stands, block_stands, each_stands, are_typed}
use Rattle.ir_code.specs.Ways.{depth_at, lies_below, leads, lead_from, lead_forward}
use Rattle.ir_fold.proofs.Better.{both}

module _ (bs cs : List Block) (long : length cs ≡ length bs) (stack-at : (n : ℕ) → stack_in (slice_get cs n) ≡ stack_in (slice_get bs n)) (depth-same : (n : ℕ) → depth_at cs n ≡ depth_at bs n) where
  below-same : (n depth to : ℕ) → lies_below cs n depth to ≡ lies_below bs n depth to
  below-same n depth to = ap (λ (d : ℕ). nat_le (to + 1) n && nat_le d depth) (depth-same to)

  pub leads-same : (n depth : ℕ) (e : Exit) → leads cs n depth e ≡ leads bs n depth e
  leads-same n depth (Goto b) = below-same n depth b
  leads-same n depth (Branch first second) =
      ap (λ (x : Bool). x && lies_below cs n depth second) (below-same n depth first)
      ∙ ap (λ (x : Bool). lies_below bs n depth first && x) (below-same n depth second)
  leads-same n depth (Count block leave) =
      ap (λ (x : Bool). x && lies_below cs n depth leave) (below-same n depth block)
      ∙ ap (λ (x : Bool). lies_below bs n depth block && x) (below-same n depth leave)
  leads-same n depth (Gate block cut) =
      ap (λ (x : Bool). x && lies_below cs n depth cut) (below-same n (depth + 1) block)
      ∙ ap (λ (x : Bool). lies_below bs n (depth + 1) block && x) (below-same n depth cut)
  leads-same n depth (Again head) =
      ap (λ (l : ℕ). nat_le (head + 1) l && nat_le (depth_at cs head + 1) depth) long
      ∙ ap (λ (d : ℕ). nat_le (head + 1) (length bs) && nat_le (d + 1) depth) (depth-same head)
  leads-same n depth (End ending) = refl

  goes-same : (stack : List Shape) (to : ℕ) → goes_with cs stack to ≡ goes_with bs stack to
  goes-same stack to = ap (λ (l : List Shape). same_shapes l stack) (stack-at to)

  exit-same : (e : Exit) (stack : List Shape) → exit_stands cs e stack ≡ exit_stands bs e stack
  exit-same (Goto b) stack = goes-same stack b
  exit-same (Branch first second) stack =
      ap (λ (x : Bool). end_with (shapes.Int ∷ []) stack && x && goes_with cs (front_of 1 stack) second) (goes-same (front_of 1 stack) first)
      ∙ ap (λ (x : Bool). end_with (shapes.Int ∷ []) stack && goes_with bs (front_of 1 stack) first && x) (goes-same (front_of 1 stack) second)
  exit-same (Count block leave) stack =
      ap (λ (x : Bool). end_with (shapes.Int ∷ []) stack && x && goes_with cs stack leave) (goes-same stack block)
      ∙ ap (λ (x : Bool). end_with (shapes.Int ∷ []) stack && goes_with bs stack block && x) (goes-same stack leave)
  exit-same (Gate block cut) stack =
      ap (λ (x : Bool). x && goes_with cs stack cut) (goes-same stack block) ∙ ap (λ (x : Bool). goes_with bs stack block && x) (goes-same stack cut)
  exit-same (Again head) stack = goes-same stack head
  exit-same (End ending) stack = refl

  pub block-same : (g : Ground) (b : Block) → block_stands g cs b ≡ block_stands g bs b
  block-same g b = ap (λ (x : Bool). all_stand g b.instrs b.stack && x) (exit-same b.exit (all_turned b.instrs b.stack))

  -- of the first block of a run
  pub lead-whole : lead_forward bs ≡ true → lead_from cs 0 cs ≡ true → lead_forward cs ≡ true
  lead-whole h each =
      let p = and_parts (nat_le 1 (length bs) && depth_at bs (length bs - 1) == 0) (lead_from bs 0 bs) h in
      both (nat_le 1 (length cs) && depth_at cs (length cs - 1) == 0) (lead_from cs 0 cs)
      (ap (λ (l : ℕ). nat_le 1 l && depth_at cs (l - 1) == 0) long
      ∙ ap (λ (d : ℕ). nat_le 1 (length bs) && d == 0) (depth-same (length bs - 1)) ∙ p.0) each

  pub typed-whole : (g : Ground) → are_typed g bs ≡ true → each_stands g cs cs ≡ true → are_typed g cs ≡ true
  typed-whole g h each =
      let p = and_parts (same_shapes (stack_in (slice_get bs (length bs - 1))) []) (each_stands g bs bs) h in
      both (same_shapes (stack_in (slice_get cs (length cs - 1))) []) (each_stands g cs cs)
      (ap (λ (l : ℕ). same_shapes (stack_in (slice_get cs (l - 1))) []) long
      ∙ ap (λ (l : List Shape). same_shapes l []) (stack-at (length bs - 1)) ∙ p.0) each
