use Rattle.std.proofs.Common.{refl}
use Rattle.std.proofs.Math.Nat.{lt_trans}
use Rattle.bt_parser.proofs.block.ended.Goals.{then-sees, else-sees+else-not-sees}
use Rattle.bt_parser.proofs.block.ended.Goals as goal

pub skip-requires : goal.skip-requires
skip-requires c = c.if-sees.ensures.some refl

pub returns-then-not-sees-clause-reads : goal.returns-then-not-sees-clause-reads
returns-then-not-sees-clause-reads c = λ _. rw (c.in_ok-stmt.ensures.reads, ← c.if-sees.ensures.class, ← c.if-not-sees.ensures.class) refl

pub returns-clause-reads : goal.returns-clause-reads
returns-clause-reads c =
    rw c.in_ok-stmt.ensures.reads
    (elim c.if-sees.branch [
      | then-sees w ↦ rw (w.tokens-is, ← w.if-sees.ensures.class, w.skip.ensures.items) refl
      | else-sees+else-not-sees w ↦ rw (w.tokens-is, ← w.if-sees.ensures.class, ← w.if-not-sees.ensures.class) refl
    ])

pub returns-clause-shorter : goal.returns-clause-shorter
returns-clause-shorter c = elim c.if-sees.branch [
  | then-sees w ↦ rw w.tokens-is (lt_trans w.skip.ensures.shorter c.in_ok-stmt.ensures.shorter)
  | else-sees+else-not-sees w ↦ rw w.tokens-is c.in_ok-stmt.ensures.shorter
]
