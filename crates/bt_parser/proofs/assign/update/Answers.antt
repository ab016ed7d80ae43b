use Rattle.std.proofs.Common.{refl}
use Rattle.bt_grammar.specs.Tokens.{items}
use Rattle.bt_parser.proofs.Stated.{update_is}
use Rattle.bt_parser.proofs.Mirrored.{shorter_on}
use Rattle.bt_parser.proofs.assign.update.Goals as goal

pub returns-in-Some-clause-reads : goal.returns-in-Some-clause-reads
returns-in-Some-clause-reads c = rw (update_is c.args.target (items c.args.tokens.now), ← c.in-Some.ensures.class, ← c.skip.ensures.items, c.step_after.ensures) refl

pub returns-in_default-update-clause-reads : goal.returns-in_default-update-clause-reads
returns-in_default-update-clause-reads c = λ _. rw (update_is c.args.target (items c.args.tokens.now), ← c.in_default.ensures.class, ← c.in_default-update.ensures.class) refl

pub returns-clause-reads : goal.returns-clause-reads
returns-clause-reads c =
    rw (
      update_is c.args.target (items c.args.tokens.now),
      ← c.in_default.ensures.class,
      ← c.in-Some-update.ensures.class,
      ← c.skip-2.ensures.items,
    ) c.assign.ensures.reads

pub skip-requires : goal.skip-requires
skip-requires c = c.in-Some.ensures.some refl

pub returns-in-Some-clause-shorter : goal.returns-in-Some-clause-shorter
returns-in-Some-clause-shorter c = c.skip.ensures.shorter

pub skip-requires-2 : goal.skip-requires-2
skip-requires-2 c = c.in-Some-update.ensures.some refl

pub returns-clause-shorter : goal.returns-clause-shorter
returns-clause-shorter c = shorter_on _ _ _ _ c.assign.ensures.shorter c.skip-2.ensures.shorter
