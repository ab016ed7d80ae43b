use Rattle.code_runs.proofs.replay_laws.replays_agree.Goals as goal
use Rattle.code_runs.proofs.Agreeing.{there, back, replayed_there, replayed_back, serial}
use Rattle.code_runs.specs.HeldReplies.{IsHeldReply}

pub returns-clause-there : goal.returns-clause-there
returns-clause-there c p q steps agree asks held i = there IsHeldReply p q agree asks steps held i

pub returns-clause-back : goal.returns-clause-back
returns-clause-back c p q steps agree asks held i = back IsHeldReply p q agree asks steps held i

pub returns-clause-replayed_there : goal.returns-clause-replayed_there
returns-clause-replayed_there c p q steps agree asks held i = replayed_there IsHeldReply p q agree asks steps held i

pub returns-clause-replayed_back : goal.returns-clause-replayed_back
returns-clause-replayed_back c p q steps agree asks held i = replayed_back IsHeldReply p q agree asks steps held i

pub returns-clause-serial : goal.returns-clause-serial
returns-clause-serial c p q valid turn agree asks held = serial IsHeldReply p q agree asks valid turn held
