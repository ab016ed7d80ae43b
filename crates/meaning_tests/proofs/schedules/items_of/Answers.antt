use Rattle.std.proofs.Common.{◌≡◌, ◌<◌, List, [], ◌∷◌, length, ap, arith}
use Rattle.std.proofs.lemmas.Option.{MatchOption-at_some}
use Rattle.bt_meaning.specs.declared.schedule.Scheduled.{Scheduled}
use Rattle.meaning_tests.proofs.schedules.items_of.Goals as goal

pub loop-item-smaller : goal.loop-item-smaller
loop-item-smaller c =
    let old = c.loop-item.schedule in
    let new = c.next.new.self in
    let e = ap length (MatchOption-at_some ((old ≡ []) × (new ≡ [])) (λ (item : Scheduled). old ≡ item ∷ new) c.in-Some.item c.in-Some.is c.next.ensures) in
    omega (arith, e)
