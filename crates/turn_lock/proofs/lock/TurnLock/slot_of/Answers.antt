use Rattle.std.proofs.Common.{ap, List, Option, Some, ◌∙◌, ◌∷◌, ◌++◌, []}
use Rattle.turn_lock.specs.declared.view.Desk.{Desk}
use Rattle.turn_lock.proofs.lock.TurnLock.slot_of.Goals as goal

pub returns : goal.returns
returns g c = let d : Desk g.row.O.Denot = record { object = c.args.object; stamp = 0; apart = tt } in
    c.push_reserved.ensures.items ∙ ap (λ (xs : List (Option (Desk g.row.O.Denot))). xs ++ Some d ∷ []) c.in_ok-slots.ensures.items
