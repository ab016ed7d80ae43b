use Rattle.expr_types.specs.Judge.{SaysFault, judged}
use Rattle.bt_types.specs.Bodies.{nothing, script_told}
use Rattle.bt_types.specs.Open.{BodiesDone}
use Rattle.bt_types.proofs.Closing.{told_beside}
use Rattle.bt_types.proofs.script.check_all.Goals as goal

pub returns : goal.returns
returns c =
    let script = c.args.script.now in
    let formats = c.args.formats.now in
    let ids = c.args.bodies.now in
    told_beside (λ k all. BodiesDone script formats ids nothing k all) (λ e. SaysFault (judged (script_told script formats ids).points nothing) e) _ c.check_bodies-all.result c.beside.result c.beside.ensures
    (rw (← c.nothing-known.ensures) c.check_bodies-all.ensures)
