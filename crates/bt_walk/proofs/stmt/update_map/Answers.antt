use Rattle.std.proofs.Common.{SFits, w64, rules, ◌∙◌}
use Rattle.std.proofs.lemmas.Int.{to_z-of_z}
use Rattle.std.proofs.lemmas.Result.{err_from_is_err_and}
use Rattle.bt_core.specs.declared.map.Shape.TheVariants as shapes
use Rattle.typed_tree.specs.Parts.{num_parts, key_shapes}
use Rattle.walk_meaning.specs.Served.{all_made}
use Rattle.bt_walk.proofs.Binds.{Part-first, Part-next, Walked-next, Stopped}
use Rattle.walk_meaning.proofs.Declared.{valued, held}
use Rattle.walk_meaning.proofs.TreeParts.{update_head}
use Rattle.bt_walk.proofs.Statements.{update_split}
use Rattle.bt_walk.proofs.Fitting.{served_still}
use Rattle.bt_walk.proofs.stmt.update_map.Goals as goal

pub key-requires-clause-few : goal.key-requires-clause-few
key-requires-clause-few g c =
    let found = valued c.args.view.now (g.P.Port.fixed c.args.port.now).setting c.args.map (key_shapes (all_made c.args.keys.now)) shapes.Int c.requires.served (update_head c.args.view.now c.args.map (all_made c.args.keys.now) c.args.op (num_parts c.args.e.now) c.requires.fits) in found.few

pub returns-in_err-key-clause-walked : goal.returns-in_err-key-clause-walked
returns-in_err-key-clause-walked g c =
    let p = err_from_is_err_and c.from_residual.result c.from_residual.ensures.1 in
    Stopped _ _ _ _ p.1 (Part-first _ _ _ _ _ _ c.in_err-key.ensures.walked)

pub returns-in_err-b-clause-walked : goal.returns-in_err-b-clause-walked
returns-in_err-b-clause-walked g c =
    let p = err_from_is_err_and c.from_residual-in_err-b.result c.from_residual-in_err-b.ensures.1 in
    Stopped _ _ _ _ p.1 (Part-next _ _ _ _ _ _ _ _ c.in_ok-key.ensures.walked _ (Part-first _ _ _ _ _ _ c.in_err-b.ensures.walked))

pub update_at-requires : goal.update_at-requires
update_at-requires g c =
    let found = valued c.args.view.now (g.P.Port.fixed c.args.port.now).setting c.args.map (key_shapes (all_made c.args.keys.now)) shapes.Int c.requires.served (update_head c.args.view.now c.args.map (all_made c.args.keys.now) c.args.op (num_parts c.args.e.now) c.requires.fits) in
    rw (c.in_ok-b.ensures.kept, c.in_ok-key.ensures.kept) (held _ _ _ shapes.Int _ found c.in_ok-key.ensures.shaped)

pub returns-clause-walked : goal.returns-clause-walked
returns-clause-walked g c =
    let fb : SFits w64 c.in_ok-b.b = search rules in
    let made = simp to_z-of_z at c.update_at.ensures.made in
    (Walked-next _ _ _ _ _ _ _ _ c.in_ok-key.ensures.walked _ _ _ (Walked-next _ _ _ _ _ _ _ _ c.in_ok-b.ensures.walked _ _ _ (made _ _)))

pub key-requires-clause-fits : goal.key-requires-clause-fits
key-requires-clause-fits g c = (update_split c.args.view.now c.args.op c.args.map (all_made c.args.keys.now) (num_parts c.args.e.now) c.requires.fits).0

pub number-requires-clause-fits : goal.number-requires-clause-fits
number-requires-clause-fits g c = (update_split c.args.view.now c.args.op c.args.map (all_made c.args.keys.now) (num_parts c.args.e.now) c.requires.fits).1

pub returns-in_err-key-clause-kept : goal.returns-in_err-key-clause-kept
returns-in_err-key-clause-kept g c = c.in_err-key.ensures.kept

pub returns-in_err-b-clause-kept : goal.returns-in_err-b-clause-kept
returns-in_err-b-clause-kept g c = c.in_err-b.ensures.kept ∙ c.in_ok-key.ensures.kept

pub returns-clause-kept : goal.returns-clause-kept
returns-clause-kept g c = c.update_at.ensures.kept ∙ (c.in_ok-b.ensures.kept ∙ c.in_ok-key.ensures.kept)

pub returns-in_err-key-clause-turns : goal.returns-in_err-key-clause-turns
returns-in_err-key-clause-turns g c = c.in_err-key.ensures.turns

pub returns-in_err-b-clause-turns : goal.returns-in_err-b-clause-turns
returns-in_err-b-clause-turns g c = c.in_err-b.ensures.turns ∙ c.in_ok-key.ensures.turns

pub returns-clause-turns : goal.returns-clause-turns
returns-clause-turns g c = c.in_ok-b.ensures.turns ∙ c.in_ok-key.ensures.turns

pub key-requires-clause-served : goal.key-requires-clause-served
key-requires-clause-served g c = c.requires.served

pub number-requires-clause-served : goal.number-requires-clause-served
number-requires-clause-served g c = served_still c.args.view.now _ _ c.in_ok-key.ensures.kept c.requires.served
