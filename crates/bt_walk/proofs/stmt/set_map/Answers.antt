use Rattle.std.proofs.Common.{◌∙◌}
use Rattle.std.proofs.lemmas.Result.{err_from_is_err_and}
use Rattle.typed_tree.specs.Parts.{made_of, key_shapes}
use Rattle.walk_meaning.specs.Served.{all_made}
use Rattle.bt_walk.proofs.Binds.{Part-first, Part-next, Walked-next, Walked-given, Stopped}
use Rattle.walk_meaning.proofs.Declared.{valued, set_can}
use Rattle.walk_meaning.proofs.TreeParts.{set_head}
use Rattle.bt_walk.proofs.Statements.{set_split}
use Rattle.bt_walk.proofs.Fitting.{served_still}
use Rattle.bt_walk.proofs.stmt.set_map.Goals as goal

pub key-requires-clause-few : goal.key-requires-clause-few
key-requires-clause-few g c =
    let found = valued c.args.view.now (g.P.Port.fixed c.args.port.now).setting c.args.map (key_shapes (all_made c.args.keys.now)) (made_of c.args.e.now).shape c.requires.served (set_head c.args.view.now c.args.map (all_made c.args.keys.now) (made_of c.args.e.now) c.requires.fits) in found.few

pub returns-in_err-key-clause-walked : goal.returns-in_err-key-clause-walked
returns-in_err-key-clause-walked g c =
    let p = err_from_is_err_and c.from_residual.result c.from_residual.ensures.1 in
    Stopped _ _ _ _ p.1 (Part-first _ _ _ _ _ _ c.in_err-key.ensures.walked)

pub returns-in_err-value-clause-walked : goal.returns-in_err-value-clause-walked
returns-in_err-value-clause-walked g c =
    let p = err_from_is_err_and c.from_residual-in_err-value.result c.from_residual-in_err-value.ensures.1 in
    Stopped _ _ _ _ p.1 (Part-next _ _ _ _ _ _ _ _ c.in_ok-key.ensures.walked _ (Part-first _ _ _ _ _ _ c.in_err-value.ensures.walked))

pub set-requires : goal.set-requires
set-requires g c =
    let found = valued c.args.view.now (g.P.Port.fixed c.args.port.now).setting c.args.map (key_shapes (all_made c.args.keys.now)) (made_of c.args.e.now).shape c.requires.served (set_head c.args.view.now c.args.map (all_made c.args.keys.now) (made_of c.args.e.now) c.requires.fits) in
    rw (c.in_ok-value.ensures.kept, c.in_ok-key.ensures.kept) (set_can _ _ _ _ _ _ found c.in_ok-key.ensures.shaped c.in_ok-value.ensures.shaped)

pub returns-clause-walked : goal.returns-clause-walked
returns-clause-walked g c =
    Walked-next _ _ _ _ _ _ _ _ c.in_ok-key.ensures.walked _ _ _ (Walked-next _ _ _ _ _ _ _ _ c.in_ok-value.ensures.walked _ _ _ (Walked-given _ _ _ _ _ _ _ _ _ c.next_after.ensures (c.set.ensures.made _ _)))

pub key-requires-clause-fits : goal.key-requires-clause-fits
key-requires-clause-fits g c = (set_split c.args.view.now c.args.map (all_made c.args.keys.now) (made_of c.args.e.now) c.requires.fits).0

pub value-requires-clause-fits : goal.value-requires-clause-fits
value-requires-clause-fits g c = (set_split c.args.view.now c.args.map (all_made c.args.keys.now) (made_of c.args.e.now) c.requires.fits).1

pub returns-in_err-key-clause-kept : goal.returns-in_err-key-clause-kept
returns-in_err-key-clause-kept g c = c.in_err-key.ensures.kept

pub returns-in_err-value-clause-kept : goal.returns-in_err-value-clause-kept
returns-in_err-value-clause-kept g c = c.in_err-value.ensures.kept ∙ c.in_ok-key.ensures.kept

pub returns-clause-kept : goal.returns-clause-kept
returns-clause-kept g c = c.set.ensures.kept ∙ (c.in_ok-value.ensures.kept ∙ c.in_ok-key.ensures.kept)

pub returns-in_err-key-clause-turns : goal.returns-in_err-key-clause-turns
returns-in_err-key-clause-turns g c = c.in_err-key.ensures.turns

pub returns-in_err-value-clause-turns : goal.returns-in_err-value-clause-turns
returns-in_err-value-clause-turns g c = c.in_err-value.ensures.turns ∙ c.in_ok-key.ensures.turns

pub returns-clause-turns : goal.returns-clause-turns
returns-clause-turns g c = c.in_ok-value.ensures.turns ∙ c.in_ok-key.ensures.turns

pub key-requires-clause-served : goal.key-requires-clause-served
key-requires-clause-served g c = c.requires.served

pub value-requires-clause-served : goal.value-requires-clause-served
value-requires-clause-served g c = served_still c.args.view.now _ _ c.in_ok-key.ensures.kept c.requires.served
