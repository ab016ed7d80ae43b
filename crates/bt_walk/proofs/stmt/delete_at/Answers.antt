use Rattle.std.proofs.Common.{◌∙◌}
use Rattle.std.proofs.lemmas.Result.{err_from_is_err_and}
use Rattle.typed_tree.specs.Parts.{key_shapes}
use Rattle.walk_meaning.specs.Served.{all_made}
use Rattle.bt_walk.proofs.Binds.{Part-first, Walked-next, Walked-given, Stopped}
use Rattle.walk_meaning.proofs.Declared.{shared, delete_can}
use Rattle.walk_meaning.proofs.TreeParts.{delete_head}
use Rattle.bt_walk.proofs.stmt.delete_at.Goals as goal

pub key-requires-clause-few : goal.key-requires-clause-few
key-requires-clause-few g c =
    let found = shared c.args.view.now (g.P.Port.fixed c.args.port.now).setting c.args.map (key_shapes (all_made c.args.keys.now)) c.requires.served (delete_head c.args.view.now c.args.map (all_made c.args.keys.now) c.requires.fits) in found.few

pub returns-in_err-key-clause-walked : goal.returns-in_err-key-clause-walked
returns-in_err-key-clause-walked g c =
    let p = err_from_is_err_and c.from_residual.result c.from_residual.ensures.1 in
    Stopped _ _ _ _ p.1 (Part-first _ _ _ _ _ _ c.in_err-key.ensures.walked)

pub delete-requires : goal.delete-requires
delete-requires g c =
    let found = shared c.args.view.now (g.P.Port.fixed c.args.port.now).setting c.args.map (key_shapes (all_made c.args.keys.now)) c.requires.served (delete_head c.args.view.now c.args.map (all_made c.args.keys.now) c.requires.fits) in
    rw c.in_ok-key.ensures.kept (delete_can _ _ _ _ found c.in_ok-key.ensures.shaped)

pub returns-clause-walked : goal.returns-clause-walked
returns-clause-walked g c =
    Walked-next _ _ _ _ _ _ _ _ c.in_ok-key.ensures.walked _ _ _ (Walked-given _ _ _ _ _ _ _ _ _ c.next_after.ensures (c.delete.ensures.made _ _))

pub returns-in_err-key-clause-kept : goal.returns-in_err-key-clause-kept
returns-in_err-key-clause-kept g c = c.in_err-key.ensures.kept

pub returns-clause-kept : goal.returns-clause-kept
returns-clause-kept g c = c.delete.ensures.kept ∙ c.in_ok-key.ensures.kept

pub returns-in_err-key-clause-turns : goal.returns-in_err-key-clause-turns
returns-in_err-key-clause-turns g c = c.in_err-key.ensures.turns

pub returns-clause-turns : goal.returns-clause-turns
returns-clause-turns g c = c.in_ok-key.ensures.turns

pub key-requires-clause-served : goal.key-requires-clause-served
key-requires-clause-served g c = c.requires.served
