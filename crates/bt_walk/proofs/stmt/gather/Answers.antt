use Rattle.std.proofs.Common.{pos, SFits, w64, rules, ◌∙◌}
use Rattle.std.proofs.lemmas.Int.{to_z-of_z}
use Rattle.std.proofs.lemmas.Result.{err_from_is_err_and}
use Rattle.typed_tree.specs.Parts.{key_shapes}
use Rattle.walk_meaning.specs.Served.{all_made}
use Rattle.bt_walk.proofs.Binds.{Part-first, Part-next, Walked-next, Walked-given, Lifted-walked, Stopped}
use Rattle.walk_meaning.proofs.Declared.{gathering, add_can}
use Rattle.walk_meaning.proofs.TreeParts.{gather_head}
use Rattle.bt_walk.proofs.Statements.{gather_split}
use Rattle.bt_walk.proofs.Fitting.{served_still}
use Rattle.bt_walk.proofs.stmt.gather.Goals as goal

pub key-requires-clause-few : goal.key-requires-clause-few
key-requires-clause-few g c =
    let found = gathering c.args.view.now (g.P.Port.fixed c.args.port.now).setting c.args.map (key_shapes (all_made c.args.keys.now)) c.args.kind c.requires.served (gather_head c.args.view.now c.args.map (all_made c.args.keys.now) c.args.kind c.args.number.now c.requires.fits) in found.few

pub returns-in_err-key-clause-walked : goal.returns-in_err-key-clause-walked
returns-in_err-key-clause-walked g c =
    let p = err_from_is_err_and c.from_residual.result c.from_residual.ensures.1 in
    Stopped _ _ _ _ p.1 (Part-first _ _ _ _ _ _ c.in_err-key.ensures.walked)

pub returns-in_err-n-clause-walked : goal.returns-in_err-n-clause-walked
returns-in_err-n-clause-walked g c =
    let p = err_from_is_err_and c.from_residual-in_err-n.result c.from_residual-in_err-n.ensures.1 in
    Stopped _ _ _ _ p.1 (Part-next _ _ _ _ _ _ _ _ c.in_ok-key.ensures.walked _ (Part-first _ _ _ _ _ _ c.in_err-n.ensures.walked))

pub tell-added-requires : goal.tell-added-requires
tell-added-requires g c =
    let found = gathering c.args.view.now (g.P.Port.fixed c.args.port.now).setting c.args.map (key_shapes (all_made c.args.keys.now)) c.args.kind c.requires.served (gather_head c.args.view.now c.args.map (all_made c.args.keys.now) c.args.kind c.args.number.now c.requires.fits) in
    rw (c.in_ok-n.ensures.kept, c.in_ok-key.ensures.kept) (add_can _ _ _ _ _ (pos 0) c.requires.served found c.in_ok-key.ensures.shaped)

pub returns-clause-walked : goal.returns-clause-walked
returns-clause-walked g c =
    let fn : SFits w64 c.in_ok-n.n = search rules in
    let told = simp to_z-of_z at c.tell-added.ensures.performed in
    Walked-next _ _ _ _ _ _ _ _ c.in_ok-key.ensures.walked _ _ _ (Walked-next _ _ _ _ _ _ _ _ c.in_ok-n.ensures.walked _ _ _ (Walked-given _ _ _ _ _ _ _ _ _ c.next_after.ensures (Lifted-walked _ _ _ _ _ _ told)))

pub key-requires-clause-fits : goal.key-requires-clause-fits
key-requires-clause-fits g c = (gather_split c.args.view.now c.args.map (all_made c.args.keys.now) c.args.kind c.args.number.now c.requires.fits).0

pub number_or_one-requires-clause-fits : goal.number_or_one-requires-clause-fits
number_or_one-requires-clause-fits g c = (gather_split c.args.view.now c.args.map (all_made c.args.keys.now) c.args.kind c.args.number.now c.requires.fits).1

pub returns-in_err-key-clause-kept : goal.returns-in_err-key-clause-kept
returns-in_err-key-clause-kept g c = c.in_err-key.ensures.kept

pub returns-in_err-n-clause-kept : goal.returns-in_err-n-clause-kept
returns-in_err-n-clause-kept g c = c.in_err-n.ensures.kept ∙ c.in_ok-key.ensures.kept

pub returns-clause-kept : goal.returns-clause-kept
returns-clause-kept g c = c.tell-added.ensures.kept ∙ (c.in_ok-n.ensures.kept ∙ c.in_ok-key.ensures.kept)

pub returns-in_err-key-clause-turns : goal.returns-in_err-key-clause-turns
returns-in_err-key-clause-turns g c = c.in_err-key.ensures.turns

pub returns-in_err-n-clause-turns : goal.returns-in_err-n-clause-turns
returns-in_err-n-clause-turns g c = c.in_err-n.ensures.turns ∙ c.in_ok-key.ensures.turns

pub returns-clause-turns : goal.returns-clause-turns
returns-clause-turns g c = c.in_ok-n.ensures.turns ∙ c.in_ok-key.ensures.turns

pub key-requires-clause-served : goal.key-requires-clause-served
key-requires-clause-served g c = c.requires.served

pub number_or_one-requires-clause-served : goal.number_or_one-requires-clause-served
number_or_one-requires-clause-served g c = served_still c.args.view.now _ _ c.in_ok-key.ensures.kept c.requires.served
