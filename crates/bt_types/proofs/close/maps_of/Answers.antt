use Rattle.std.proofs.Common.{◌∙◌, ◌++◌, ◌∷◌, [], ℕ, List, map, take, ap, sym}
use Rattle.std.proofs.lemmas.List.{map_more, take_all}
use Rattle.bt_core.specs.declared.map.MapDecl.{MapDecl}
use Rattle.expr_types.specs.Known.{decl_in}
use Rattle.bt_types.specs.Script.{decl_or_none}
use Rattle.bt_types.proofs.close.maps_of.Goals as goal

pub loop-name-preserved : goal.loop-name-preserved
loop-name-preserved c =
    let seen = ap (λ (l : List MapDecl). l ++ c.in_ok-decl.decl ∷ []) c.loop-name.invariant in
    let here = ap (λ (d : MapDecl). map (λ (name : List ℕ). decl_or_none name (decl_in name c.args.known.now.decided)) (take c.loop-name.name-index c.as_slice-name-items.result.now) ++ d ∷ []) (c.in_ok-decl.ensures ∙ ap (λ (name : List ℕ). decl_or_none name (decl_in name c.args.known.now.decided)) c.name-item.is) in
    c.in_ok-push.ensures.ok ∙ (seen ∙ (here ∙ sym (map_more (λ (name : List ℕ). decl_or_none name (decl_in name c.args.known.now.decided)) c.as_slice-name-items.result.now c.loop-name.name-index c.name-item.result c.loop-name-test.true)))

pub returns : goal.returns
returns c =
    c.loop-name.invariant ∙ (ap (map (λ (name : List ℕ). decl_or_none name (decl_in name c.args.known.now.decided))) (take_all c.loop-name.name-index c.as_slice-name-items.result.now c.loop-name-test.false) ∙ ap (map (λ (name : List ℕ). decl_or_none name (decl_in name c.args.known.now.decided))) c.as_slice-name-items.ensures)
