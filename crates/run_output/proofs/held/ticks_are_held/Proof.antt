-- The function does nothing: what it ensures is what the type of its argument says.
use Rattle.std.proofs.Common.{[], ◌∷◌, refl}
use Rattle.std.proofs.raw_atomic.Walks.{proved}
use base.Fml.{ftrue, flft}
use mir.Syntax.{named}
use mir.Val.{vunit}
use contract.Monad.{fact}
use types.Kit.{‵, raw, ◌⊛◌, ◌$◌, ◌∵◌, !, qed, done, move, keep, use1, split, join, feq_i, suffices}
use types.Run.{enter, of_opd, unit_lit, returns}
use types.ByLocal.{alloc_all, pass_all, free_all, look_at, sets}
use denote.Builtin.{RefOf}
use denote.Exit.{yes}
use denote.Known.{Known, shr_known}
use denote.RattleType.{RattleType}
use denote.Ref.{ShrRef, shr_vals, shr_Tells}
use denote.Signature.{plain}
use denote.Steps.{nothing, heard}
use denote.Triple.Walked.{Stays, walk_of, says, stay_dropped, Goes-dropped, ends_at}
use Rattle.run_output.proofs.ItemsKnown.{items_known}
use Rattle.run_output.proofs.TypesSay.{tick_known, ticks_held}
use Rattle.bt_core.specs.contracts.items.Items as items
use Rattle.bt_ast.specs.contracts.attached.Tick as tick
use Rattle.run_output.specs.contracts.held.ticks_are_held as f
use Rattle.run_output.proofs.held.ticks_are_held.Statement.{statement}
use Rattle.run_output.proofs.held.ticks_are_held.Code as code

abbrev row : RattleType
row = items.the_row tick.the_row

abbrev stayed : Stays f.ended.signature.params f.ended.kept
stayed = (stay_dropped _ yes, tt)

pub ticks_are_held_spec : {M : Type 1} → statement M
ticks_are_held_spec {M} 𝓤 𝓛 𝓜 𝓡 wired =
    let c = f.clauses 𝓛 𝓜.mem 𝓡.returns in let W = walk_of 𝓛 f.ended stayed c in
    proved 𝓛 f.ended stayed c 𝓜 𝓡 (Goes-dropped 𝓛 1 (RefOf (0 ∷ []) tt (plain (λ _. row)) (λ _. tt)) yes (λ κs x w. refl), tt)
    f.Key.name code.function (code.unfolded 𝓤 𝓛.H 𝓜 𝓡 wired)
    (λ κs. (shr_vals, tt)) (λ κs. (shr_Tells (named 0) κs.0 row, tt)) (λ κs qs bounds a n are.
    let κ = κs.0 in let q = qs.0 in let all = a.0 in
    let y : W.Ghost = ((κs, qs, bounds, a, (shr_vals all, tt)), tt) in
    let known : Known (ShrRef (named 0) κ row) = shr_known row (items_known tick.the_row tick_known) (named 0) κ in
    qed 𝓛 (((‵ (flft κ q) ⊛ ‵ ftrue) ⊛ ‵ ((ShrRef (named 0) κ row).own_val all (shr_vals all)) ⊛ ‵ ftrue) ∷ ‵ ftrue ∷ []) ∵
    -- [what the reference owns; the token of its lifetime]
    split ! $ split ! $ move ! (2 ∷ []) $ split ! $ keep ! (0 ∷ 2 ∷ []) $
    use1 𝓛 (raw (fact 𝓤 (known.Fact all))) ((known.owned all (shr_vals all)).go M 𝓤 𝓛) $ heard ! _ (λ told.
    enter ! _ _ _ _ _ $ alloc_all ! (λ l. pass_all ! refl ((tt, tt), tt) $
    sets ! (of_opd ! (unit_lit !)) refl (tt, tt) $
    returns ! (look_at ! 0 refl) $ free_all ! refl $
    suffices ! _ (ends_at 𝓛 f.ended stayed c y vunit tt (tt, tt) (tt, tt)) $ says ! (ticks_held all.now told) $
    feq_i ! _ (vunit ∷ []) _ refl $ nothing ! $ nothing ! $ join ! $ nothing ! $ move ! (3 ∷ 0 ∷ []) $ join ! $ done !)))
