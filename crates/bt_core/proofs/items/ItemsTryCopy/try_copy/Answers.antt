use Rattle.std.proofs.Common.{◌≡◌, ℕ, ◌+◌, ◌<◌, List, [], ◌∷◌, ◌++◌, length, take, get_or, sym, ◌∙◌, take_all}
use Rattle.std.proofs.lemmas.List.{take_more}
use Rattle.std.proofs.lemmas.Result.{IfOk-from_err}
use Rattle.bt_core.proofs.items.ItemsTryCopy.try_copy.Goals as goal

-- one item more was copied
copied_more : {T : Type 0} (xs list new : List T) (i : ℕ) (x y : T) → i < length xs → y ≡ get_or xs i y → list ≡ take i xs → x ≡ y → new ≡ list ++ x ∷ [] → new ≡ take (i + 1) xs
copied_more xs list new i x y h is before copied pushed = pushed ∙ (λ j. before j ++ (copied ∙ is) j ∷ []) ∙ sym (take_more xs i y h)

pub loop-item-init : goal.loop-item-init
loop-item-init g c = c.in_ok-list.ensures.items

pub loop-item-preserved : goal.loop-item-preserved
loop-item-preserved g c =
    copied_more c.deref-item-items.result.now c.loop-item.list.items c.push.new.self.items c.loop-item.item-index c.in_ok-try_copy.field-0 c.item-item.result
    c.loop-item-test.true c.item-item.is c.loop-item.invariant c.in_ok-try_copy.ensures c.in_ok-push.ensures.items

pub returns : goal.returns
returns g c =
    c.loop-item.invariant ∙ take_all c.loop-item.item-index c.deref-item-items.result.now c.loop-item-test.false ∙ c.deref-item-items.ensures.value ∙ c.self.view_is

pub returns-in_err-list : goal.returns-in_err-list
returns-in_err-list g c = IfOk-from_err c.from_residual.result _ c.from_residual.ensures.0

pub returns-in_err-push : goal.returns-in_err-push
returns-in_err-push g c = IfOk-from_err c.from_residual-in_err-push.result _ c.from_residual-in_err-push.ensures.0

pub returns-in_err-try_copy : goal.returns-in_err-try_copy
returns-in_err-try_copy g c = IfOk-from_err c.from_residual-in_err-try_copy.result _ c.from_residual-in_err-try_copy.ensures.0
