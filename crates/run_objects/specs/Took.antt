-- What an operation at an object of a run leaves. No public contract speaks of it.
use Rattle.std.specs.Prelude.{◌≡◌, ℕ, suc, max, List, [], ◌∷◌, ◌++◌, slice_index_or, slice_set, Result, IfOk, OnOk, OnErr}
use Rattle.bt_core.specs.declared.memory.Memory.{Memory}
use Rattle.bt_core.specs.declared.step.Op.{Op}
use Rattle.bt_core.specs.declared.step.Reply.{Reply}
use Rattle.run_objects.specs.declared.own.OwnObject.{OwnObject}

-- objects of a type, by their kinds, the operations that they stand for, and what they reply
module _ {O K : Type 0} (kind_of : O → K) (holds : O → List Op → Type 0) (replies_to : K → List Op → Op → Reply) where
  -- an operation with this clock of its actor was asked of an object, which wrote this reply and told its stamp
  pub record Took (op : Op) (floor : ℕ) (old new : OwnObject O) (reply : Reply) (result : Result ℕ Memory) : Type 0 where
    pub kind : kind_of new.object ≡ kind_of old.object
    pub replies : OnOk result ((before : List Op) → holds old.object before → reply ≡ replies_to (kind_of old.object) before op)
    pub taken : OnOk result ((before : List Op) → holds old.object before → holds new.object (before ++ op ∷ []))
    pub stamp : IfOk result (λ stamp. stamp ≡ suc (max floor old.clock))
    pub clock : IfOk result (λ stamp. new.clock ≡ stamp)
    pub memory : OnErr result ((before : List Op) → holds old.object before → holds new.object before)
    pub same : OnErr result (new.clock ≡ old.clock)

  -- it was asked of the object at this place
  pub record TookAt (op : Op) (floor place : ℕ) (old new : List (OwnObject O)) (reply : Reply) (result : Result ℕ Memory) : Type 0 where
    pub one : OwnObject O
    pub other : OwnObject O
    pub was : slice_index_or old place one ≡ one
    pub now : new ≡ slice_set old place other
    pub took : Took op floor one other reply result
