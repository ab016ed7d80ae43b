-- Why a step at a part may be refused.
use Rattle.std.specs.Prelude.{◌≡◌, ℕ, List, slice_get, Some}
use Rattle.bt_core.specs.declared.step.ObjectId.{ObjectId}
use Rattle.bt_core.specs.declared.step.Op.{Op}
use Rattle.bt_core.specs.Ports.{IsSharedOp}
use Rattle.agg_core.specs.Answers.{shared_answer}
use Rattle.turn_lock.specs.declared.turn.Turn.{Turn}
use Rattle.turn_lock.specs.History.{Law}
use Rattle.stamped.specs.SetEnds.{law_for}
use Rattle.stamped.specs.SetSteps.{IsRefused, AtPlace}
use Rattle.step_objects.specs.declared.shared.PartKind.{PartKind}
use Rattle.step_objects.specs.Free.{IsSharedFree}
use Rattle.shared_maps.specs.Parts.{Part}

-- what makes a history of a part legal, with so many actors
abbrev pub part_law : ℕ → PartKind → Law
part_law actors kind = law_for (λ (of : PartKind). IsSharedOp of.decl) (λ (of : PartKind). shared_answer of.decl.kind) actors kind

-- the turn at the object has seen on in a legal history, and the operation is not free after it, or a clock stands at its end
pub record RefusesAt (actors : ℕ) (parts : List Part) (object : ObjectId) (floor : ℕ) (op : Op) (old new : List Turn) : Type 0 where
  pub place : ℕ
  pub kind : PartKind
  pub there : slice_get parts place ≡ Some (object, kind)
  pub refused : AtPlace (IsRefused (part_law actors kind) IsSharedFree floor op) place old new
