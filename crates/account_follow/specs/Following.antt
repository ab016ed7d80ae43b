-- What goes with following an actor's program through a list of steps. No public contract speaks of it.
use Rattle.std.specs.Prelude.{◌≡◌, ℕ, suc, ◌≤◌, List, [], ◌++◌, map, take, drop, length, slice_get, slice_index_or, Option, None, Some, pos}
use Rattle.std.specs.List.{AllByRecursion}
use Rattle.bt_core.specs.declared.step.Step.{Step}
use Rattle.bt_core.specs.Ports.{Setting, IsReplyOf}
use Rattle.bt_core.specs.Steps.{of_actor}
use Rattle.bt_core.specs.declared.step.ObjectId.{ObjectId}
use Rattle.bt_core.specs.declared.step.ObjectId.TheVariants.{Shared}
use Rattle.bt_core.specs.declared.step.Op.{Op}
use Rattle.bt_core.specs.declared.step.Reply.{Reply}
use Rattle.bt_core.specs.declared.step.Reply.TheVariants.{Done, Value}
use Rattle.bt_core.specs.declared.map.MapDecl.{MapDecl}
use Rattle.bt_core.specs.declared.map.MapKind.{MapKind}
use Rattle.bt_core.specs.declared.map.MapKind.TheVariants.{Strs}
use Rattle.bt_core.specs.declared.value.Value.TheVariants.{Int, Str}
use Rattle.account_follow.specs.declared.follow.Walk.{Walk}
use Rattle.account_follow.specs.Followed.{AreStrays}
use Rattle.step_entries.specs.Blank.{blank_of}

-- what is seen of following: from where and how far the list was followed, and the steps that were made off it
pub record Seen : Type 0 where
  pub setting : Setting
  pub list : List Step
  pub from : ℕ
  pub at : ℕ
  pub strays : List Step

-- the steps of the list that were met, and then those that were made off it
abbrev pub steps_in : Seen → List Step
steps_in w = of_actor w.setting.actor (take w.at w.list) ++ w.strays

-- what of the list is before all that was followed
abbrev pub front_in : Seen → List Step
front_in w = take w.from w.list

-- the list but for the actor's items
abbrev pub blanks_in : Seen → List Step
blanks_in w = map (blank_of w.setting.actor) w.list

pub record IsFollowing (w : Seen) : Type 0 where
  pub behind : w.from ≤ w.at
  pub within : w.at ≤ length w.list
  pub replies : AllByRecursion (λ (s : Step). s.actor ≡ w.setting.actor → IsReplyOf w.setting.maps s.object s.op s.reply) w.list
  pub last_own : (n : ℕ) (d : Step) → w.at ≡ suc n → (slice_index_or w.list n d).actor ≡ w.setting.actor
  pub strays : AreStrays w.strays (of_actor w.setting.actor (drop w.at w.list))

abbrev pub setting_of : Walk → Setting
setting_of w = record { actor = w.actor; actors = w.actors; ticks = w.ticks; maps = w.maps }

abbrev pub seen_of : Walk → Seen
seen_of w = record { setting = setting_of w; list = w.list; from = w.from; at = w.at; strays = w.strays }

abbrev pub with_op : Op → Step → Step
with_op op s = record { actor = s.actor; object = s.object; stamp = s.stamp; op = op; reply = s.reply }

-- the value of a key that doesn't live, in a map that is declared so
abbrev pub empty_of : MapKind → Reply
empty_of Strs = Value (Str [])
empty_of kind = Value (Int (pos 0))

abbrev pub empty_by : Option MapDecl → Reply
empty_by None = Done
empty_by (Some decl) = empty_of decl.kind

abbrev pub value_where_empty : List MapDecl → ObjectId → Reply
value_where_empty maps (Shared m p) = empty_by (slice_get maps m.0)
value_where_empty maps object = Done
