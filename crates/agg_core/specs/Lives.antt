-- Keys that live, by another road: through the put that made them live.
use Rattle.std.specs.Prelude.{◌≡◌, true, false, List, ◌∷◌, ◌++◌}
use Rattle.std.specs.List.{list_any}
use Rattle.bt_core.specs.declared.value.Value.{Value}
use Rattle.agg_core.specs.Changes.{Change, Puts, is_taken, ends}

-- among these changes, of which the last comes first, stands a put of the key that was taken and that nothing ended later
pub record IsPutForGood {V : Type 0} (changes : List (Change V)) (key : List Value) : Type 0 where
  pub later : List (Change V)
  pub given : V
  pub before : List (Change V)
  pub made : changes ≡ later ++ Puts key given ∷ before
  pub taken : is_taken before key ≡ true
  pub lasts : list_any (ends key) later ≡ false
