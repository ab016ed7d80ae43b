-- What entries may name, as the setting of their steps.
use Rattle.bt_core.specs.Ports.{Setting}
use Rattle.account_format.specs.declared.scope.Scope.{Scope}

-- The setting of steps that are made in this scope. Whose steps they are is not told.
abbrev pub setting_in : Scope → Setting
setting_in s = record { actor = 0; actors = s.actors; ticks = s.ticks; maps = s.maps.now }
