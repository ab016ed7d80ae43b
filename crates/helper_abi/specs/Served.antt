-- What the port of helpers has to serve, and what reading answers.
use Rattle.std.specs.Prelude.{◌≡◌, ℕ, ◌<◌, IsTrue, List, Option, Some, None, Result, MatchResult, slice_get, IsSomeAnd}
use Rattle.std.specs.List.{list_all}
use Rattle.bt_core.specs.declared.map.MapDecl.{MapDecl}
use Rattle.bt_core.specs.declared.map.MapId.{MapId}
use Rattle.bt_core.specs.Ports.{Setting}
use Rattle.bpf_insn.specs.Regions.{is_in_frame}
use Rattle.bpf_interp.specs.declared.helper_calls.HelperFault.{HelperFault}
use Rattle.bpf_interp.specs.declared.helper_calls.HelperFault.TheVariants.{Address, Helper, Memory}
use Rattle.typed_tree.specs.declared.script.Typed.{Typed}
use Rattle.typed_tree.specs.Scope.{is_fine_decl}
use Rattle.helper_abi.specs.Helpers.{Desk}
use Rattle.helper_abi.specs.Reading.{shape_bytes, shape_of_kind}

-- the port serves these maps under their numbers, for this actor and so many actors
pub record IsFor (maps : List MapDecl) (actor actors : ℕ) (setting : Setting) : Type 0 where
  pub maps_are_served : setting.maps ≡ maps
  pub actor_is_the_ports : setting.actor ≡ actor
  pub actors_are_the_ports : setting.actors ≡ actors
  pub actor_is_below : actor < actors

-- what the helpers of an actor work on, of a typed script
abbrev pub desk_of : Typed → ℕ → ℕ → Desk
desk_of t actor actors = record { maps = t.maps; formats = t.formats; actor = actor; actors = actors }

-- the port serves these maps, whose declarations are well formed
pub record ServesMaps (maps : List MapDecl) (setting : Setting) : Type 0 where
  pub same : setting.maps ≡ maps
  pub fine : IsTrue (list_all is_fine_decl maps)

-- a served map holds what the frame has room for at an address
abbrev pub HasRoom : Setting → MapId → ℕ → Type 0
HasRoom setting m to = IsSomeAnd (slice_get setting.maps m.0) (λ decl. IsTrue (is_in_frame to (shape_bytes (shape_of_kind decl.kind))))

-- a bad address comes exactly where there is nothing to read, and want of memory may come anywhere
abbrev pub IsReadFault : {A : Type 0} → Option A → HelperFault → Type 0
IsReadFault r Address = r ≡ None
IsReadFault r Helper = ⊥
IsReadFault r (Memory _) = Unit {0}

-- what is read there
abbrev pub Reads : {A : Type 0} → Option A → Result A HelperFault → Type 0
Reads r result = MatchResult result (λ a. r ≡ Some a) (λ fault. IsReadFault r fault)
