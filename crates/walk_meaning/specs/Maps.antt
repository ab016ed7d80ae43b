-- What is done to variables and maps.
use Rattle.std.specs.Prelude.{ℕ, ℤ, List, slice_get, slice_set}
use Rattle.bt_core.specs.declared.map.MapDecl.{MapDecl}
use Rattle.bt_core.specs.declared.map.MapId.{MapId}
use Rattle.bt_core.specs.declared.map.MapKind.{MapKind}
use Rattle.bt_core.specs.declared.step.ObjectId.TheVariants.{Cpu}
use Rattle.bt_core.specs.declared.step.Op.TheVariants as ops
use Rattle.bt_core.specs.declared.value.Value.{Value}
use Rattle.typed_tree.specs.Scope.{decl_of}
use Rattle.map_ops.specs.Asking.{tells, got, summed}
use Rattle.map_ops.specs.Holders.{part, kind_in}
use Rattle.map_ops.specs.Values.{number_of, text_of, or_zero}
use Rattle.walk_meaning.specs.declared.flow.Frame.{Frame}
use Rattle.walk_meaning.specs.Does.{Does, looked_at, changed, lifted}

-- a variable by its number
abbrev pub variable : ℕ → Frame → Value
variable number frame = or_zero (slice_get frame.variables number)

abbrev pub with_variable : ℕ → Value → Frame → Frame
with_variable number value frame = record frame { variables = slice_set frame.variables number value }

abbrev pub number_variable : ℕ → Does ℤ
number_variable number = looked_at (λ scene frame. number_of (variable number frame))

abbrev pub text_variable : ℕ → Does (List ℕ)
text_variable number = looked_at (λ scene frame. text_of (variable number frame))

abbrev pub assigned : ℕ → Value → Does (Unit {0})
assigned number value = changed (with_variable number value)

-- the value under a key is read, set, or taken away
abbrev pub get : MapId → List Value → Does Value
get m key = lifted (λ scene. got m key)

abbrev pub set : MapId → List Value → Value → Does (Unit {0})
set m key value = lifted (λ scene. tells (part m key) (ops.Set key value))

abbrev pub delete : MapId → List Value → Does (Unit {0})
delete m key = lifted (λ scene. tells (part m key) (ops.Delete key))

-- a number goes to the table of the run's actor
abbrev pub add : MapId → List Value → ℤ → Does (Unit {0})
add m key n = lifted (λ scene. tells (Cpu scene.actor) (ops.Add m key n))

-- what a map holds, by the body's list
abbrev pub kind_in_body : MapId → List (MapId × MapDecl) → MapKind
kind_in_body m maps = kind_in (decl_of m.0 maps)

-- the number of an aggregation under a key, over the tables of all actors
abbrev pub sum_at : MapId → List Value → Does ℤ
sum_at m key = lifted (λ scene. summed m key scene.actors)
