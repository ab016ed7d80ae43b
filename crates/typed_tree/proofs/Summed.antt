-- Aggregations that are one number.
use Rattle.std.proofs.Common.{◌≡◌, ◌&&◌, true, List, Option, Some, None, refl}
use Rattle.bt_core.specs.declared.map.MapDecl.{MapDecl}
use Rattle.bt_core.specs.declared.map.MapKind.{MapKind}
use Rattle.bt_core.specs.declared.map.MapKind.TheVariants.{Ints, Strs, Aggs}
use Rattle.bt_core.specs.declared.map.Shape.{Shape}
use Rattle.bt_core.specs.Kinds.{IsAggregation}
use Rattle.typed_tree.specs.Scope.{is_summed, is_summed_kind, is_there}

pub summed_there : (o : Option MapDecl) (keys : List Shape) → is_summed o keys ≡ true → is_there o ≡ true
summed_there None keys h = cc
summed_there (Some decl) keys h = refl

pub summed_kind : (kind : MapKind) → is_summed_kind kind ≡ true → IsAggregation kind
summed_kind Ints h = cc
summed_kind Strs h = cc
summed_kind (Aggs kind) h = tt
