-- What replies have.
use Rattle.std.proofs.Common.{List, Option, Some, None}
use Rattle.std.specs.Prelude.{IsSomeAnd}
use Rattle.bt_core.specs.declared.map.MapDecl.{MapDecl}
use Rattle.bt_core.specs.declared.step.Op.TheVariants.{Get}
use Rattle.bt_core.specs.declared.step.Reply.{Reply}
use Rattle.bt_core.specs.declared.step.Reply.TheVariants as replies
use Rattle.bt_core.specs.declared.value.Value.{Value}
use Rattle.bt_core.specs.Kinds.{IsOfKind}
use Rattle.bt_core.specs.Ports.{IsSharedReply}
use Rattle.map_ops.specs.Values.{value_of}

value_held : (decl : MapDecl) (key : List Value) (reply : Reply) → IsSharedReply decl (Get key) reply → IsOfKind decl.kind (value_of reply)
value_held decl key (replies.Value v) h = h
value_held decl key replies.Done h = absurd h
value_held decl key (replies.Pairs rows) h = absurd h
value_held decl key (replies.Aggs rows) h = absurd h
value_held decl key (replies.Last b) h = absurd h
value_held decl key (replies.Stopped b) h = absurd h

-- the value of a reply to a `Get` is one that the map can hold
pub value_served : (o : Option MapDecl) (key : List Value) (reply : Reply) → IsSomeAnd o (λ decl. IsSharedReply decl (Get key) reply) → IsSomeAnd o (λ decl. IsOfKind decl.kind (value_of reply))
value_served None key reply h = absurd h
value_served (Some decl) key reply h = value_held decl key reply h
