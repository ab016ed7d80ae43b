-- The replies of a port that keeps nothing under any key, but for what it answers to a `Get`.
use Rattle.std.specs.Prelude.{pos, List, [], ◌∷◌, Option, None, Some, slice_get, false}
use Rattle.bt_core.specs.declared.map.MapDecl.{MapDecl}
use Rattle.bt_core.specs.declared.map.MapKind.{MapKind}
use Rattle.bt_core.specs.declared.map.MapKind.TheVariants.{Ints, Strs, Aggs}
use Rattle.bt_core.specs.declared.step.ObjectId.{ObjectId}
use Rattle.bt_core.specs.declared.step.ObjectId.TheVariants.{Shared, Cpu, Clock, Out}
use Rattle.bt_core.specs.declared.step.Op.{Op}
use Rattle.bt_core.specs.declared.step.Op.TheVariants as ops
use Rattle.bt_core.specs.declared.step.Reply.{Reply}
use Rattle.bt_core.specs.declared.step.Reply.TheVariants as replies
use Rattle.bt_core.specs.declared.value.Value.{Value}
use Rattle.bt_core.specs.declared.value.Value.TheVariants.{Int, Str}

-- 7, or the string `ab`
abbrev pub value_of_kind : MapKind → Value
value_of_kind Strs = Str (97 ∷ 98 ∷ [])
value_of_kind Ints = Int (pos 7)
value_of_kind (Aggs kind) = Int (pos 7)

abbrev pub value_of_map : Option MapDecl → Value
value_of_map None = Int (pos 7)
value_of_map (Some decl) = value_of_kind decl.kind

abbrev pub shared_reply : Option MapDecl → Op → Reply
shared_reply decl (ops.Get key) = replies.Value (value_of_map decl)
shared_reply decl ops.ReadAll = replies.Pairs []
shared_reply decl op = replies.Done

abbrev pub table_reply : Op → Reply
table_reply (ops.Read m) = replies.Aggs []
table_reply op = replies.Done

abbrev pub clock_reply : Op → Reply
clock_reply (ops.Cross tick) = replies.Last false
clock_reply ops.Check = replies.Stopped false
clock_reply op = replies.Done

abbrev pub reply_of : List MapDecl → ObjectId → Op → Reply
reply_of maps (Shared m part) op = shared_reply (slice_get maps m.0) op
reply_of maps (Cpu actor) op = table_reply op
reply_of maps Clock op = clock_reply op
reply_of maps Out op = replies.Done
