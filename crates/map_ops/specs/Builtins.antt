-- The builtins that are whole numbers: where each stands in a context, and its value.
use Rattle.std.specs.Prelude.{ℕ, ◌*◌, ℤ, slice_index}
use Rattle.std.specs.Int.{w64, cast_signed}
use Rattle.bt_core.specs.declared.context.Context.{Context}
use Rattle.event_record.specs.Contexts.{context_numbers}
use Rattle.typed_tree.specs.declared.expr.NumBuiltin.{NumBuiltin}
use Rattle.typed_tree.specs.declared.expr.NumBuiltin.TheVariants.{Pid, Tid, Uid, Gid, Cpu, Nsecs, Elapsed}

-- which of a context's numbers it is, counted from 0
abbrev pub builtin_index : NumBuiltin → ℕ
builtin_index Nsecs = 0
builtin_index Elapsed = 1
builtin_index Pid = 2
builtin_index Tid = 3
builtin_index Uid = 4
builtin_index Gid = 5
builtin_index Cpu = 6

-- the first of its eight bytes in a context
abbrev pub builtin_place : NumBuiltin → ℕ
builtin_place b = 8 * builtin_index b

-- its value: the number there, read as the signed number of its 64 bits
abbrev pub builtin_value : NumBuiltin → Context → ℤ
builtin_value b context = cast_signed w64 (slice_index (context_numbers context) (builtin_index b))
