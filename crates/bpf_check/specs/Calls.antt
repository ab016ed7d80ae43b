-- What calls of helpers want of what is known of R1, R2 and R3.
use Rattle.std.specs.Prelude.{ℕ, Bool, true, false, ◌&&◌, cond, nat_le, nat_lt, ◌^◌, is_some, List, Option, Some, None, option_and_then}
use Rattle.bt_core.specs.declared.limits.TheConstants.{FRAME_BYTES}
use Rattle.bt_core.specs.declared.map.MapDecl.{MapDecl}
use Rattle.bpf_insn.specs.declared.address.TheConstants.{FRAME}
use Rattle.fmt_text.specs.Arguments.{argument_shapes}
use Rattle.fmt_text.specs.declared.piece.Piece.{Piece}
use Rattle.helper_abi.specs.declared.helper.Helper.{Helper}
use Rattle.helper_abi.specs.declared.helper.Helper.TheVariants.{Get, Set, Delete, Aggregate, Print, Clear, Zero, Printf, Exit, Cut, ReadStr, ReadAgg}
use Rattle.helper_abi.specs.Numbers.{helper_at}
use Rattle.helper_abi.specs.Reading.{shape_bytes, shape_of_kind, bytes_of_shapes}
use Rattle.helper_abi.specs.Helpers.{numbered, table_map, value_map, summed_map, are_shown}
use Rattle.bpf_check.specs.declared.known.Known.{Known}
use Rattle.bpf_check.specs.declared.known.Seen.{Seen}
use Rattle.bpf_check.specs.States.{known_of}
use Rattle.bpf_check.specs.Reading.{set_known, number_in, lies_in, may_store}

-- ---- addresses

abbrev pub in_frame : ℕ → Option ℕ → Bool
in_frame n None = false
in_frame n (Some address) = lies_in FRAME FRAME_BYTES address n

abbrev pub in_results : ℕ → Option ℕ → Bool
in_results n None = false
in_results n (Some address) = may_store address n

-- a register holds the address of so many bytes of the frame
abbrev pub at_frame : Known → ℕ → Bool
at_frame k n = in_frame n (number_in k)

-- it holds the address of so many bytes of the frame before the count of turns
abbrev pub at_results : Known → ℕ → Bool
at_results k n = in_results n (number_in k)

-- ---- maps and formats

-- what has a known number in a list
abbrev pub known_at : {A : Type 0} → List A → Known → Option A
known_at xs k = option_and_then (numbered xs) (number_in k)

-- the map of a known number where it holds whole numbers or strings, where it gathers numbers, or where it gathers them into one
abbrev pub known_value_map : List MapDecl → Known → Option MapDecl
known_value_map maps k = option_and_then (value_map maps) (number_in k)

abbrev pub known_table_map : List MapDecl → Known → Option MapDecl
known_table_map maps k = option_and_then (table_map maps) (number_in k)

abbrev pub known_summed_map : List MapDecl → Known → Option MapDecl
known_summed_map maps k = option_and_then (summed_map maps) (number_in k)

-- ---- each helper's arguments

abbrev pub is_key : MapDecl → Known → Bool
is_key decl key = at_frame key (bytes_of_shapes decl.key_shape)

-- so many bytes are those of a value of the map
abbrev pub held_bytes : MapDecl → ℕ
held_bytes decl = shape_bytes (shape_of_kind decl.kind)

abbrev pub get_fits : Option MapDecl → Known → Known → Bool
get_fits None key to = false
get_fits (Some decl) key to = is_key decl key && at_results to (held_bytes decl)

abbrev pub set_fits : Option MapDecl → Known → Known → Bool
set_fits None key value = false
set_fits (Some decl) key value = is_key decl key && at_frame value (held_bytes decl)

abbrev pub delete_fits : Option MapDecl → Known → Bool
delete_fits None key = false
delete_fits (Some decl) key = is_key decl key

abbrev pub add_fits : Option MapDecl → Known → Known → Bool
add_fits None key number = false
add_fits (Some decl) key number = is_key decl key && is_some (set_known number)

abbrev pub sum_fits : Option MapDecl → Known → Known → Bool
sum_fits None key to = false
sum_fits (Some decl) key to = is_key decl key && at_results to 8

-- at least 0 rows are kept, and the values divided by at least 1
abbrev pub limits_fit : Option ℕ → Option ℕ → Bool
limits_fit (Some top) (Some div) = are_shown top div
limits_fit top div = false

abbrev pub print_fits : Option MapDecl → Known → Known → Bool
print_fits map top div = is_some map && limits_fit (number_in top) (number_in div)

abbrev pub printf_fits : Option (List Piece) → Known → Bool
printf_fits None values = false
printf_fits (Some pieces) values = at_frame values (bytes_of_shapes (argument_shapes pieces))

abbrev pub is_line : Option ℕ → Bool
is_line None = false
is_line (Some line) = nat_lt line (2 ^ 32)

abbrev pub read_fits : Known → Known → Known → Bool
read_fits to place count = at_results to 64 && (is_some (set_known place) && is_some (set_known count))

abbrev pub helper_fits : List MapDecl → List (List Piece) → Known → Known → Known → Helper → Bool
helper_fits maps formats a b c Get = get_fits (known_value_map maps a) b c
helper_fits maps formats a b c Set = set_fits (known_value_map maps a) b c
helper_fits maps formats a b c Delete = delete_fits (known_value_map maps a) b
helper_fits maps formats a b c Aggregate = add_fits (known_table_map maps a) b c
helper_fits maps formats a b c Print = print_fits (known_at maps a) b c
helper_fits maps formats a b c Clear = is_some (known_at maps a)
helper_fits maps formats a b c Zero = is_some (known_at maps a)
helper_fits maps formats a b c Printf = printf_fits (known_at formats a) b
helper_fits maps formats a b c Exit = true
helper_fits maps formats a b c Cut = is_line (number_in a)
helper_fits maps formats a b c ReadStr = read_fits a b c
helper_fits maps formats a b c ReadAgg = sum_fits (known_summed_map maps a) b c

-- no other number is that of a helper
abbrev pub known_helper_fits : List MapDecl → List (List Piece) → Known → Known → Known → Option Helper → Bool
known_helper_fits maps formats a b c None = false
known_helper_fits maps formats a b c (Some helper) = helper_fits maps formats a b c helper

-- a call of a helper finds what it wants
abbrev pub call_fits : List MapDecl → List (List Piece) → ℕ → Seen → Bool
call_fits maps formats n s = known_helper_fits maps formats (known_of s 1) (known_of s 2) (known_of s 3) (helper_at n)

-- ---- counts of bytes

-- so many bytes where the frame may have them
abbrev pub in_bounds : ℕ → Option ℕ
in_bounds n = cond (nat_le n FRAME_BYTES) (Some n) None

abbrev pub at_some_frame : Known → Option ℕ → Bool
at_some_frame k None = false
at_some_frame k (Some n) = at_frame k n
