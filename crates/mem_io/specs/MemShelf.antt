-- Files that are held in memory.
use Rattle.std.specs.Prelude.{ℕ, if◌then◌else◌, nat_le, List, length, find, Option, None, Some, Result, Ok, Err, String, string_bytes, bytes_eq, Vec}
use Rattle.std.specs.Option.{option_map}
use Rattle.std.specs.declared.alloc.Global.{Global}
use Rattle.bt_io.specs.Calls.{one_more}
use Rattle.mem_io.specs.Calls.{is_listed}
use Rattle.bt_io.specs.declared.shelf.ShelfError.{ShelfError}
use Rattle.bt_io.specs.declared.shelf.ShelfError.TheVariants.{Failed, TooLong}

-- a file: its name and its bytes
pub record NamedFile : Type 0 where
  pub name : List ℕ
  pub bytes : List ℕ

-- a shelf in memory: its files, the numbers of the calls that fail, how many calls and how many
-- faults there were, the names that were asked for, and those whose reads failed
pub record ShelfState : Type 0 where
  pub files : List NamedFile
  pub failing : List ℕ
  pub calls : ℕ
  pub faults : ℕ
  pub asked : List (List ℕ)
  pub failed : List (List ℕ)

-- the file of a name and bytes as a program holds them
abbrev pub file_of : String Global × Vec ℕ Global → NamedFile
file_of file = record { name = string_bytes file.0; bytes = file.1.items }

-- the bytes of the first file that has this name
abbrev pub file_named : List ℕ → List NamedFile → Option (List ℕ)
file_named name files = option_map (λ file. file.bytes) (find (λ file. bytes_eq file.name name) files)

-- bytes that must be held, and be at most `limit`
abbrev pub bytes_within : ℕ → Option (List ℕ) → Result (List ℕ) ShelfError
bytes_within limit None = Err Failed
bytes_within limit (Some bytes) = if nat_le (length bytes) limit then Ok bytes else Err TooLong

-- what the next call answers where there is room: a listed call fails, and every other answers the
-- bytes under the name, which must be at most `limit`
abbrev pub reads_of : ShelfState → List ℕ → ℕ → Result (List ℕ) ShelfError
reads_of shelf name limit =
    if is_listed (one_more shelf.calls) shelf.failing then Err Failed else bytes_within limit (file_named name shelf.files)
