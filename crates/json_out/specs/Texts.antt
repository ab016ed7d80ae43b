-- Byte strings and lists as JSON, and the line of a value.
use Rattle.std.specs.Prelude.{ℕ, List, ◌++◌, codes, encode_utf8_all}
use Rattle.serde_json.specs.Data.{Data, string, array}
use Rattle.serde_json.specs.View.{items_of}
use Rattle.serde_json.specs.Written.{compact_text}

-- the text whose characters have the numbers of these bytes, in UTF-8
abbrev pub text_of_bytes : List ℕ → List ℕ
text_of_bytes bytes = encode_utf8_all bytes

-- a byte string
abbrev pub text_data : List ℕ → Data
text_data bytes = string (text_of_bytes bytes)

abbrev pub list_data : List Data → Data
list_data items = array (items_of items)

-- a value without a space, and a newline
unfoldable pub json_line : Data → List ℕ
json_line value = compact_text value ++ codes "\n"
