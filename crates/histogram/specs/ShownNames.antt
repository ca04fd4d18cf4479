-- The names in a report.
use Rattle.std.specs.Prelude.{Bool, List, None, Option, Some, [], codes, false, flat_map, if◌then◌else◌, nat_le}
use Rattle.std.specs.Prelude.{nat_lt, not, ℕ, ◌%◌, ◌&&◌, ◌++◌, ◌+◌, ◌/◌, ◌==◌, ◌∷◌}
use Rattle.heap_graph.specs.ObjectGraph.{ObjectGraph, class_at}
use Rattle.std.specs.Fmt.{digits}
use Rattle.heap_graph.specs.declared.row.RowKey.{RowKey}
use Rattle.heap_graph.specs.declared.row.RowKey.TheVariants as keys

-- the hex digit of `n` below 16, in lower case
abbrev pub hex_digit : ℕ → ℕ
hex_digit n = if nat_lt n 10 then 48 + n else 87 + n

-- the bytes 0x21 to 0x7E other than the backslash
abbrev pub is_plain : ℕ → Bool
is_plain b = nat_le 0x21 b && nat_le b 0x7E && not (b == 0x5C)

-- a plain byte is shown as it is, any other as a backslash, an x and two hex digits
abbrev pub shown_byte : ℕ → List ℕ
shown_byte b = if is_plain b then b ∷ [] else 0x5C ∷ 0x78 ∷ hex_digit (b / 16) ∷ hex_digit (b % 16) ∷ []

abbrev pub shown_text : List ℕ → List ℕ
shown_text text = flat_map shown_byte text

-- a class without a text is shown by its identifier in hex without leading zeros
abbrev pub unnamed : ℕ → List ℕ
unnamed id = codes "?0x" ++ digits 16 false id

abbrev pub shown_class : ℕ → Option (List ℕ) → List ℕ
shown_class id None = unnamed id
shown_class id (Some text) = shown_text text

-- primitive arrays, by their type code
abbrev pub shown_primitive : ℕ → List ℕ
shown_primitive t =
    if t == 4 then codes "boolean[]" else (
    if t == 5 then codes "char[]" else (
    if t == 6 then codes "float[]" else (
    if t == 7 then codes "double[]" else (
    if t == 8 then codes "byte[]" else (
    if t == 9 then codes "short[]" else (
    if t == 10 then codes "int[]" else (
    codes "long[]")))))))

abbrev pub shown_row : ObjectGraph → RowKey → List ℕ
shown_row g (keys.Class n) = shown_class (class_at g n).id (class_at g n).text
shown_row g (keys.Primitive t) = shown_primitive t
shown_row g keys.ClassObject = codes "<class>"

-- the identifier of the row's class, or 0 if the row is no class
abbrev pub row_id : ObjectGraph → RowKey → ℕ
row_id g (keys.Class n) = (class_at g n).id
row_id g row = 0
