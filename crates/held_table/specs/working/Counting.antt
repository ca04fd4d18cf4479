-- How lines change when an object is counted.
use Rattle.std.specs.Prelude.{List, [], if◌then◌else◌, length, map, slice_index_or, slice_set, true, ℕ}
use Rattle.std.specs.Prelude.{◌+◌, ◌<◌, ◌^◌, ◌≡◌, ◌∷◌}
use Rattle.std.specs.List.{IsDistinct}
use Rattle.held_table.specs.Tally.{same_line}
use Rattle.held_table.specs.declared.line.Key.{Key}
use Rattle.held_table.specs.declared.line.Line.{Line}
use Rattle.held_table.specs.declared.tally.Tally.{Tally}

-- one object of `bytes` bytes
abbrev pub one_object : Key → ℕ → Line
one_object key bytes =
    record { set = key.set; row = key.row; remainder = key.remainder; count = 1; bytes = bytes }

-- `l` with the objects of `x` too
abbrev pub joined : Line → Line → Line
joined l x =
    record { set = l.set; row = l.row; remainder = l.remainder; count = l.count + x.count; bytes = l.bytes + x.bytes }

-- `lines` with the objects of `x` too: in the line of the same key, or in a new one at the end
abbrev pub add_line : Line → List Line → List Line
add_line x [] = x ∷ []
add_line x (l ∷ ls) = if same_line x l then joined l x ∷ ls else l ∷ add_line x ls

-- the line at a place, or one without objects past the end
abbrev pub line_at : List Line → ℕ → Line
line_at lines place = slice_index_or lines place (record { set = 0; row = 0; remainder = 0; count = 0; bytes = 0 })

-- `l` with one more object of `bytes` bytes
abbrev pub with_one : Line → ℕ → Line
with_one l bytes =
    record { set = l.set; row = l.row; remainder = l.remainder; count = l.count + 1; bytes = l.bytes + bytes }

abbrev pub counted_at : List Line → ℕ → ℕ → List Line
counted_at lines place bytes = slice_set lines place (with_one (line_at lines place) bytes)

abbrev pub key_of : Line → Key
key_of l = record { set = l.set; row = l.row; remainder = l.remainder }

-- one more object can be counted in `l`
abbrev pub HasRoom : Line → Type 0
HasRoom l = (l.count < 2 ^ 63) × (l.bytes < 2 ^ 63)

-- the keys are those of the lines, which differ
pub record IsCounted {A : Type 0} (t : Tally A) : Type 0 where
  pub keys_are : t.keys.keys ≡ map key_of t.lines.items
  pub once : IsDistinct same_line t.lines.items

-- the line that was counted in last is that of `key`
abbrev pub IsLast : {A : Type 0} → Tally A → Key → Type 0
IsLast t key = (t.last < length t.lines.items) × (same_line (one_object key 0) (line_at t.lines.items t.last) ≡ true)
