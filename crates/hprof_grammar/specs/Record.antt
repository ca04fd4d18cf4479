-- The records of a file, after its header: a tag, a time, a length, and a body of that length.
use Rattle.std.specs.Prelude.{Bool, List, [], false, flat_map, if◌then◌else◌, length, nat_le, true, ℕ}
use Rattle.std.specs.Prelude.{◌*◌, ◌++◌, ◌+◌, ◌<◌, ◌==◌, ◌^◌, ◌||◌, ◌∷◌, ◌≡◌}
use Rattle.std.specs.List.{AllByRecursion}
use Rattle.byteorder.specs.Endian.{big_bytes}
use Rattle.hprof_grammar.specs.SubRecord.{IsSubRecord, SubRecord, spelling_of}

pub data Record : Type 0 where
  -- STRING IN UTF8, 0x01: an ID and the text
  string : (time id : ℕ) (text : List ℕ) → Record
  -- LOAD CLASS, 0x02: the class's serial number, its object ID, a stack trace's serial number, the ID of its name
  load_class : (time serial class stack name : ℕ) → Record
  -- HEAP DUMP, 0x0C, or HEAP DUMP SEGMENT, 0x1C: whole sub-records
  heap : (tag time : ℕ) (subs : List SubRecord) → Record
  -- HEAP DUMP END, 0x2C, and every record that is skipped by its length
  other : (tag time : ℕ) (body : List ℕ) → Record

-- u1 tag, u4 microseconds since the header's time, u4 length, and `length` bytes
abbrev pub framed : ℕ → ℕ → List ℕ → List ℕ
framed tag time body = tag ∷ big_bytes 4 time ++ (big_bytes 4 (length body) ++ body)

abbrev pub tag_of : Record → ℕ
tag_of (string time id text) = 0x01
tag_of (load_class time serial class stack name) = 0x02
tag_of (heap tag time subs) = tag
tag_of (other tag time body) = tag

abbrev pub time_of : Record → ℕ
time_of (string time id text) = time
time_of (load_class time serial class stack name) = time
time_of (heap tag time subs) = time
time_of (other tag time body) = time

abbrev pub subs_of : Record → List SubRecord
subs_of (heap tag time subs) = subs
subs_of r = []

abbrev pub body_of : ℕ → Record → List ℕ
body_of s (string time id text) = big_bytes s id ++ text
body_of s (load_class time serial class stack name) =
    big_bytes 4 serial ++ (big_bytes s class ++ (big_bytes 4 stack ++ big_bytes s name))
body_of s (heap tag time subs) = flat_map (spelling_of s) subs
body_of s (other tag time body) = body

-- the lengths that the body of a record may have: STRING IN UTF8 (0x01) has at least its ID, LOAD CLASS (0x02) two IDs
-- and two u4, HEAP DUMP END (0x2C) nothing; any other record any length
unfoldable pub is_length_of : ℕ → ℕ → ℕ → Bool
is_length_of s tag n =
    if tag == 0x01 then nat_le s n
    else if tag == 0x02 then n == 8 + 2 * s
    else if tag == 0x2C then n == 0
    else true

-- HEAP DUMP and HEAP DUMP SEGMENT
abbrev pub is_heap_tag : ℕ → Bool
is_heap_tag tag = (tag == 0x0C) || (tag == 0x1C)

-- The one spelling of a record.
abbrev pub record_spelling : ℕ → Record → List ℕ
record_spelling s r = framed (tag_of r) (time_of r) (body_of s r)

-- a tag other than 0x01, 0x02, 0x0C and 0x1C
abbrev pub IsOther : ℕ → Type 0
IsOther tag = (tag ≡ 0x01 → ⊥) × (tag ≡ 0x02 → ⊥) × (is_heap_tag tag ≡ false)

-- the numbers fit their bytes, a heap record has a heap tag and sub-records, and an `other` record has another tag
abbrev pub HasParts : ℕ → Record → Type 0
HasParts s (string time id text) = id < 256 ^ s
HasParts s (load_class time serial class stack name) =
    (serial < 256 ^ 4) × (class < 256 ^ s) × (stack < 256 ^ 4) × (name < 256 ^ s)
HasParts s (heap tag time subs) = (is_heap_tag tag ≡ true) × AllByRecursion (IsSubRecord s) subs
HasParts s (other tag time body) = IsOther tag

-- A record: its parts are right, its time and its length fit 4 bytes, and its tag allows the length.
pub record IsRecord (s : ℕ) (r : Record) : Type 0 where
  pub parts : HasParts s r
  pub time : time_of r < 256 ^ 4
  pub length_fits : length (body_of s r) < 256 ^ 4
  pub length_allowed : is_length_of s (tag_of r) (length (body_of s r)) ≡ true
