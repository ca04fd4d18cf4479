-- A text that spells a dump: its header, its records, and the heap list.
use Rattle.std.specs.Prelude.{Bool, List, [], codes, false, filter, flat_map, length, map, true, ℕ, ◌++◌, ◌+◌, ◌<◌, ◌^◌}
use Rattle.std.specs.Prelude.{◌∷◌, ◌≡◌, ◌≤◌}
use Rattle.std.specs.List.{AllByRecursion}
use Rattle.byteorder.specs.Endian.{big_bytes}
use Rattle.hprof_grammar.specs.Record.{IsRecord, Record, record_spelling, subs_of}
use Rattle.hprof_grammar.specs.TagsAndTypes.{is_id_size}
use Rattle.hprof_grammar.specs.SubRecord.{SubRecord, spelling_of}
use Rattle.hprof_grammar.specs.SubRecord.SubRecord.{class_dump, instance_dump, object_array_dump, primitive_array_dump}
use Rattle.hprof_grammar.specs.SubRecord.SubRecord.{root}

-- the length in bytes of the longest text that is read: 1 GiB
abbrev pub limit : ℕ
limit = 1073741824

-- "JAVA PROFILE 1.0.2" and a zero
abbrev pub magic : List ℕ
magic = codes "JAVA PROFILE 1.0.2" ++ 0 ∷ []

-- the header: `magic`, u4 size of identifiers, and the milliseconds since 1970 in two words, u4 high word, u4 low word
abbrev pub header : ℕ → ℕ → List ℕ
header s time = magic ++ (big_bytes 4 s ++ big_bytes 8 time)

-- the length in bytes of the header, which is the place of the first record
abbrev pub header_length : ℕ
header_length = 31

abbrev pub spellings : ℕ → List Record → List ℕ
spellings s records = flat_map (record_spelling s) records

-- The text, of at most `limit` bytes, is a header and then the spellings of `records`, with IDs of s bytes.
pub record Spells (text : List ℕ) (s : ℕ) (records : List Record) : Type 0 where
  pub size : length text ≤ limit
  pub id_size : is_id_size s ≡ true
  pub time : ℕ
  pub time_fits : time < 256 ^ 8
  pub whole : text ≡ header s time ++ spellings s records
  pub each : AllByRecursion (IsRecord s) records

-- each record with its place, if the first is at `at`
abbrev pub placed : ℕ → ℕ → List Record → List (ℕ × Record)
placed s at [] = []
placed s at (r ∷ rs) = (at, r) ∷ placed s (at + length (record_spelling s r)) rs

abbrev pub placed_subs : ℕ → ℕ → List SubRecord → List (ℕ × SubRecord)
placed_subs s at [] = []
placed_subs s at (x ∷ xs) = (at, x) ∷ placed_subs s (at + length (spelling_of s x)) xs

-- the heap list: all sub-records of the heap records, in order
abbrev pub heap_of : List Record → List SubRecord
heap_of records = flat_map subs_of records

-- all sub-records of the heap records, in order, with their places
abbrev pub heap_list : ℕ → List Record → List (ℕ × SubRecord)
heap_list s records = flat_map (λ p. placed_subs s (p.0 + 9) (subs_of p.1)) (placed s header_length records)

abbrev pub is_root : SubRecord → Bool
is_root (root r) = true
is_root sub = false

abbrev pub is_object : SubRecord → Bool
is_object (root r) = false
is_object sub = true

-- the first ID of a sub-record: the object that a root names or that a dump describes
abbrev pub id_of : SubRecord → ℕ
id_of (root r) = r.object
id_of (class_dump c) = c.object
id_of (instance_dump i) = i.object
id_of (object_array_dump a) = a.object
id_of (primitive_array_dump a) = a.object

abbrev pub places_where : {X : Type 0} → (X → Bool) → List (ℕ × X) → List ℕ
places_where is items = map (λ p. p.0) (filter (λ p. is p.1) items)
