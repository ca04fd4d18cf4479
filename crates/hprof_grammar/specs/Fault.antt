-- The first fault of a text that spells no dump.
use Rattle.std.specs.Prelude.{List, [], false, flat_map, length, map, true, ℕ, ◌++◌, ◌+◌, ◌<◌, ◌^◌, ◌∷◌, ◌≡◌, ◌≤◌}
use Rattle.std.specs.List.{AllByRecursion}
use Rattle.byteorder.specs.Endian.{big_bytes}
use Rattle.hprof_grammar.specs.Record.{IsRecord, Record, framed, is_heap_tag, is_length_of, tag_of}
use Rattle.hprof_grammar.specs.Snapshot.{CanGoOn, IsOrderly}
use Rattle.hprof_grammar.specs.TagsAndTypes.{is_id_size, is_sub_tag}
use Rattle.hprof_grammar.specs.Dump.{header, header_length, limit, magic, spellings}
use Rattle.hprof_grammar.specs.SubRecord.{IsFormed, IsSubRecord, SubRecord, fields_of, spelling_of}
use Rattle.hprof_grammar.specs.SubRecord as sub
use Rattle.hprof_grammar.specs.Spelling.{EndsShort, HasWrongType}

-- The code of the fault if the bytes, at least one, begin with no whole sub-record: 5 if the tag is in no table, 6 if
-- the bytes end within a field, 7 if a type code is not allowed. The first of these in the bytes counts. `x` is a
-- formed sub-record that begins with the same fields; its later fields are arbitrary.
pub data SubFault (s : ℕ) : List ℕ → ℕ → Type 0 where
  unknown_tag : (tag : ℕ) (rest : List ℕ) → is_sub_tag tag ≡ false → SubFault s (tag ∷ rest) 5
  short : (x : SubRecord) (rest : List ℕ) → IsFormed s x
      → EndsShort (fields_of s x) rest → SubFault s (sub.tag_of x ∷ rest) 6
  wrong_type : (x : SubRecord) (rest : List ℕ) → IsFormed s x
      → HasWrongType (fields_of s x) rest → SubFault s (sub.tag_of x ∷ rest) 7

-- The longest beginning of a heap record's body that whole sub-records spell, and the rest of the body.
pub record LongestSubs (s : ℕ) (body : List ℕ) (subs : List SubRecord) (rest : List ℕ) : Type 0 where
  pub parts : body ≡ flat_map (spelling_of s) subs ++ rest
  pub each : AllByRecursion (IsSubRecord s) subs
  pub longest : (others : List SubRecord) (left : List ℕ)
      → body ≡ flat_map (spelling_of s) others ++ left → AllByRecursion (IsSubRecord s) others
      → length others ≤ length subs

-- The longest list of whole records that spells a beginning of `body` and can be continued to an orderly list, and the
-- rest of `body`.
pub record LongestRecords (s : ℕ) (body : List ℕ) (records : List Record) (rest : List ℕ) : Type 0 where
  pub parts : body ≡ spellings s records ++ rest
  pub each : AllByRecursion (IsRecord s) records
  pub goes_on : CanGoOn (map tag_of records)
  pub longest : (others : List Record) (left : List ℕ)
      → body ≡ spellings s others ++ left → AllByRecursion (IsRecord s) others → CanGoOn (map tag_of others)
      → length others ≤ length records

-- `rest` is less than a whole record: the record runs past the end
pub record RunsPastEnd (rest : List ℕ) : Type 0 where
  pub tag : ℕ
  pub time : ℕ
  pub body : List ℕ
  pub missing : List ℕ
  pub length_fits : length body < 256 ^ 4
  pub begins : framed tag time body ≡ rest ++ missing
  pub not_whole : 0 < length missing

-- The code and the place of the fault after `records`, which end at the place `at`. The code is 8 at the end of the
-- text if the snapshot is missing or has no end. Otherwise the first fault of the next record: 3 if it runs past the
-- end, 4 for its length, 8 for its order, or else the fault of its sub-records.
pub data RecordFault (s : ℕ) (records : List Record) (at : ℕ) : List ℕ → ℕ → ℕ → Type 0 where
  no_snapshot : (IsOrderly (map tag_of records) → ⊥) → RecordFault s records at [] 8 at
  truncated : (rest : List ℕ) → 0 < length rest → RunsPastEnd rest → RecordFault s records at rest 3 at
  bad_length : (tag time : ℕ) (body after : List ℕ) → length body < 256 ^ 4
      → is_length_of s tag (length body) ≡ false
      → RecordFault s records at (framed tag time body ++ after) 4 at
  out_of_order : (tag time : ℕ) (body after : List ℕ) → length body < 256 ^ 4
      → is_length_of s tag (length body) ≡ true → (CanGoOn (map tag_of records ++ tag ∷ []) → ⊥)
      → RecordFault s records at (framed tag time body ++ after) 8 at
  in_heap : (tag time : ℕ) (body after : List ℕ) (subs : List SubRecord) (rest : List ℕ) (code : ℕ)
      → length body < 256 ^ 4 → is_heap_tag tag ≡ true → CanGoOn (map tag_of records ++ tag ∷ [])
      → LongestSubs s body subs rest → SubFault s rest code
      → RecordFault s records at (framed tag time body ++ after) code (at + 9 + length (flat_map (spelling_of s) subs))

abbrev pub HasMagic : List ℕ → Type 0
HasMagic text = (rest : List ℕ) × (text ≡ magic ++ rest)

-- The first fault of a text: its code and its place. The code is 14 for too many bytes; 1 if the first 19 bytes are not
-- the header's text; 3 for fewer bytes than a header; 2 for a size of identifiers that is not allowed; else the first
-- fault of its records.
pub data FirstFault (text : List ℕ) : ℕ → ℕ → Type 0 where
  too_large : limit < length text → FirstFault text 14 limit
  bad_header : length text ≤ limit → (HasMagic text → ⊥) → FirstFault text 1 0
  short_header : HasMagic text → length text < header_length → FirstFault text 3 0
  bad_id_size : (s : ℕ) (rest : List ℕ) → length text ≤ limit → header_length ≤ length text → s < 256 ^ 4
      → text ≡ magic ++ (big_bytes 4 s ++ rest) → is_id_size s ≡ false → FirstFault text 2 19
  in_records : (s time : ℕ) (body : List ℕ) (records : List Record) (rest : List ℕ) (code place : ℕ)
      → length text ≤ limit → is_id_size s ≡ true → text ≡ header s time ++ body
      → LongestRecords s body records rest
      → RecordFault s records (header_length + length (spellings s records)) rest code place
      → FirstFault text code place
