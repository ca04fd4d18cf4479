-- What it means that a record or sub-record is at a place of the bytes, and that each place of a dump has the right
-- one.
use Rattle.std.specs.Prelude.{List, None, Option, Some, drop, filter, length, slice_get, ℕ, ◌++◌, ◌<◌, ◌^◌, ◌≡◌}
use Rattle.hprof_grammar.specs.Record.{IsRecord, Record, record_spelling}
use Rattle.hprof_grammar.specs.SubRecord.{IsSubRecord, SubRecord, spelling_of}
use Rattle.hprof_grammar.specs.SubRecord.SubRecord.{class_dump, instance_dump, object_array_dump, primitive_array_dump}
use Rattle.hprof_grammar.specs.SubRecord.SubRecord.{root}
use Rattle.hprof_grammar.specs.Record.Record.{load_class, string}
use Rattle.hprof_grammar.specs.Dump.{header, heap_of, is_object, is_root}
use Rattle.hprof_grammar.specs.Places.{Places, is_load, is_string}

-- the bytes from the place on are the spelling of the sub-record and a rest
pub record SubRecordStandsAt (s : ℕ) (bytes : List ℕ) (at : ℕ) (sub : SubRecord) : Type 0 where
  pub rest : List ℕ
  pub bytes_are : drop at bytes ≡ spelling_of s sub ++ rest
  pub is : IsSubRecord s sub

-- the bytes from the place on are the spelling of the record and a rest
pub record RecordStandsAt (s : ℕ) (bytes : List ℕ) (at : ℕ) (r : Record) : Type 0 where
  pub rest : List ℕ
  pub bytes_are : drop at bytes ≡ record_spelling s r ++ rest
  pub is : IsRecord s r

-- the bytes begin with a header that has the time
pub record HeaderStandsAt (s : ℕ) (bytes : List ℕ) (time : ℕ) : Type 0 where
  pub rest : List ℕ
  pub bytes_are : bytes ≡ header s time ++ rest
  pub fits : time < 256 ^ 8

-- the bytes of a dump, and the size of its identifiers
pub record Sight : Type 0 where
  pub bytes : List ℕ
  pub id_size : ℕ

abbrev pub Stands : Sight → ℕ → SubRecord → Type 0
Stands v at sub = SubRecordStandsAt v.id_size v.bytes at sub

abbrev pub RecordStands : Sight → ℕ → Record → Type 0
RecordStands v at r = RecordStandsAt v.id_size v.bytes at r

abbrev pub HeaderStands : Sight → ℕ → Type 0
HeaderStands v time = HeaderStandsAt v.id_size v.bytes time

-- a STRING IN UTF8 or a LOAD CLASS with the given fields is at the place
abbrev pub StringStands : Sight → ℕ → (time id : ℕ) → List ℕ → Type 0
StringStands v at time id text = RecordStands v at (string time id text)

abbrev pub LoadStands : Sight → ℕ → (time serial class stack name : ℕ) → Type 0
LoadStands v at time serial class stack name = RecordStands v at (load_class time serial class stack name)

-- the serial number of the stack trace of an object's dump, none for a root
abbrev pub stack_of : SubRecord → Option ℕ
stack_of (root r) = None
stack_of (class_dump c) = Some c.stack
stack_of (instance_dump i) = Some i.stack
stack_of (object_array_dump a) = Some a.stack
stack_of (primitive_array_dump a) = Some a.stack

-- there are as many places as things, and the k-th thing is at the k-th place
pub record StandInTurn {X : Type 0} (IsAt : ℕ → X → Type 0) (places : List ℕ) (things : List X) : Type 0 where
  pub count : length places ≡ length things
  pub each : (k place : ℕ) → slice_get places k ≡ Some place → (x : X) × (slice_get things k ≡ Some x) × IsAt place x

-- the header is first, and each string, loaded class, root and object is at its place, in order
pub record IsPlaced (text : List ℕ) (dump : Places) (records : List Record) : Type 0 where
  pub time : ℕ
  pub header : HeaderStandsAt dump.id_size text time
  pub strings : StandInTurn (RecordStandsAt dump.id_size text) dump.strings (filter is_string records)
  pub loaded : StandInTurn (RecordStandsAt dump.id_size text) dump.loaded (filter is_load records)
  pub roots : StandInTurn (SubRecordStandsAt dump.id_size text) dump.roots (filter is_root (heap_of records))
  pub objects : StandInTurn (SubRecordStandsAt dump.id_size text) dump.objects (filter is_object (heap_of records))
