-- The places that the functions of the parser add to a dump, and the faults that they find. Private contracts cite
-- these definitions.
use Rattle.std.specs.Prelude.{List, [], drop, false, flat_map, length, map, true, ℕ, ◌++◌, ◌+◌, ◌<◌, ◌^◌, ◌∷◌, ◌≡◌, ◌≤◌}
use Rattle.std.specs.List.{AllByRecursion}
use Rattle.hprof_grammar.specs.Record.{HasParts, IsRecord, Record, body_of, is_heap_tag, is_length_of, subs_of}
use Rattle.hprof_grammar.specs.Record.{tag_of, time_of}
use Rattle.hprof_grammar.specs.Snapshot.{CanGoOn}
use Rattle.hprof_grammar.specs.TagsAndTypes.{is_id_size}
use Rattle.hprof_grammar.specs.Dump.{header, header_length, is_object, is_root, limit, placed, placed_subs}
use Rattle.hprof_grammar.specs.Dump.{places_where, spellings}
use Rattle.hprof_grammar.specs.Places.{Places, is_load, is_string}
use Rattle.hprof_grammar.specs.Fault.{LongestRecords, LongestSubs, RecordFault, SubFault}
use Rattle.hprof_grammar.specs.SubRecord.{IsSubRecord, SubRecord, spelling_of}
use Rattle.hprof_grammar.specs.working.SnapshotOrder.{IsAt, is_done}
use Rattle.hprof_grammar.specs.declared.kinds.Kind.{Kind}
use Rattle.hprof_grammar.specs.declared.kinds.Kind.TheVariants as kinds
use Rattle.hprof_grammar.specs.declared.snapshot_order.SnapshotState.{SnapshotState}
use Rattle.hprof_grammar.specs.declared.snapshot_order.SnapshotState.TheVariants.{Before}
use Rattle.hprof_grammar.specs.declared.flaw.FormatFault.{FormatFault}

abbrev pub nothing_of : ℕ → Places
nothing_of s = record { id_size = s; strings = []; loaded = []; roots = []; objects = [] }

-- `p` with the place of one more sub-record, which has `kind` and is at `at`
abbrev pub noted : Places → Kind → ℕ → Places
noted p (kinds.Root kind) at = record p { roots = p.roots ++ at ∷ [] }
noted p (kinds.Object kind) at = record p { objects = p.objects ++ at ∷ [] }

abbrev pub with_string : Places → ℕ → Places
with_string p at = record p { strings = p.strings ++ at ∷ [] }

abbrev pub with_loaded : Places → ℕ → Places
with_loaded p at = record p { loaded = p.loaded ++ at ∷ [] }

-- `p` with the places of the sub-records `subs`, if the first is at `at`
abbrev pub with_subs : Places → ℕ → List SubRecord → Places
with_subs p at subs = record {
  id_size = p.id_size;
  strings = p.strings;
  loaded = p.loaded;
  roots = p.roots ++ places_where is_root (placed_subs p.id_size at subs);
  objects = p.objects ++ places_where is_object (placed_subs p.id_size at subs);
}

-- `body`, at the place `at`, is sub-records and then `rest`, and `new` is `old` with the places of the sub-records
pub record AddsSubs (at : ℕ) (body rest : List ℕ) (old new : Places) : Type 0 where
  pub subs : List SubRecord
  pub parts : body ≡ flat_map (spelling_of old.id_size) subs ++ rest
  pub each : AllByRecursion (IsSubRecord old.id_size) subs
  pub joined : new ≡ with_subs old at subs

-- `fault` is the first fault of `body`, the body of a heap record, at the place `at`
pub record HasSubFault (s at : ℕ) (body : List ℕ) (fault : FormatFault) : Type 0 where
  pub subs : List SubRecord
  pub rest : List ℕ
  pub longest : LongestSubs s body subs rest
  pub wrong : SubFault s rest fault.code
  pub place : fault.offset ≡ at + length (flat_map (spelling_of s) subs)

-- `p` with the places of the record `r`, which is at `at`, and of its sub-records
abbrev pub with_record : Places → ℕ → Record → Places
with_record p at r = record {
  id_size = p.id_size;
  strings = p.strings ++ places_where is_string ((at, r) ∷ []);
  loaded = p.loaded ++ places_where is_load ((at, r) ∷ []);
  roots = p.roots ++ places_where is_root (placed_subs p.id_size (at + 9) (subs_of r));
  objects = p.objects ++ places_where is_object (placed_subs p.id_size (at + 9) (subs_of r));
}

-- `tag`, `time` and `body` make a record, and `new` is `old` with the places of this record
pub record AddsRecord (at tag time : ℕ) (body : List ℕ) (before after : SnapshotState) (old new : Places) : Type 0 where
  pub is : Record
  pub tag_is : tag_of is ≡ tag
  pub time_is : time_of is ≡ time
  pub body_is : body_of old.id_size is ≡ body
  pub parts : HasParts old.id_size is
  pub length_allowed : is_length_of old.id_size tag (length body) ≡ true
  pub order : (tags : List ℕ) → IsAt before tags → IsAt after (tags ++ tag ∷ [])
  pub joined : new ≡ with_record old at is

-- `tag` and `body` make no record that may come at `at`, and `fault` says why
pub data FrameFault (s at tag : ℕ) (body : List ℕ) (before : SnapshotState) (fault : FormatFault) : Type 0 where
  wrong_length : fault.code ≡ 4 → fault.offset ≡ at → is_length_of s tag (length body) ≡ false
      → FrameFault s at tag body before fault
  wrong_order : fault.code ≡ 8 → fault.offset ≡ at → is_length_of s tag (length body) ≡ true
      → ((tags : List ℕ) → IsAt before tags → CanGoOn (tags ++ tag ∷ []) → ⊥)
      → FrameFault s at tag body before fault
  wrong_heap : is_heap_tag tag ≡ true → is_length_of s tag (length body) ≡ true
      → ((tags : List ℕ) → IsAt before tags → CanGoOn (tags ++ tag ∷ []))
      → HasSubFault s (at + 9) body fault → FrameFault s at tag body before fault

-- all sub-records of `records` with their places, if the first record is at `at`; if `at` is `header_length`, this is
-- the heap list
abbrev pub heap_from : ℕ → ℕ → List Record → List (ℕ × SubRecord)
heap_from s at records = flat_map (λ p. placed_subs s (p.0 + 9) (subs_of p.1)) (placed s at records)

-- `p` with the places of `records`, if the first record is at `at`
abbrev pub with_records : Places → ℕ → List Record → Places
with_records p at records = record {
  id_size = p.id_size;
  strings = p.strings ++ places_where is_string (placed p.id_size at records);
  loaded = p.loaded ++ places_where is_load (placed p.id_size at records);
  roots = p.roots ++ places_where is_root (heap_from p.id_size at records);
  objects = p.objects ++ places_where is_object (heap_from p.id_size at records);
}

-- `p` with the places of `more`, a part that comes next in the file
abbrev pub with_places : Places → Places → Places
with_places p more = record {
  id_size = p.id_size;
  strings = p.strings ++ more.strings;
  loaded = p.loaded ++ more.loaded;
  roots = p.roots ++ more.roots;
  objects = p.objects ++ more.objects;
}

-- `bytes`, at the place `at`, are records and then `rest`, `new` is `old` with the places of the records, and the
-- snapshot state goes from `before` to `reached`
pub record AddsRecordsFrom (at : ℕ) (before : SnapshotState) (bytes rest : List ℕ) (reached : SnapshotState)
    (old new : Places) : Type 0 where
  pub records : List Record
  pub parts : bytes ≡ spellings old.id_size records ++ rest
  pub each : AllByRecursion (IsRecord old.id_size) records
  pub order : (tags : List ℕ) → IsAt before tags → IsAt reached (tags ++ map tag_of records)
  pub joined : new ≡ with_records old at records

-- `AddsRecordsFrom` for the bytes after the header
abbrev pub AddsRecords : List ℕ → List ℕ → SnapshotState → Places → Places → Type 0
AddsRecords = AddsRecordsFrom header_length Before

-- `fault` is the first fault in `bytes`, which are the bytes after the header
pub record HasRecordFault (s : ℕ) (bytes : List ℕ) (fault : FormatFault) : Type 0 where
  pub records : List Record
  pub rest : List ℕ
  pub longest : LongestRecords s bytes records rest
  pub wrong : RecordFault s records (header_length + length (spellings s records)) rest fault.code fault.offset

-- `bytes`, those after the header, are records with one whole snapshot, and `new` is `old` with the places of the
-- records
abbrev pub AddsAll : List ℕ → Places → Places → Type 0
AddsAll bytes old new = (order : SnapshotState) × (is_done order ≡ true) × AddsRecords bytes [] order old new

-- the text has at most `limit` bytes, and begins with a header that states identifiers of s bytes
pub record HasHeader (s : ℕ) (text : List ℕ) : Type 0 where
  pub size : length text ≤ limit
  pub id_size : is_id_size s ≡ true
  pub time : ℕ
  pub time_fits : time < 256 ^ 8
  pub whole : text ≡ header s time ++ drop header_length text
