-- The places of a dump's parts.
use Rattle.std.specs.Prelude.{Bool, List, false, map, true, ℕ, ◌≡◌}
use Rattle.hprof_grammar.specs.Record.{Record, tag_of}
use Rattle.hprof_grammar.specs.Snapshot.{IsOrderly}
use Rattle.hprof_grammar.specs.Record.Record.{load_class, string}
use Rattle.hprof_grammar.specs.Dump.{Spells, header_length, heap_list, is_object, is_root, placed, places_where}

abbrev pub is_string : Record → Bool
is_string (string time id text) = true
is_string r = false

abbrev pub is_load : Record → Bool
is_load (load_class time serial class stack name) = true
is_load r = false

-- The size of a dump's identifiers, and the places of its strings, loaded classes, roots and objects (class, instance
-- and array dumps), each list in the order of the text.
pub record Places : Type 0 where
  pub id_size : ℕ
  pub strings : List ℕ
  pub loaded : List ℕ
  pub roots : List ℕ
  pub objects : List ℕ

abbrev pub places_of : ℕ → List Record → Places
places_of s records = record {
  id_size = s;
  strings = places_where is_string (placed s header_length records);
  loaded = places_where is_load (placed s header_length records);
  roots = places_where is_root (heap_list s records);
  objects = places_where is_object (heap_list s records);
}

-- The text spells an orderly list of records, and `dump` has their places.
pub record IsDumpOf (text : List ℕ) (dump : Places) : Type 0 where
  pub records : List Record
  pub spells : Spells text dump.id_size records
  pub orderly : IsOrderly (map tag_of records)
  pub places : dump ≡ places_of dump.id_size records
