-- Computes that a file of 174 bytes spells a dump: a class with one field, two instances that refer to each other, and
-- a root.
use Rattle.std.proofs.Common.{List, [], inl, lit<, lit≤, refl, ℕ, ◌++◌, ◌∷◌, ◌≡◌}
use Rattle.hprof_grammar.specs.Dump.{header, spellings}
use Rattle.hprof_grammar.specs.Places.{IsDumpOf, Places, places_of}
use Rattle.hprof_grammar.specs.Record.{Record}
use Rattle.hprof_grammar.specs.Record.Record.{heap, load_class, string}
use Rattle.hprof_grammar.specs.SubRecord.{Class, Instance, Root, SubRecord}
use Rattle.hprof_grammar.specs.SubRecord.RootOrigin.{unknown}
use Rattle.hprof_grammar.specs.SubRecord.SubRecord.{class_dump, instance_dump, root}
use Rattle.hprof_grammar.specs.TagsAndTypes.{is_id_size, is_type_at, size_of}
use Rattle.hprof_grammar.specs.Record.{is_length_of}
use Rattle.grammar_tests.proofs.Computed.{record_is}

abbrev file : List ℕ
file =
    0x4A ∷ 0x41 ∷ 0x56 ∷ 0x41 ∷ 0x20 ∷ 0x50 ∷ 0x52 ∷ 0x4F ∷ 0x46 ∷ 0x49 ∷ 0x4C ∷ 0x45 ∷ 0x20 ∷ 0x31 ∷ 0x2E ∷ 0x30 ∷
    0x2E ∷ 0x32 ∷ 0 ∷
    0 ∷ 0 ∷ 0 ∷ 4 ∷ 0 ∷ 0 ∷ 0 ∷ 0 ∷ 0 ∷ 0 ∷ 0 ∷ 0 ∷
    1 ∷ 0 ∷ 0 ∷ 0 ∷ 0 ∷ 0 ∷ 0 ∷ 0 ∷ 5 ∷
    0 ∷ 0 ∷ 0 ∷ 1 ∷ 0x41 ∷
    2 ∷ 0 ∷ 0 ∷ 0 ∷ 0 ∷ 0 ∷ 0 ∷ 0 ∷ 0x10 ∷
    0 ∷ 0 ∷ 0 ∷ 1 ∷ 0 ∷ 0 ∷ 1 ∷ 0 ∷ 0 ∷ 0 ∷ 0 ∷ 0 ∷ 0 ∷ 0 ∷ 0 ∷ 1 ∷
    0x0C ∷ 0 ∷ 0 ∷ 0 ∷ 0 ∷ 0 ∷ 0 ∷ 0 ∷ 0x5F ∷
    0x20 ∷ 0 ∷ 0 ∷ 1 ∷ 0 ∷ 0 ∷ 0 ∷ 0 ∷ 0 ∷
    0 ∷ 0 ∷ 0 ∷ 0 ∷ 0 ∷ 0 ∷ 0 ∷ 0 ∷ 0 ∷ 0 ∷ 0 ∷ 0 ∷ 0 ∷ 0 ∷ 0 ∷ 0 ∷ 0 ∷ 0 ∷ 0 ∷ 0 ∷ 0 ∷ 0 ∷ 0 ∷ 0 ∷
    0 ∷ 0 ∷ 0 ∷ 0 ∷ 0 ∷ 0 ∷ 0 ∷ 0 ∷ 0 ∷ 1 ∷
    0 ∷ 0 ∷ 0 ∷ 2 ∷ 2 ∷
    0x21 ∷ 0 ∷ 0 ∷ 2 ∷ 1 ∷ 0 ∷ 0 ∷ 0 ∷ 0 ∷ 0 ∷ 0 ∷ 1 ∷ 0 ∷ 0 ∷ 0 ∷ 0 ∷ 4 ∷ 0 ∷ 0 ∷ 2 ∷ 2 ∷
    0x21 ∷ 0 ∷ 0 ∷ 2 ∷ 2 ∷ 0 ∷ 0 ∷ 0 ∷ 0 ∷ 0 ∷ 0 ∷ 1 ∷ 0 ∷ 0 ∷ 0 ∷ 0 ∷ 4 ∷ 0 ∷ 0 ∷ 2 ∷ 1 ∷
    0xFF ∷ 0 ∷ 0 ∷ 2 ∷ 1 ∷ []

abbrev the_class : Class
the_class = record {
  object = 0x100;
  stack = 0;
  super = 0;
  loader = 0;
  signers = 0;
  domain = 0;
  reserved = 0;
  reserved_too = 0;
  instance_size = 0;
  constants = [];
  statics = [];
  members = record { name = 2; type = 2 } ∷ [];
}

abbrev first : Instance
first = record { object = 0x201; stack = 0; class = 0x100; values = 0 ∷ 0 ∷ 2 ∷ 2 ∷ [] }

abbrev second : Instance
second = record { object = 0x202; stack = 0; class = 0x100; values = 0 ∷ 0 ∷ 2 ∷ 1 ∷ [] }

abbrev the_root : Root
the_root = record { object = 0x201; origin = unknown }

abbrev subs : List SubRecord
subs = class_dump the_class ∷ instance_dump first ∷ instance_dump second ∷ root the_root ∷ []

abbrev records : List Record
records = string 0 1 (0x41 ∷ []) ∷ load_class 0 1 0x100 0 1 ∷ heap 0x0C 0 subs ∷ []

file_is : file ≡ header 4 0 ++ spellings 4 records
file_is = refl

abbrev places : Places
places = record { id_size = 4; strings = 31 ∷ []; loaded = 45 ∷ []; roots = 169 ∷ []; objects = 79 ∷ 127 ∷ 148 ∷ [] }

places_are : places ≡ places_of 4 records
places_are = refl

-- the file spells a dump with the places `places`
file_is_dump : IsDumpOf file places
unfolding is_id_size is_length_of is_type_at size_of
file_is_dump = record {
  records = records;
  spells = record {
    size = lit≤ tt;
    id_size = refl;
    time = 0;
    time_fits = lit< tt;
    whole = file_is;
    each = (
      record_is 4 (string 0 1 (0x41 ∷ [])) refl,
      (record_is 4 (load_class 0 1 0x100 0 1) refl, (record_is 4 (heap 0x0C 0 subs) refl, tt)),
    );
  };
  orderly = inl refl;
  places = places_are;
}
