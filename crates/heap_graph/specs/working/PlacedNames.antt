-- The strings and the loaded classes of a dump at their places.
use Rattle.std.specs.Prelude.{List, filter, length, map, ℕ, ◌<◌, ◌^◌, ◌≡◌}
use Rattle.hprof_grammar.specs.Places.{is_load, is_string}
use Rattle.hprof_grammar.specs.Record.{Record}
use Rattle.hprof_grammar.specs.Record.Record.{load_class, string}
use Rattle.hprof_grammar.specs.Standing.{RecordStands, Sight, StandInTurn}
use Rattle.heap_graph.specs.declared.names.Names.{Names}
use Rattle.heap_graph.specs.declared.names.NamesById.{NamesById}

-- the strings are at the places `strings`, the loaded classes at the places `loaded`, fewer than 2^32 of each
pub record AreNames (v : Sight) (strings loaded : List ℕ) (records : List Record) : Type 0 where
  pub few_strings : length strings < 2 ^ 32
  pub few_loaded : length loaded < 2 ^ 32
  pub string_each : StandInTurn (RecordStands v) strings (filter is_string records)
  pub loaded_each : StandInTurn (RecordStands v) loaded (filter is_load records)

abbrev pub AreNamesOf : Names → List Record → Type 0
AreNamesOf n records = AreNames n.view n.strings.now n.loaded.now records

-- the identifier of a string
abbrev pub string_id : Record → ℕ
string_id (string time id text) = id
string_id r = 0

-- the identifier of a loaded class
abbrev pub loaded_id : Record → ℕ
loaded_id (load_class time serial class stack name) = class
loaded_id r = 0

-- like `AreNames`, and the strings and the loaded classes have the identifiers `string_ids` and `loaded_ids`
pub record AreNamesById (v : Sight) (strings loaded string_ids loaded_ids : List ℕ)
    (records : List Record) : Type 0 where
  pub names : AreNames v strings loaded records
  pub strings_are : string_ids ≡ map string_id (filter is_string records)
  pub loaded_are : loaded_ids ≡ map loaded_id (filter is_load records)

abbrev pub AreNamesByIdOf : {A : Type 0} → NamesById A → List Record → Type 0
AreNamesByIdOf n records =
    AreNamesById n.names.now.view n.names.now.strings.now n.names.now.loaded.now n.strings n.loaded records
