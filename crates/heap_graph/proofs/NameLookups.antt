-- Strings and loaded classes are two kinds of records, in the order of the file. The first with an identifier counts.
use Rattle.heap_graph.proofs.Words.{AreNames, List, Option, Record, RecordStands, Sight, Some, [], ap, filter, get_or}
use Rattle.heap_graph.proofs.Words.{if◌then◌else◌, is_load, is_string, length, load_class, loaded_id, name_of, refl}
use Rattle.heap_graph.proofs.Words.{slice_get, slice_get-get_or, string, string_id, string_named, true, ℕ, ◌<◌, ◌==◌}
use Rattle.heap_graph.proofs.Words.{◌∷◌, ◌≡◌}
use Rattle.heap_graph.proofs.Firsts.{filter_passes}
use Rattle.heap_graph.proofs.Lookups.{first_of}

-- the loaded class at a place
pub record LoadedAt (v : Sight) (records : List Record) (i at : ℕ) : Type 0 where
  pub time : ℕ
  pub serial : ℕ
  pub class : ℕ
  pub stack : ℕ
  pub name : ℕ
  pub stands : RecordStands v at (load_class time serial class stack name)
  pub here : slice_get (filter is_load records) i ≡ Some (load_class time serial class stack name)

loaded_if : (v : Sight) (records : List Record) (i at : ℕ) (r : Record) → is_load r ≡ true → RecordStands v at r
    → slice_get (filter is_load records) i ≡ Some r → LoadedAt v records i at
loaded_if v records i at (load_class time serial class stack name) is stands here = record {
  time = time;
  serial = serial;
  class = class;
  stack = stack;
  name = name;
  stands = stands;
  here = here;
}
loaded_if v records i at r is stands here = absurd (cc is)

pub loaded_at : (v : Sight) (strings loaded : List ℕ) (records : List Record) (i : ℕ)
    → AreNames v strings loaded records → i < length loaded → LoadedAt v records i (get_or loaded i 0)
loaded_at v strings loaded records i are h =
    let it = are.loaded_each.each i (get_or loaded i 0) (slice_get-get_or loaded i 0 h) in
    loaded_if v records i (get_or loaded i 0) it.0 (filter_passes is_load records i it.0 it.1) it.2 it.1

-- the string at a place
pub record TextAt (v : Sight) (records : List Record) (i at : ℕ) : Type 0 where
  pub time : ℕ
  pub id : ℕ
  pub text : List ℕ
  pub stands : RecordStands v at (string time id text)
  pub here : slice_get (filter is_string records) i ≡ Some (string time id text)

text_if : (v : Sight) (records : List Record) (i at : ℕ) (r : Record) → is_string r ≡ true → RecordStands v at r
    → slice_get (filter is_string records) i ≡ Some r → TextAt v records i at
text_if v records i at (string time id text) is stands here =
    record { time = time; id = id; text = text; stands = stands; here = here }
text_if v records i at r is stands here = absurd (cc is)

pub text_at : (v : Sight) (strings loaded : List ℕ) (records : List Record) (i : ℕ)
    → AreNames v strings loaded records → i < length strings → TextAt v records i (get_or strings i 0)
text_at v strings loaded records i are h =
    let it = are.string_each.each i (get_or strings i 0) (slice_get-get_or strings i 0 h) in
    text_if v records i (get_or strings i 0) it.0 (filter_passes is_string records i it.0 it.1) it.2 it.1

-- ---- a name or a text is that of the first record of its kind with the identifier

abbrev pub loaded_name : Record → ℕ
loaded_name (load_class time serial class stack name) = name
loaded_name r = 0

abbrev pub string_text : Record → List ℕ
string_text (string time id text) = text
string_text r = []

pub first_name : (records : List Record) (id : ℕ)
    → first_of loaded_id loaded_name (filter is_load records) id ≡ name_of records id
first_name [] id = refl
first_name (load_class time serial class stack name ∷ rest) id =
    ap (λ (o : Option ℕ). if class == id then Some name else o) (first_name rest id)
first_name (r ∷ rest) id = first_name rest id

pub first_text : (records : List Record) (id : ℕ)
    → first_of string_id string_text (filter is_string records) id ≡ string_named records id
first_text [] id = refl
first_text (string time i text ∷ rest) id =
    ap (λ (o : Option (List ℕ)). if i == id then Some text else o) (first_text rest id)
first_text (r ∷ rest) id = first_text rest id
