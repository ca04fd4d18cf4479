-- The parts of a class dump: its identifiers after the stack trace, and its constants, static fields and instance
-- fields.
use Rattle.std.specs.Prelude.{List, [], flat_map, length, ℕ, ◌++◌, ◌∷◌, ◌≡◌}
use Rattle.hprof_grammar.specs.Spelling.{Field, spelled}
use Rattle.hprof_grammar.specs.Spelling.Field.{number}
use Rattle.hprof_grammar.specs.FormedParts.{IsClass}
use Rattle.hprof_grammar.specs.SubRecord.{Class, constant_fields, member_fields, static_fields}

-- the IDs after the stack trace
abbrev pub ids_behind_stack : Class → List ℕ
ids_behind_stack c = c.super ∷ c.loader ∷ c.signers ∷ c.domain ∷ c.reserved ∷ c.reserved_too ∷ []

-- the number of `things` in 2 bytes, and then the fields of each
abbrev pub counted_fields : {X : Type 0} → (X → List Field) → List X → List Field
counted_fields fields things = number 2 (length things) ∷ flat_map fields things

abbrev pub fields_from_members : ℕ → Class → List Field
fields_from_members s c = counted_fields (member_fields s) c.members

abbrev pub fields_from_statics : ℕ → Class → List Field
fields_from_statics s c = counted_fields (static_fields s) c.statics ++ fields_from_members s c

abbrev pub fields_from_constants : ℕ → Class → List Field
fields_from_constants s c = counted_fields constant_fields c.constants ++ fields_from_statics s c

-- the bytes are the spelling of `fields` and a rest, and `c` keeps the bounds of a class (`IsClass`)
pub record IsPartOf (s : ℕ) (c : Class) (fields : List Field) (bytes : List ℕ) : Type 0 where
  pub rest : List ℕ
  pub bytes_are : bytes ≡ spelled fields ++ rest
  pub is : IsClass s c
