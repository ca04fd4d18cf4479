-- A field of a sub-record, and its bytes.
use Rattle.std.specs.Prelude.{List, [], false, flat_map, length, true, ℕ, ◌++◌, ◌<◌, ◌^◌, ◌∷◌, ◌≡◌}
use Rattle.std.specs.List.{AllByRecursion}
use Rattle.byteorder.specs.Endian.{big_bytes}
use Rattle.hprof_grammar.specs.TagsAndTypes.{is_type_at}
use Rattle.hprof_grammar.specs.declared.kinds.TypePlace.{TypePlace}

pub data Field : Type 0 where
  -- a number of `width` bytes
  number : (width value : ℕ) → Field
  -- a type code, in one byte
  type_code : (place : TypePlace) (code : ℕ) → Field
  -- bytes as they are
  raw : (bytes : List ℕ) → Field

-- numbers are big-endian
abbrev pub field_spelling : Field → List ℕ
field_spelling (number width value) = big_bytes width value
field_spelling (type_code place code) = code ∷ []
field_spelling (raw bytes) = bytes

-- the spellings of the fields, one after another
abbrev pub spelled : List Field → List ℕ
spelled fields = flat_map field_spelling fields

-- a number fits its bytes
abbrev pub Fits : Field → Type 0
Fits (number width value) = value < 256 ^ width
Fits field = Unit {0}

abbrev pub IsAllowed : Field → Type 0
IsAllowed (type_code place code) = is_type_at place code ≡ true
IsAllowed field = Unit {0}

abbrev pub AreAllowed : List Field → Type 0
AreAllowed fields = AllByRecursion IsAllowed fields

-- the bytes are the first fields, which are all allowed, and only a part of the next field
pub record EndsShort (fields : List Field) (bytes : List ℕ) : Type 0 where
  pub front : List Field
  pub cut : Field
  pub more : List Field
  pub part : List ℕ
  pub missing : List ℕ
  pub in_order : fields ≡ front ++ cut ∷ more
  pub allowed : AreAllowed front
  pub bytes_are : bytes ≡ spelled front ++ part
  pub cut_is : field_spelling cut ≡ part ++ missing
  pub not_whole : 0 < length missing

-- the bytes begin with the first fields, which are all allowed, and a type code that is not allowed
pub record HasWrongType (fields : List Field) (bytes : List ℕ) : Type 0 where
  pub front : List Field
  pub place : TypePlace
  pub code : ℕ
  pub more : List Field
  pub rest : List ℕ
  pub in_order : fields ≡ front ++ type_code place code ∷ more
  pub allowed : AreAllowed front
  pub wrong : is_type_at place code ≡ false
  pub bytes_are : bytes ≡ spelled front ++ code ∷ rest
