-- Numbers, instance fields and labelled values that are next to one another in the bytes: those that an iterator
-- (`Ids`, `Members`, `Values`) has still to return.
use Rattle.std.specs.Prelude.{List, [], drop, length, slice_index, suc, take, zero, ℕ, ◌*◌, ◌+◌, ◌∷◌, ◌≤◌}
use Rattle.byteorder.specs.Endian.{big_number}
use Rattle.hprof_grammar.specs.SubRecord.{Constant, Member, Static}
use Rattle.hprof_grammar.specs.TagsAndTypes.{size_of}

-- n numbers of `width` bytes each
abbrev pub numbers_in : ℕ → ℕ → List ℕ → List ℕ
numbers_in width zero bytes = []
numbers_in width (suc n) bytes = big_number width bytes ∷ numbers_in width n (drop width bytes)

-- the bytes have room for n numbers
pub record HasNumbers (width n : ℕ) (bytes : List ℕ) : Type 0 where
  pub low : 1 ≤ width
  pub high : width ≤ 8
  pub room : n * width ≤ length bytes

-- n instance fields: a name of s bytes and a type code each
abbrev pub members_in : ℕ → ℕ → List ℕ → List Member
members_in s zero bytes = []
members_in s (suc n) bytes =
    record { name = big_number s bytes; type = slice_index bytes s } ∷ members_in s n (drop (s + 1) bytes)

-- the bytes have room for n instance fields
pub record HasMembers (s n : ℕ) (bytes : List ℕ) : Type 0 where
  pub low : 1 ≤ s
  pub high : s ≤ 8
  pub room : n * (s + 1) ≤ length bytes

-- the length of a labelled value: a label of `front` bytes, a type code, and a value of that type
abbrev pub value_end : ℕ → ℕ → List ℕ → ℕ
value_end s front bytes = front + 1 + size_of s (slice_index bytes front)

-- a value, its type code, and its label: a constant's index, or the ID of a static field's name
pub record LabelledValue : Type 0 where
  pub label : ℕ
  pub type : ℕ
  pub value : List ℕ

abbrev pub value_in : ℕ → ℕ → List ℕ → LabelledValue
value_in s front bytes = record {
  label = big_number front bytes;
  type = slice_index bytes front;
  value = take (size_of s (slice_index bytes front)) (drop (front + 1) bytes);
}

abbrev pub of_constant : Constant → LabelledValue
of_constant k = record { label = k.index; type = k.type; value = k.value }

abbrev pub of_static : Static → LabelledValue
of_static f = record { label = f.name; type = f.type; value = f.value }

-- n labelled values
abbrev pub values_in : ℕ → ℕ → ℕ → List ℕ → List LabelledValue
values_in s front zero bytes = []
values_in s front (suc n) bytes = value_in s front bytes ∷ values_in s front n (drop (value_end s front bytes) bytes)

-- the bytes after n labelled values
abbrev pub behind_values : ℕ → ℕ → ℕ → List ℕ → List ℕ
behind_values s front zero bytes = bytes
behind_values s front (suc n) bytes = behind_values s front n (drop (value_end s front bytes) bytes)

-- the bytes have room for n labelled values
abbrev pub HasValues : ℕ → ℕ → ℕ → List ℕ → Type 0
HasValues s front zero bytes = Unit {0}
HasValues s front (suc n) bytes =
    (value_end s front bytes ≤ length bytes) × HasValues s front n (drop (value_end s front bytes) bytes)

-- the bytes have room for n labelled values, and their labels can be read
pub record HasLabelledValues (s front n : ℕ) (bytes : List ℕ) : Type 0 where
  pub low : 1 ≤ front
  pub high : front ≤ 8
  pub room : HasValues s front n bytes

-- a count of 2 bytes, then that many values: the count, the values, and the bytes after the values
abbrev pub count_in : List ℕ → ℕ
count_in bytes = big_number 2 bytes

abbrev pub counted_values_in : ℕ → ℕ → List ℕ → List LabelledValue
counted_values_in s front bytes = values_in s front (count_in bytes) (drop 2 bytes)

abbrev pub behind_counted_values : ℕ → ℕ → List ℕ → List ℕ
behind_counted_values s front bytes = behind_values s front (count_in bytes) (drop 2 bytes)

pub record HasCountedValues (s front : ℕ) (bytes : List ℕ) : Type 0 where
  pub count : 2 ≤ length bytes
  pub values : HasValues s front (count_in bytes) (drop 2 bytes)
