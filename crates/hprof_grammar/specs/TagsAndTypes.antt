-- The format's tables: the allowed sizes of identifiers, the allowed type codes and tags, and the sizes of values. Few
-- lemmas unfold these definitions, so few proofs depend on what the tables allow.
use Rattle.std.specs.Prelude.{Bool, if◌then◌else◌, nat_le, ℕ, ◌&&◌, ◌==◌, ◌||◌}
use Rattle.hprof_grammar.specs.declared.kinds.TypePlace.{TypePlace}
use Rattle.hprof_grammar.specs.declared.kinds.TypePlace.TheVariants.{InArray}

-- the allowed sizes of identifiers; the manual leaves the size open
unfoldable pub is_id_size : ℕ → Bool
is_id_size s = (s == 4) || (s == 8)

-- the manual's primitive types: 4 boolean, 5 char, 6 float, 7 double, 8 byte, 9 short, 10 int, 11 long; 2 is object
abbrev pub is_primitive : ℕ → Bool
is_primitive t = nat_le 4 t && nat_le t 11

-- the type codes that are allowed in each part of a sub-record
unfoldable pub is_type_at : TypePlace → ℕ → Bool
is_type_at InArray t = is_primitive t
is_type_at place t = (t == 2) || is_primitive t

-- the size of a value of a basic type, with identifiers of s bytes; 0 for a code that is no type
unfoldable pub size_of : ℕ → ℕ → ℕ
size_of s t =
    if t == 2 then s
    else if (t == 4) || (t == 8) then 1
    else if (t == 5) || (t == 9) then 2
    else if (t == 6) || (t == 10) then 4
    else if (t == 7) || (t == 11) then 8
    else 0

-- the tags of sub-records: 0xFF and 1 to 8 for roots, 0x20 to 0x23 for class, instance, object array and primitive
-- array dumps
unfoldable pub is_sub_tag : ℕ → Bool
is_sub_tag t = (t == 0xFF) || (nat_le 1 t && nat_le t 8) || (nat_le 0x20 t && nat_le t 0x23)
