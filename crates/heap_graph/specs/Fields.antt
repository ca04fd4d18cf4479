-- The fields of an instance, and the identifiers in those that are followed.
use Rattle.std.specs.Prelude.{Bool, List, [], drop, flat_map, if◌then◌else◌, map, not, take, ℕ, ◌&&◌, ◌++◌, ◌==◌, ◌∷◌}
use Rattle.byteorder.specs.Endian.{big_number}
use Rattle.hprof_grammar.specs.SubRecord.{Class, Member}
use Rattle.hprof_grammar.specs.TagsAndTypes.{size_of}

-- the type code of identifiers: the manual's type "object"
abbrev pub object_type : ℕ
object_type = 2

-- the fields that a class declares, each paired with the class, and those that the classes of `chain` declare
abbrev pub own_fields : Class → List (Class × Member)
own_fields c = map (λ m. (c, m)) c.members

abbrev pub declared_fields : List Class → List (Class × Member)
declared_fields chain = flat_map own_fields chain

-- The identifiers in the fields of type `object_type` that are not skipped. `values` has the values of all fields, one
-- after the other, of skipped fields too.
abbrev pub field_ids : (Class → Member → Bool) → ℕ → List (Class × Member) → List ℕ → List ℕ
field_ids skips s [] values = []
field_ids skips s (f ∷ fs) values =
    (if not (skips f.0 f.1) && (f.1.type == object_type) then big_number s (take s values) ∷ [] else [])
    ++ field_ids skips s fs (drop (size_of s f.1.type) values)

-- The same for all fields of this type, from a list of members that are not paired with their classes: what
-- `field_ids` is if no field is skipped.
abbrev pub all_field_ids : ℕ → List Member → List ℕ → List ℕ
all_field_ids s [] values = []
all_field_ids s (m ∷ ms) values =
    (if m.type == object_type then big_number s (take s values) ∷ [] else [])
    ++ all_field_ids s ms (drop (size_of s m.type) values)
