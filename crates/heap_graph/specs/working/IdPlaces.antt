-- The places of the identifiers among the values of the fields that a class declares.
use Rattle.std.specs.Prelude.{Bool, List, [], drop, if◌then◌else◌, map, not, sum_by, ℕ, ◌&&◌, ◌++◌, ◌+◌, ◌==◌, ◌∷◌}
use Rattle.byteorder.specs.Endian.{big_number}
use Rattle.hprof_grammar.specs.SubRecord.{Class, Member}
use Rattle.hprof_grammar.specs.TagsAndTypes.{size_of}
use Rattle.heap_graph.specs.Fields.{object_type}

-- the size in bytes of the values of fields, and the same for fields paired with the classes that declare them
abbrev pub size_together : ℕ → List Member → ℕ
size_together s members = sum_by (λ m. size_of s m.type) members

abbrev pub size_of_fields : ℕ → List (Class × Member) → ℕ
size_of_fields s fields = sum_by (λ f. size_of s f.1.type) fields

-- the places of the values of type 2 of the fields that are not skipped, if the first value is at `at`
abbrev pub id_places : (Member → Bool) → ℕ → ℕ → List Member → List ℕ
id_places skips s at [] = []
id_places skips s at (m ∷ ms) =
    (if not (skips m) && (m.type == object_type) then at ∷ [] else []) ++ id_places skips s (at + size_of s m.type) ms

-- the identifiers at the places among the values
abbrev pub ids_at : ℕ → List ℕ → List ℕ → List ℕ
ids_at s places values = map (λ p. big_number s (drop p values)) places
