-- An identifier that is not in a map is inserted at its end.
use Rattle.heap_graph.proofs.Words.{Bool, ClassPlace, Contains, Contains-append_right, List, [], ap, arith, false}
use Rattle.heap_graph.proofs.Words.{if◌then◌else◌, ne_eqb, refl, sym, true, ℕ, ◌++◌, ◌∷◌, ◌≡◌}
use Rattle.std.specs.Prelude.{nat_eq}
use Rattle.indexmap.specs.IndexMap.{insert_entry}
use Rattle.heap_graph.specs.working.ClassList.{TableEntry, ids_of}

insert_if : (e : TableEntry) (es : List TableEntry) (id : ℕ) (p : ClassPlace) (b : Bool) → nat_eq id e.0 ≡ b
    → b ≡ false → insert_entry nat_eq es id p ≡ es ++ (id, p) ∷ []
    → (if b then (e.0, p) ∷ es else e ∷ insert_entry nat_eq es id p) ≡ (e ∷ es) ++ (id, p) ∷ []
insert_if e es id p true is f rest = absurd (cc f)
insert_if e es id p false is f rest = ap (λ (xs : List TableEntry). e ∷ xs) rest

pub insert_last : (es : List TableEntry) (id : ℕ) (p : ClassPlace) → (Contains (ids_of es) id → ⊥)
    → insert_entry nat_eq es id p ≡ es ++ (id, p) ∷ []
insert_last [] id p new = refl
insert_last (e ∷ es) id p new =
    insert_if e es id p (nat_eq id e.0) refl (ne_eqb id e.0 (λ same. new (0, omega arith, sym same)))
    (insert_last es id p (λ c. new (Contains-append_right (e.0 ∷ []) (ids_of es) id c)))
