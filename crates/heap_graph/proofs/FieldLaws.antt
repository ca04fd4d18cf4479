-- The identifiers in the fields of an instance, and the sizes of fields.
use Rattle.heap_graph.proofs.Words.{AllByRecursion, AreAllowed, Bool, Class, InMember, IsAllowed, List, Member, [], ap}
use Rattle.heap_graph.proofs.Words.{append_assoc, arith, big_number, class_fields, constant_fields, drop, drop-drop}
use Rattle.heap_graph.proofs.Words.{false, field_ids, flat_map, if◌then◌else◌, length, member_fields, nat_tests, not}
use Rattle.heap_graph.proofs.Words.{number, refl, size_of_fields, size_together, static_fields, sum_by-cons, sym, take}
use Rattle.heap_graph.proofs.Words.{true, ℕ, ◌&&◌, ◌++◌, ◌==◌, ◌∙◌, ◌∷◌, ◌≡◌, ◌≤◌}
use Rattle.hprof_grammar.specs.TagsAndTypes.{is_type_at, size_of}

-- a value of type 2 is an identifier
pub size_of_id : (s : ℕ) → size_of s 2 ≡ s
unfolding size_of
size_of_id s = refl

pub size_of_id_type : (s t : ℕ) → t ≡ 2 → size_of s t ≡ s
size_of_id_type s t e = ap (λ (n : ℕ). size_of s n) e ∙ size_of_id s

-- only a field of type 2 has an identifier
pub of_id_type : (skipped typed : Bool) → (not skipped && typed) ≡ true → typed ≡ true
of_id_type true typed e = absurd (let wrong : false ≡ true = e in cc)
of_id_type false typed e = e

-- the identifier in the field `f`, if it is followed and has one
abbrev pub ids_here : (Class → Member → Bool) → ℕ → Class × Member → List ℕ → List ℕ
ids_here skips s f values = if not (skips f.0 f.1) && (f.1.type == 2) then big_number s (take s values) ∷ [] else []

pub ids_of_both : (skips : Class → Member → Bool) (s : ℕ) (front more : List (Class × Member)) (values : List ℕ)
    → field_ids skips s (front ++ more) values
    ≡ field_ids skips s front values ++ field_ids skips s more (drop (size_of_fields s front) values)
ids_of_both skips s [] more values = refl
ids_of_both skips s (f ∷ front) more values =
    let size : ℕ = size_of s f.1.type in
    ap (λ (xs : List ℕ). ids_here skips s f values ++ xs)
    (ids_of_both skips s front more (drop size values)
    ∙ ap (λ (xs : List ℕ). field_ids skips s front (drop size values) ++ field_ids skips s more xs)
    (drop-drop (size_of_fields s front) size values
    ∙ ap (λ (n : ℕ). drop n values)
    (sym (sum_by-cons (λ (g : Class × Member). size_of s g.1.type) f front))))
    ∙ sym (append_assoc (ids_here skips s f values) (field_ids skips s front (drop size values))
    (field_ids skips s more (drop (size_of_fields s (f ∷ front)) values)))

-- ---- a field has a size of at least 1

pub member_size : (s t : ℕ) → 1 ≤ s → is_type_at InMember t ≡ true → 1 ≤ size_of s t
unfolding is_type_at size_of
member_size s t low h = grind (arith, nat_tests)

behind : {X : Type 0} (P : X → Type 0) (xs ys : List X) → AllByRecursion P (xs ++ ys) → AllByRecursion P ys
behind P [] ys h = h
behind P (x ∷ xs) ys h = behind P xs ys h.1

first_size : (s : ℕ) (ms : List Member) → 1 ≤ s → AreAllowed (flat_map (member_fields s) ms) → (ms ≡ [] → ⊥)
    → 1 ≤ size_together s ms
first_size s [] low allowed some = absurd (some refl)
first_size s (m ∷ ms) low allowed some =
    omega (arith, member_size s m.type low allowed.1.0, sum_by-cons (λ (x : Member). size_of s x.type) m ms)

pub own_size : (s : ℕ) (c : Class) → 1 ≤ s → AreAllowed (class_fields s c) → (c.members ≡ [] → ⊥)
    → 1 ≤ size_together s c.members
own_size s c low allowed some =
    let rest = behind IsAllowed (number 2 (length c.constants) ∷ flat_map constant_fields c.constants)
    ((number 2 (length c.statics) ∷ flat_map (static_fields s) c.statics) ++
    (number 2 (length c.members) ∷ flat_map (member_fields s) c.members)) allowed.1.1.1.1.1.1.1.1.1 in
    let last = behind IsAllowed (number 2 (length c.statics) ∷ flat_map (static_fields s) c.statics)
    (number 2 (length c.members) ∷ flat_map (member_fields s) c.members) rest in
    first_size s c.members low last.1 some
