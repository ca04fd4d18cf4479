-- What the table of classes says of a class, and how it grows.
use Rattle.heap_graph.proofs.Words.{AreClasses, Bool, Class, ClassPlace, Contains, IsUnder, List, Member, None, Option}
use Rattle.heap_graph.proofs.Words.{Sight, Some, Stands, SubRecord, TableEntry, [], ap, arith, class_dump, class_named}
use Rattle.heap_graph.proofs.Words.{cond, entry_at, eq-eqb, eqb-true, false, get_or_from_slice_get, ids_of, length}
use Rattle.heap_graph.proofs.Words.{length-map, not, position, position_or_len, refl, size_together, slice_get}
use Rattle.heap_graph.proofs.Words.{slice_index, slice_index_or, subst, suc, sym, true, zero, ℕ, ◌+◌, ◌<◌, ◌==◌, ◌^◌}
use Rattle.heap_graph.proofs.Words.{◌∙◌, ◌∷◌, ◌≡◌, ◌≤◌}
use Rattle.heap_graph.specs.working.ClassTable.{IsTableEntry}
use Rattle.heap_graph.proofs.FieldLaws.{own_size}
use Rattle.heap_graph.proofs.Firsts.{IsHit, position_hit, position_past}

-- the class with the number k
pub record IsNumbered (v : Sight) (heap : List SubRecord) (entries : List TableEntry) (k : ℕ) : Type 0 where
  pub entry : TableEntry
  pub is : slice_get entries k ≡ Some entry
  pub id_is : slice_index (ids_of entries) k ≡ entry.0
  pub holds : IsTableEntry v heap entry

pub there_is : {X : Type 0} (xs : List X) (k : ℕ) → k < length xs → (x : X) × (slice_get xs k ≡ Some x)
there_is [] k h = absurd (omega (arith, h))
there_is (x ∷ xs) zero h = (x, refl)
there_is (x ∷ xs) (suc k) h = there_is xs k (omega (arith, h))

pub id_at : (entries : List TableEntry) (k : ℕ) (e : TableEntry) → slice_get entries k ≡ Some e
    → slice_index (ids_of entries) k ≡ e.0
id_at [] k e is = absurd (let wrong : None ≡ Some e = is in cc)
id_at (x ∷ xs) zero e is = let same : x ≡ e = cc in ap (λ (y : TableEntry). y.0) same
id_at (x ∷ xs) (suc k) e is = id_at xs k e is

pub numbered : (v : Sight) (heap : List SubRecord) (entries : List TableEntry) (k : ℕ) → AreClasses v heap entries
    → k < length entries → IsNumbered v heap entries k
numbered v heap entries k are h =
    let it = there_is entries k h in
    record { entry = it.0; is = it.1; id_is = id_at entries k it.0 it.1; holds = are.each k it.0 it.1 }

pub same_count : (entries : List TableEntry) → length (ids_of entries) ≡ length entries
same_count entries = length-map entries (λ (e : TableEntry). e.0)

pub named_at : (v : Sight) (heap : List SubRecord) (entries : List TableEntry) (k : ℕ)
    (it : IsNumbered v heap entries k)
    → class_named heap (slice_index (ids_of entries) k) ≡ Some it.holds.class
named_at v heap entries k it = ap (λ (id : ℕ). class_named heap id) it.id_is ∙ it.holds.named

-- what the table has above one of its classes
pub under : (v : Sight) (heap : List SubRecord) (entries : List TableEntry) (k : ℕ) (it : IsNumbered v heap entries k)
    → k < length entries → IsUnder heap (ids_of entries) k it.holds.class.super
under v heap entries k it h = record {
  class = it.holds.class;
  below = omega (arith, same_count entries, h);
  named =
      named_at v heap entries k it;
  super_is = refl;
}

some_inj : {X : Type 0} {x y : X} → Some x ≡ Some y → x ≡ y
some_inj {X} {x} {y} e = cc

-- the entry's class is the one that its identifier names
pub same_class : (v : Sight) (heap : List SubRecord) (entries : List TableEntry) (k : ℕ) (c : Class)
    (it : IsNumbered v heap entries k) → class_named heap (slice_index (ids_of entries) k) ≡ Some c → it.holds.class ≡ c
same_class v heap entries k c it named = some_inj (sym (named_at v heap entries k it) ∙ named)

-- ---- the result of a look-up

pub record IsFound (ids : List ℕ) (id k : ℕ) : Type 0 where
  pub below : k < length ids
  pub is : slice_index ids k ≡ id

pub found : (ids : List ℕ) (id k : ℕ) → position (λ x. x == id) ids ≡ Some k → IsFound ids id k
found ids id k e =
    let hit : IsHit (λ x. x == id) ids k = position_hit (λ x. x == id) ids k e in
    record { below = hit.below; is = get_or_from_slice_get ids k hit.what 0 hit.here ∙ eqb-true hit.what id hit.passes }

passed : (ids : List ℕ) (id x n : ℕ) (b : Bool) → (x == id) ≡ b → n < length ids
    → cond (not b) (1 + n) 0 < length (x ∷ ids)
passed ids id x n true e h = omega arith
passed ids id x n false e h = omega (arith, h)

before_end : (ids : List ℕ) (id k : ℕ) → k < length ids → slice_index ids k ≡ id
    → position_or_len (λ x. x == id) ids < length ids
before_end [] id k h e = absurd (omega (arith, h))
before_end (x ∷ ids) id zero h e =
    subst (λ (b : Bool). cond (not b) (1 + position_or_len (λ y. y == id) ids) 0 < length (x ∷ ids))
    (sym (eq-eqb x id e)) (omega arith)
before_end (x ∷ ids) id (suc k) h e =
    passed ids id x (position_or_len (λ y. y == id) ids) (x == id) refl (before_end ids id k (omega (arith, h)) e)

pub not_there : (ids : List ℕ) (id : ℕ) → position (λ x. x == id) ids ≡ None → Contains ids id → ⊥
not_there ids id none c =
    omega (arith, before_end ids id c.0 c.1 (at_place ids id c.0 c.1 c.2), position_past (λ x. x == id) ids (sym none))
  where
    at_place : (xs : List ℕ) (id k : ℕ) → k < length xs → slice_index_or xs k id ≡ id → slice_index xs k ≡ id
    at_place [] id k h e = absurd (omega (arith, h))
    at_place (x ∷ xs) id zero h e = e
    at_place (x ∷ xs) id (suc k) h e = at_place xs id k (omega (arith, h)) e

no_class : (heap : List SubRecord) (id : ℕ) (o : Option Class) → class_named heap id ≡ o
    → ((c : Class) → class_named heap id ≡ Some c → ⊥) → class_named heap id ≡ None
no_class heap id None e none = e
no_class heap id (Some c) e none = absurd (none c e)

pub not_found : (v : Sight) (heap : List SubRecord) (entries : List TableEntry) (id : ℕ) → AreClasses v heap entries
    → position (λ x. x == id) (ids_of entries) ≡ None → class_named heap id ≡ None
not_found v heap entries id are none = no_class heap id (class_named heap id) refl
    (λ c named. not_there (ids_of entries) id none (are.complete id c named))

-- ---- the result of reading a class

-- `kept` is the class place in entry k
abbrev pub IsKept : List TableEntry → ℕ → ClassPlace → Type 0
IsKept entries k kept = (e : TableEntry) → slice_get entries k ≡ Some e → kept ≡ e.1

pub stands_at : (v : Sight) (heap : List SubRecord) (entries : List TableEntry) (k : ℕ) (kept : ClassPlace)
    → AreClasses v heap entries → k < length entries → IsKept entries k kept
    → (c : Class) × Stands v kept.place (class_dump c)
stands_at v heap entries k kept are h read =
    let it : IsNumbered v heap entries k = numbered v heap entries k are h in (
      it.holds.class,
      subst (λ (p : ClassPlace). Stands v p.place (class_dump it.holds.class))
          (sym (read it.entry it.is)) it.holds.stands,
    )

pub read_super : (v : Sight) (heap : List SubRecord) (entries : List TableEntry) (k : ℕ) (kept : ClassPlace)
    (super got : ℕ)
    → AreClasses v heap entries → k < length entries → IsKept entries k kept
    → IsUnder heap (ids_of entries) k super → ((c : Class) → Stands v kept.place (class_dump c) → got ≡ c.super)
    → got ≡ super
read_super v heap entries k kept super got are h read under says =
    let it : IsNumbered v heap entries k = numbered v heap entries k are h in
    let same : it.holds.class ≡ under.class = same_class v heap entries k under.class it under.named in
    says it.holds.class (subst (λ (p : ClassPlace). Stands v p.place (class_dump it.holds.class))
    (sym (read it.entry it.is)) it.holds.stands)
    ∙ ap (λ (c : Class). c.super) same ∙ under.super_is

-- ---- the entry with the number k

pub entry_is : (entries : List TableEntry) (k : ℕ) (e : TableEntry) → slice_get entries k ≡ Some e
    → entry_at entries k ≡ e.1
entry_is entries k e is = ap (λ (x : TableEntry). x.1)
    (get_or_from_slice_get entries k e (0, record { place = 0; size = 0 })
    is)

pub read_entry : (entries : List TableEntry) (k : ℕ) (kept : ClassPlace) → k < length entries → IsKept entries k kept
    → kept ≡ entry_at entries k
read_entry entries k kept h read = let it = there_is entries k h in read it.0 it.1 ∙ sym (entry_is entries k it.0 it.1)

pub size_of_class : (v : Sight) (heap : List SubRecord) (entries : List TableEntry) (k : ℕ) (c : Class)
    → AreClasses v heap entries → k < length entries → class_named heap (slice_index (ids_of entries) k) ≡ Some c
    → (entry_at entries k).size ≡ size_together v.id_size c.members
size_of_class v heap entries k c are h named =
    let it : IsNumbered v heap entries k = numbered v heap entries k are h in
    ap (λ (p : ClassPlace). p.size) (entry_is entries k it.entry it.is) ∙ it.holds.size_is
    ∙ ap (λ (d : Class). size_together v.id_size d.members) (same_class v heap entries k c it named)

pub few_bytes : (v : Sight) (heap : List SubRecord) (entries : List TableEntry) (k : ℕ) → AreClasses v heap entries
    → k < length entries → (entry_at entries k).size < 2 ^ 32
few_bytes v heap entries k are h =
    let it : IsNumbered v heap entries k = numbered v heap entries k are h in
    subst (λ (p : ClassPlace). p.size < 2 ^ 32) (sym (entry_is entries k it.entry it.is)) it.holds.few_bytes

-- a class whose fields have no bytes has no fields, and each other class has some
pub no_fields : (v : Sight) (heap : List SubRecord) (entries : List TableEntry) (k : ℕ) (c : Class)
    → AreClasses v heap entries → k < length entries
    → class_named heap (slice_index (ids_of entries) k) ≡ Some c → (entry_at entries k).size ≡ 0 → c.members ≡ []
no_fields v heap entries k c are h named empty =
    let it : IsNumbered v heap entries k = numbered v heap entries k are h in
    let same : it.holds.class ≡ c = same_class v heap entries k c it named in
    let no_bytes : size_together v.id_size it.holds.class.members ≡ 0 = sym it.holds.size_is
    ∙ ap (λ (p : ClassPlace). p.size) (sym (entry_is entries k it.entry it.is)) ∙ empty in
    ap (λ (d : Class). d.members) (sym same)
    ∙ none (it.holds.class.members) (own_size v.id_size it.holds.class are.low it.holds.stands.is.allowed) no_bytes
  where
    none : (ms : List Member) → ((ms ≡ [] → ⊥) → 1 ≤ size_together v.id_size ms) → size_together v.id_size ms ≡ 0
        → ms ≡ []
    none [] some e = refl
    none (m ∷ ms) some e =
        absurd (let h : 1 ≤ size_together v.id_size (m ∷ ms) = some (λ wrong. absurd cc) in omega (arith, h, e))

pub some_fields : (v : Sight) (heap : List SubRecord) (entries : List TableEntry) (k : ℕ) (c : Class)
    → AreClasses v heap entries → k < length entries
    → class_named heap (slice_index (ids_of entries) k) ≡ Some c → ((entry_at entries k).size ≡ 0 → ⊥)
    → c.members ≡ [] → ⊥
some_fields v heap entries k c are h named some none =
    some (size_of_class v heap entries k c are h named ∙ ap (λ (ms : List Member). size_together v.id_size ms) none)
