-- Objects at their places.
use Rattle.heap_graph.proofs.Words.{AreObjects, Bool, IsClassNumber, IsObjectAt, List, None, ObjectKind, Option, Sight}
use Rattle.heap_graph.proofs.Words.{Some, StandInTurn, Stands, SubRecord, ap, arith, as_class, class_dump, class_named}
use Rattle.heap_graph.proofs.Words.{cond, false, get_or, id_of, instance_dump, is_object, length, length-map}
use Rattle.heap_graph.proofs.Words.{number_named, object_array_dump, object_kind, object_named, objects}
use Rattle.heap_graph.proofs.Words.{option_and_then, position, primitive_array_dump, refl, slice_get, slice_get-get_or}
use Rattle.heap_graph.proofs.Words.{slice_get_read, slice_get_within, subst, sym, true, ℕ, ◌<◌, ◌==◌, ◌∙◌, ◌≡◌}
use Rattle.hprof_grammar.specs.declared.kinds.ObjectKind.TheVariants as kinds
use Rattle.heap_graph.proofs.Firsts.{filter_passes, position-map}

-- object n of the heap list is at place `at`
pub record IsThere (v : Sight) (heap : List SubRecord) (n at : ℕ) : Type 0 where
  pub object : SubRecord
  pub is : slice_get (objects heap) n ≡ Some object
  pub stands : Stands v at object
  pub describes : is_object object ≡ true

pub stands_there : (v : Sight) (places : List ℕ) (heap : List SubRecord) (n : ℕ)
    → StandInTurn (Stands v) places (objects heap) → n < length places → IsThere v heap n (get_or places n 0)
stands_there v places heap n stand h =
    let it = stand.each n (get_or places n 0) (slice_get-get_or places n 0 h) in
    record { object = it.0; is = it.1; stands = it.2; describes = filter_passes is_object heap n it.0 it.1 }

-- the identifier that is read at a place is that of its object, for each heap list with objects at these places
pub id_there : (v : Sight) (places : List ℕ) (n id : ℕ) → n < length places
    → ((o : SubRecord) → Stands v (get_or places n 0) o → id ≡ id_of o)
    → (heap : List SubRecord) → StandInTurn (Stands v) places (objects heap)
    → (o : SubRecord) × (slice_get (objects heap) n ≡ Some o) × (id ≡ id_of o)
id_there v places n id h read heap stand =
    let it = stands_there v places heap n stand h in (it.object, it.is, read it.object it.stands)

module _ (v : Sight) (places ids : List ℕ) (heap : List SubRecord) where
  pub same_count : AreObjects v places ids heap → length ids ≡ length places
  same_count are = ap length are.ids_are ∙ length-map (objects heap) id_of ∙ sym are.stand.count

  pub there : (n : ℕ) → AreObjects v places ids heap → n < length places → IsThere v heap n (get_or places n 0)
  there n are h = stands_there v places heap n are.stand h

  -- the same for a place that was read
  pub there_at : (n at : ℕ) → AreObjects v places ids heap → n < length places → at ≡ get_or places n at
      → IsThere v heap n at
  there_at n at are h read =
      let it = are.stand.each n at (slice_get_read places (length places) n at refl h read) in
      record { object = it.0; is = it.1; stands = it.2; describes = filter_passes is_object heap n it.0 it.1 }

  -- an identifier names what the index finds
  pub number_is : (id : ℕ) → AreObjects v places ids heap → number_named heap id ≡ position (λ x. x == id) ids
  number_is id are = sym (ap (position (λ x. x == id)) are.ids_are ∙ position-map id_of (λ x. x == id) (objects heap))

  -- the number of an object is below the number of places
  pub number_below : (n : ℕ) (o : SubRecord) → AreObjects v places ids heap → slice_get (objects heap) n ≡ Some o
      → n < length places
  number_below n o are h = omega (arith, are.stand.count, slice_get_within (objects heap) n o h)

-- a number has one object
pub one_object : (heap : List SubRecord) (n : ℕ) (o x : SubRecord) → slice_get (objects heap) n ≡ Some o
    → slice_get (objects heap) n ≡ Some x → o ≡ x
one_object heap n o x e f = let both : Some o ≡ Some x = sym e ∙ f in cc

class_if : (heap : List SubRecord) (id : ℕ) (b : Bool) (o : Option ℕ) → (id == 0) ≡ b → b ≡ false
    → number_named heap id ≡ o → class_named heap id ≡ option_and_then as_class
    (option_and_then (λ n. slice_get (objects heap) n) o)
class_if heap id true o e f named = absurd (cc f)
class_if heap id false o e f named =
    ap (λ (b : Bool). cond b None (option_and_then as_class (object_named heap id))) e
    ∙ ap (λ (p : Option ℕ). option_and_then as_class (option_and_then (λ n. slice_get (objects heap) n) p)) named

-- the class that an identifier other than 0 names
pub class_is : (heap : List SubRecord) (id : ℕ) (o : Option ℕ) → (id == 0) ≡ false → number_named heap id ≡ o
    → class_named heap id ≡ option_and_then as_class (option_and_then (λ n. slice_get (objects heap) n) o)
class_is heap id o e named = class_if heap id false o e refl named

-- ---- object n, by the kind that is read at its place

pub record IsDumpBy {X : Type 0} (wrap : X → SubRecord) (o : SubRecord) : Type 0 where
  pub what : X
  pub same : o ≡ wrap what

pub is_class_dump : (o : SubRecord) → object_kind o ≡ Some kinds.Class → IsDumpBy class_dump o
is_class_dump (class_dump c) h = record { what = c; same = refl }
is_class_dump o h = absurd (cc h)

-- an object whose number is that of a class dump is a class dump
pub class_number : (v : Sight) (heap : List SubRecord) (n at : ℕ) (it : IsThere v heap n at)
    → IsClassNumber (objects heap) n → IsDumpBy class_dump it.object
class_number v heap n at it is = record {
  what = is.0;
  same = one_object heap n it.object (class_dump is.0) it.is is.1;
}

pub is_instance_dump : (o : SubRecord) → object_kind o ≡ Some kinds.Instance → IsDumpBy instance_dump o
is_instance_dump (instance_dump i) h = record { what = i; same = refl }
is_instance_dump o h = absurd (cc h)

is_array_dump : (o : SubRecord) → object_kind o ≡ Some kinds.ObjectArray → IsDumpBy object_array_dump o
is_array_dump (object_array_dump a) h = record { what = a; same = refl }
is_array_dump o h = absurd (cc h)

is_primitives_dump : (o : SubRecord) → object_kind o ≡ Some kinds.PrimitiveArray → IsDumpBy primitive_array_dump o
is_primitives_dump (primitive_array_dump a) h = record { what = a; same = refl }
is_primitives_dump o h = absurd (cc h)

pub no_class_dump : (o : SubRecord) (kind : ObjectKind) → object_kind o ≡ Some kind → (kind ≡ kinds.Class → ⊥)
    → as_class o ≡ None
no_class_dump (class_dump c) kind h other = absurd (other (cc h))
no_class_dump o kind h other = refl

-- an object at whose place this kind is read is of this kind
abbrev pub IsReadAs : {X : Type 0} → (X → SubRecord) → ObjectKind → Type 0
IsReadAs {X = X} wrap kind = (v : Sight) (places ids : List ℕ) (heap : List SubRecord) (n at : ℕ)
    → AreObjects v places ids heap → n < length places → at ≡ get_or places n at
    → ((o : SubRecord) → Stands v at o → is_object o ≡ true → object_kind o ≡ Some kind)
    → (x : X) × IsObjectAt v heap n at (wrap x)

read_as : {X : Type 0} (wrap : X → SubRecord) (kind : ObjectKind)
    → ((o : SubRecord) → object_kind o ≡ Some kind → IsDumpBy wrap o) → IsReadAs wrap kind
read_as wrap kind is v places ids heap n at are h here read =
    let it = there_at v places ids heap n at are h here in
    let dump = is it.object (read it.object it.stands it.describes) in
    (dump.what, record { is = it.is ∙ ap Some dump.same; stands = subst (Stands v at) dump.same it.stands })

pub class_at : IsReadAs class_dump kinds.Class
class_at = read_as class_dump kinds.Class is_class_dump

pub instance_at : IsReadAs instance_dump kinds.Instance
instance_at = read_as instance_dump kinds.Instance is_instance_dump

pub array_at : IsReadAs object_array_dump kinds.ObjectArray
array_at = read_as object_array_dump kinds.ObjectArray is_array_dump

pub primitives_at : IsReadAs primitive_array_dump kinds.PrimitiveArray
primitives_at = read_as primitive_array_dump kinds.PrimitiveArray is_primitives_dump
