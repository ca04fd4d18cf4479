-- The object in the plan of a class is the one that the identifier of the class names.
use Rattle.heap_graph.proofs.Words.{AreClassObjects, Bool, Class, ClassPlan, HasPlan, IfSome, Instance, IsLinked}
use Rattle.heap_graph.proofs.Words.{IsNamed, List, None, ObjectArray, Option, RowKey, Some, SubRecord, ap, arith}
use Rattle.heap_graph.proofs.Words.{class_dumps, class_named, class_number, cond, eqb-true, false}
use Rattle.heap_graph.proofs.Words.{get_or_from_slice_get, instance_dump, is_some, known_ids, length, length-map, map}
use Rattle.heap_graph.proofs.Words.{object_array_dump, object_of_row, objects, plan_at, position, position_or_len, refl}
use Rattle.heap_graph.proofs.Words.{slice_get, slice_index, subst, sym, target_in, true, with_class, ℕ, ◌++◌, ◌<◌, ◌==◌}
use Rattle.heap_graph.proofs.Words.{◌∙◌, ◌∷◌, ◌≡◌}
use Rattle.heap_graph.specs.declared.row.RowKey.TheVariants as keys
use Rattle.heap_graph.proofs.ClassTableLaws.{found, there_is}
use Rattle.heap_graph.proofs.EntryLaws.{same_number}
use Rattle.heap_graph.proofs.Firsts.{hit}
use Rattle.heap_graph.proofs.Linking.{no_unknown, no_unknown_array}
use Rattle.heap_graph.proofs.Wholeness.{known_if}

-- the object bears the identifier, and is the first that does
abbrev pub IsObjectOf : List ℕ → ℕ → ℕ → Type 0
IsObjectOf all id o = (slice_index all o ≡ id) × IsNamed all o

bears_if : (all : List ℕ) (id o : ℕ) (b : Bool) → cond b None (position (λ x. x == id) all) ≡ Some o
    → slice_index all o ≡ id
bears_if all id o true e = absurd (let wrong : None ≡ Some o = e in cc)
bears_if all id o false e = (found all id o e).is

object_if : (all : List ℕ) (id : ℕ) (object : Option ℕ) → object ≡ target_in all id → IfSome object (IsObjectOf all id)
object_if all id None named = tt
object_if all id (Some o) named =
    let bears : slice_index all o ≡ id = bears_if all id o (id == 0) (sym named) in
    (bears, ap (target_in all) bears ∙ sym named)

-- the class with the number of an identifier has that identifier
id_of_number : (ids : List ℕ) (id : ℕ) → position_or_len (λ x. x == id) ids < length ids
    → slice_index ids (position_or_len (λ x. x == id) ids) ≡ id
id_of_number ids id below =
    let it = hit (λ x. x == id) ids below in
    get_or_from_slice_get ids (position_or_len (λ x. x == id) ids) it.what 0 it.here ∙ eqb-true it.what id it.passes

module _ (heap : List SubRecord) (ids : List ℕ) (plans : List ClassPlan)
    (are : ids ≡ map (λ (c : Class). c.object) (class_dumps heap)) (count : length plans ≡ length ids) where
  class_object : (all : List ℕ) (id : ℕ) → AreClassObjects all ids plans → class_number heap id < length plans
      → IfSome (plan_at plans (class_number heap id)).object (IsObjectOf all id)
  class_object all id objects below =
      let at = same_number heap ids id are in
      let it = there_is plans (class_number heap id) below in
      let read = get_or_from_slice_get plans (class_number heap id) it.0
      (record { start = 0; end = 0; size = 0; object = None }) it.1 in
      let named = ap (slice_index ids) (sym at) ∙ id_of_number ids id (omega (arith, at, below, count)) in
      object_if all id (plan_at plans (class_number heap id)).object
      (ap (λ (p : ClassPlan). p.object) read ∙ objects (class_number heap id) it.0 it.1
      ∙ ap (target_in all) named)

  -- the object in the plan of a planned class is the one that the class's identifier names
  pub known_class : (all : List ℕ) (id : ℕ) (row : RowKey) (known : Option ℕ) → AreClassObjects all ids plans
      → HasPlan plans (keys.Class (class_number heap id)) → row ≡ keys.Class (class_number heap id)
      → known ≡ object_of_row plans row → IfSome known (IsObjectOf all id)
  known_class all id row known objects has is same =
      subst (λ (o : Option ℕ). IfSome o (IsObjectOf all id))
      (sym (same ∙ ap (λ (r : RowKey). object_of_row plans r) is)) (class_object all id objects has)

  planned : (id : ℕ) → (class_named heap id ≡ None → ⊥) → HasPlan plans (keys.Class (class_number heap id))
  planned id known =
      omega (
        arith,
        known_if heap id (class_named heap id) refl known,
        count,
        ap length are,
        length-map (class_dumps heap) (λ (c : Class). c.object),
      )

  -- the classes of instances and arrays are planned
  pub instance_planned : (s n : ℕ) (i : Instance) → IsLinked s heap
      → slice_get (objects heap) n ≡ Some (instance_dump i) → HasPlan plans (keys.Class (class_number heap i.class))
  instance_planned s n i linked is = planned i.class (no_unknown s heap n i i.class linked is refl)

  pub array_planned : (s n : ℕ) (a : ObjectArray) → IsLinked s heap
      → slice_get (objects heap) n ≡ Some (object_array_dump a) → HasPlan plans (keys.Class (class_number heap a.class))
  array_planned s n a linked is = planned a.class (no_unknown_array s heap n a a.class linked is refl)

-- a known object is named by its identifier, which comes before `ids` exactly if the object is known
pub known_named : (all : List ℕ) (id : ℕ) (known : Option ℕ) → IfSome known (IsObjectOf all id)
    → IfSome known (IsNamed all)
known_named all id None is = tt
known_named all id (Some o) is = is.1

pub known_first : (all ids : List ℕ) (id : ℕ) (known : Option ℕ) (behind : Bool) → IfSome known (IsObjectOf all id)
    → behind ≡ is_some known → with_class behind id ids ≡ known_ids all known ++ ids
known_first all ids id None behind is same = ap (λ (b : Bool). with_class b id ids) same
known_first all ids id (Some o) behind is same =
    ap (λ (b : Bool). with_class b id ids) same ∙ ap (λ (x : ℕ). x ∷ ids) (sym is.0)
