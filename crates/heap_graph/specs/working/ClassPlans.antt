-- The plans of the classes of a dump, by their numbers: where the identifiers are among the fields of a class.
use Rattle.std.specs.Prelude.{Bool, List, None, Option, Some, [], length, slice_get, slice_index, slice_index_or}
use Rattle.std.specs.Prelude.{slice_range}
use Rattle.std.specs.Prelude.{ℕ, ◌++◌, ◌∷◌}
use Rattle.std.specs.Prelude.{◌<◌, ◌≡◌, ◌≤◌}
use Rattle.hprof_grammar.specs.SubRecord.{Class, Member, SubRecord}
use Rattle.heap_graph.specs.Heap.{class_named}
use Rattle.heap_graph.specs.working.ClassTable.{ids_of}
use Rattle.heap_graph.specs.working.IdPlaces.{id_places, size_together}
use Rattle.heap_graph.specs.declared.objects.Objects.{Objects}
use Rattle.heap_graph.specs.declared.plan.ClassPlan.{ClassPlan}
use Rattle.heap_graph.specs.declared.plan.Plan.{Plan}
use Rattle.heap_graph.specs.declared.row.RowKey.{RowKey}
use Rattle.heap_graph.specs.declared.row.RowKey.TheVariants as keys
use Rattle.heap_graph.specs.working.Resolving.{target_in}

-- the plan of class `k`
abbrev pub plan_at : List ClassPlan → ℕ → ClassPlan
plan_at plans k = slice_index_or plans k (record { start = 0; end = 0; size = 0; object = None })

-- the places of the fields of type 2 that class `k` declares and that are not skipped
abbrev pub id_places_of : List ClassPlan → List ℕ → ℕ → List ℕ
id_places_of plans places k = slice_range places (plan_at plans k).start (plan_at plans k).end

-- the object that is the class of the objects in a row; and that a row of a class has a plan for this class
abbrev pub object_of_row : List ClassPlan → RowKey → Option ℕ
object_of_row plans (keys.Class k) = (plan_at plans k).object
object_of_row plans (keys.Primitive t) = None
object_of_row plans keys.ClassObject = None

abbrev pub HasPlan : List ClassPlan → RowKey → Type 0
HasPlan plans (keys.Class k) = k < length plans
HasPlan plans (keys.Primitive t) = Unit {0}
HasPlan plans keys.ClassObject = Unit {0}

-- the places of class `k` are among those of all classes
pub record HasIdPlaces (plans : List ClassPlan) (places : List ℕ) (k : ℕ) : Type 0 where
  pub rising : (plan_at plans k).start ≤ (plan_at plans k).end
  pub within : (plan_at plans k).end ≤ length places

-- the plan's range has the places of the fields of type 2 that the class declares, except those that are skipped, and
-- its size is that of the values of all fields that the class declares
pub record IsClassPlan (skips : Class → Member → Bool) (s : ℕ) (places : List ℕ) (c : Class)
    (p : ClassPlan) : Type 0 where
  pub rising : p.start ≤ p.end
  pub within : p.end ≤ length places
  pub places_are : slice_range places p.start p.end ≡ id_places (skips c) s 0 c.members
  pub size_is : p.size ≡ size_together s c.members

-- each plan is that of the class with its number
abbrev pub AreClassPlans : (Class → Member → Bool) → ℕ → List SubRecord → List ℕ → List ClassPlan → List ℕ → Type 0
AreClassPlans skips s heap ids plans places = (k : ℕ) (p : ClassPlan) (c : Class) → slice_get plans k ≡ Some p
    → class_named heap (slice_index ids k) ≡ Some c → IsClassPlan skips s places c p

-- each plan has the object that the class's identifier names, among objects with the identifiers `all`
abbrev pub AreClassObjects : List ℕ → List ℕ → List ClassPlan → Type 0
AreClassObjects all ids plans = (k : ℕ) (p : ClassPlan) → slice_get plans k ≡ Some p
    → p.object ≡ target_in all (slice_index ids k)

-- the plans are those of all classes
pub record IsPlan (skips : Class → Member → Bool) (s : ℕ) (heap : List SubRecord) (all ids : List ℕ)
    (plans : List ClassPlan) (places : List ℕ) : Type 0 where
  pub one_each : length plans ≡ length ids
  pub each : AreClassPlans skips s heap ids plans places
  pub objects_are : AreClassObjects all ids plans

abbrev pub IsPlanOf : {A B : Type 0} → (Class → Member → Bool) → Objects A → List SubRecord → Plan B → Type 0
IsPlanOf skips o heap p =
    IsPlan skips o.view.id_size heap o.index (ids_of o.classes.table.entries) p.classes.items p.places.items

-- a class that declares `members` and whose identifier names `object` was added after the others
pub record AddsPlan (skips : Member → Bool) (s : ℕ) (members : List Member) (object : Option ℕ)
    (old : List ClassPlan) (old_places : List ℕ) (new : List ClassPlan) (places : List ℕ) : Type 0 where
  pub class : ClassPlan
  pub start_is : class.start ≡ length old_places
  pub end_is : class.end ≡ length places
  pub size_is : class.size ≡ size_together s members
  pub places_are : places ≡ old_places ++ id_places skips s 0 members
  pub object_is : class.object ≡ object
  pub plans_are : new ≡ old ++ class ∷ []
