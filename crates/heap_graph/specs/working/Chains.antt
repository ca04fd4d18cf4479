-- Chains of superclasses by the numbers of classes, and what is known of them. `ids` are the identifiers of the
-- classes, by their numbers.
use Rattle.std.specs.Prelude.{Bool, Contains, List, None, Option, Some, [], false, length, min, slice_get, slice_index}
use Rattle.std.specs.Prelude.{true, ℕ, ◌++◌, ◌<◌, ◌∷◌, ◌≡◌, ◌≢◌}
use Rattle.hprof_grammar.specs.SubRecord.{Class, Member, SubRecord}
use Rattle.heap_graph.specs.Heap.{class_named}
use Rattle.heap_graph.specs.Fields.{declared_fields, own_fields}
use Rattle.heap_graph.specs.Layout.{IsChain, NeverEnds, layout_size}
use Rattle.heap_graph.specs.working.ClassTable.{ids_of}
use Rattle.heap_graph.specs.declared.classes.Classes.{Classes}
use Rattle.heap_graph.specs.declared.classes.chains.Step.{Step}
use Rattle.heap_graph.specs.declared.classes.chains.Step.TheVariants as steps
use Rattle.heap_graph.specs.declared.classes.fate.Fate.{Fate}
use Rattle.heap_graph.specs.declared.classes.fate.Fate.TheVariants as fates
use Rattle.heap_graph.specs.declared.classes.fate.Layout.{Layout}
use Rattle.heap_graph.specs.declared.classes.chains.Above.{Above}
use Rattle.heap_graph.specs.declared.classes.chains.Above.TheVariants as aboves

-- class `k` has the superclass identifier `super`
pub record IsUnder (heap : List SubRecord) (ids : List ℕ) (k super : ℕ) : Type 0 where
  pub class : Class
  pub below : k < length ids
  pub named : class_named heap (slice_index ids k) ≡ Some class
  pub super_is : class.super ≡ super

-- `above` is what is above a class with the superclass identifier `super`
abbrev pub IsAbove : List SubRecord → List ℕ → ℕ → Above → Type 0
IsAbove heap ids super aboves.Nothing = super ≡ 0
IsAbove heap ids super aboves.Missing = (super ≢ 0) × (class_named heap super ≡ None)
IsAbove heap ids super (aboves.Class k) = (k < length ids) × (slice_index ids k ≡ super)

-- the list has the class that `id` names, then its superclass, and so on up, to a superclass that is missing
abbrev pub IsCut : List SubRecord → ℕ → List Class → Type 0
IsCut heap id [] = (id ≢ 0) × (class_named heap id ≡ None)
IsCut heap id (c ∷ cs) = (class_named heap id ≡ Some c) × IsCut heap c.super cs

-- the largest size that a layout stores; a larger size is stored as this
abbrev pub most_size : ℕ
most_size = 4294967296

-- `fields` are those that class `k` declares, at least one, then those that all classes above it declare. Each field is
-- paired with the class that declares it.
pub record BeginsAt (heap : List SubRecord) (ids : List ℕ) (fields : List (Class × Member)) (k : ℕ) : Type 0 where
  pub class : Class
  pub rest : List Class
  pub below : k < length ids
  pub named : class_named heap (slice_index ids k) ≡ Some class
  pub chain : IsChain heap class.super rest
  pub some_field : class.members ≢ []
  pub fields_are : fields ≡ own_fields class ++ declared_fields rest

abbrev pub IsFirst : List SubRecord → List ℕ → List (Class × Member) → Option ℕ → Type 0
IsFirst heap ids fields None = fields ≡ []
IsFirst heap ids fields (Some k) = BeginsAt heap ids fields k

abbrev pub tail : List Class → List Class
tail [] = []
tail (c ∷ cs) = cs

pub record IsLayoutOf (s : ℕ) (heap : List SubRecord) (ids : List ℕ) (chain : List Class) (l : Layout) : Type 0 where
  pub size_is : l.size ≡ min most_size (layout_size s chain)
  pub first_is : IsFirst heap ids (declared_fields chain) l.first
  pub next_is : IsFirst heap ids (declared_fields (tail chain)) l.next

-- what a fate says of the classes from `id` up
abbrev pub IsFate : ℕ → List SubRecord → List ℕ → ℕ → Fate → Type 0
IsFate s heap ids id fates.Unknown = Unit {0}
IsFate s heap ids id fates.OnPath = Unit {0}
IsFate s heap ids id (fates.Whole l) = (chain : List Class) × IsChain heap id chain × IsLayoutOf s heap ids chain l
IsFate s heap ids id fates.Broken = (classes : List Class) × IsCut heap id classes
IsFate s heap ids id fates.Endless = NeverEnds heap id

abbrev pub IsSettled : Fate → Type 0
IsSettled fates.Unknown = ⊥
IsSettled fates.OnPath = ⊥
IsSettled (fates.Whole l) = Unit {0}
IsSettled fates.Broken = Unit {0}
IsSettled fates.Endless = Unit {0}

-- the fates of all classes, while the classes of `path` are being followed
pub record AreFates (s : ℕ) (heap : List SubRecord) (ids path : List ℕ) (known : List Fate) : Type 0 where
  pub one_each : length known ≡ length ids
  pub each : (k : ℕ) (f : Fate) → slice_get known k ≡ Some f → IsFate s heap ids (slice_index ids k) f
  pub on_path : (k : ℕ) → slice_get known k ≡ Some fates.OnPath → Contains path k

-- the fate of class `k` is known
pub record IsKnown (known : List Fate) (k : ℕ) : Type 0 where
  pub fate : Fate
  pub is : slice_get known k ≡ Some fate
  pub settled : IsSettled fate

-- each class of the path has the next one as its superclass, and the last one has the superclass identifier `super`
abbrev pub IsPath : List SubRecord → List ℕ → List ℕ → ℕ → Type 0
IsPath heap ids [] super = Unit {0}
IsPath heap ids (k ∷ []) super = IsUnder heap ids k super
IsPath heap ids (k ∷ m ∷ path) super = IsUnder heap ids k (slice_index ids m) × IsPath heap ids (m ∷ path) super

-- a climb has ended: what is above the last class of `path` has the fate `fate`
pub record IsTop (s : ℕ) (heap : List SubRecord) (ids path : List ℕ) (fate : Fate) : Type 0 where
  pub super : ℕ
  pub path_is : IsPath heap ids path super
  pub fate_is : IsFate s heap ids super fate
  pub settled : IsSettled fate

-- how a climb continues above a class with the superclass identifier `super`
abbrev pub IsStep : ℕ → List SubRecord → List ℕ → List Fate → ℕ → Step → Type 0
IsStep s heap ids known super (steps.Up next) = (next < length ids) × (slice_index ids next ≡ super)
    × (slice_get known next ≡ Some fates.Unknown)
IsStep s heap ids known super (steps.End fate) = IsFate s heap ids super fate × IsSettled fate

-- a climb from the class `first` has reached the class `at`, whose fate is unknown; the classes before it are the path
pub record IsClimb (s : ℕ) (heap : List SubRecord) (ids : List ℕ) (first : ℕ) (path : List ℕ) (known : List Fate)
    (at : ℕ) : Type 0 where
  pub fates_are : AreFates s heap ids path known
  pub path_is : IsPath heap ids path (slice_index ids at)
  pub below : at < length ids
  pub unknown : slice_get known at ≡ Some fates.Unknown
  pub from : Contains (path ++ at ∷ []) first

-- each class with a known fate in `old` has a known fate in `new`
abbrev pub DoesStay : List Fate → List Fate → Type 0
DoesStay old new = (k : ℕ) → IsKnown old k → IsKnown new k

-- the fates of all classes are known
pub record AreSettled (s : ℕ) (heap : List SubRecord) (ids : List ℕ) (known : List Fate) : Type 0 where
  pub fates_are : AreFates s heap ids [] known
  pub each_known : (k : ℕ) → k < length ids → IsKnown known k

abbrev pub is_unknown : Fate → Bool
is_unknown fates.Unknown = true
is_unknown fates.OnPath = false
is_unknown (fates.Whole l) = false
is_unknown fates.Broken = false
is_unknown fates.Endless = false

-- class `k` is `c`, and `rest` are all classes above it
pub record IsChainAt (heap : List SubRecord) (ids : List ℕ) (k : ℕ) (c : Class) (rest : List Class) : Type 0 where
  pub below : k < length ids
  pub named : class_named heap (slice_index ids k) ≡ Some c
  pub chain : IsChain heap c.super rest

-- ---- the same for a table of classes

abbrev pub AreFatesOf : {A : Type 0} → Classes A → List SubRecord → List ℕ → List Fate → Type 0
AreFatesOf o heap path known = AreFates o.view.id_size heap (ids_of o.table.entries) path known

abbrev pub IsFateOf : {A : Type 0} → Classes A → List SubRecord → ℕ → Fate → Type 0
IsFateOf o heap super fate = IsFate o.view.id_size heap (ids_of o.table.entries) super fate

abbrev pub IsUnderOf : {A : Type 0} → Classes A → List SubRecord → ℕ → ℕ → Type 0
IsUnderOf o heap k super = IsUnder heap (ids_of o.table.entries) k super

abbrev pub IsAboveOf : {A : Type 0} → Classes A → List SubRecord → ℕ → Above → Type 0
IsAboveOf o heap super above = IsAbove heap (ids_of o.table.entries) super above

abbrev pub IsPathOf : {A : Type 0} → Classes A → List SubRecord → List ℕ → ℕ → Type 0
IsPathOf o heap path super = IsPath heap (ids_of o.table.entries) path super

abbrev pub IsStepOf : {A : Type 0} → Classes A → List SubRecord → List Fate → ℕ → Step → Type 0
IsStepOf o heap known super step = IsStep o.view.id_size heap (ids_of o.table.entries) known super step

abbrev pub IsTopOf : {A : Type 0} → Classes A → List SubRecord → List ℕ → Fate → Type 0
IsTopOf o heap path fate = IsTop o.view.id_size heap (ids_of o.table.entries) path fate

abbrev pub IsClimbOf : {A : Type 0} → Classes A → List SubRecord → ℕ → List ℕ → List Fate → ℕ → Type 0
IsClimbOf o heap first path known at = IsClimb o.view.id_size heap (ids_of o.table.entries) first path known at

abbrev pub AreSettledOf : {A : Type 0} → Classes A → List SubRecord → List Fate → Type 0
AreSettledOf o heap known = AreSettled o.view.id_size heap (ids_of o.table.entries) known

abbrev pub IsChainAtOf : {A : Type 0} → Classes A → List SubRecord → ℕ → Class → List Class → Type 0
IsChainAtOf o heap k c rest = IsChainAt heap (ids_of o.table.entries) k c rest

abbrev pub IsFirstOf : {A : Type 0} → Classes A → List SubRecord → List Class → Option ℕ → Type 0
IsFirstOf o heap chain first = IsFirst heap (ids_of o.table.entries) (declared_fields chain) first

abbrev pub IsLayoutAtOf : {A : Type 0} → Classes A → List SubRecord → List Class → Layout → Type 0
IsLayoutAtOf o heap chain l = IsLayoutOf o.view.id_size heap (ids_of o.table.entries) chain l
