-- The definitions on small dumps, by computation.
use Rattle.std.proofs.Common.{Bool, List, Some, [], codes, refl, true, false, ℕ, ◌++◌, ◌∷◌, ◌≡◌, reverse, slice_get}
use Rattle.std.proofs.Common.{subst, sym}
use Rattle.std.proofs.Common.{zero, suc}
use Rattle.std.specs.Fmt.{digits}
use Rattle.hprof_grammar.specs.TagsAndTypes.{size_of}
use Rattle.hprof_grammar.specs.SubRecord.{Class, Instance, Member, SubRecord}
use Rattle.hprof_grammar.specs.SubRecord.RootOrigin.{unknown}
use Rattle.hprof_grammar.specs.SubRecord.SubRecord.{class_dump, instance_dump, root}
use Rattle.hprof_grammar.specs.Record.{Record}
use Rattle.hprof_grammar.specs.Record.Record.{heap, load_class, string}
use Rattle.heap_graph.specs.declared.row.RowKey.TheVariants as keys
use Rattle.heap_graph.specs.Heap.{heap_of, objects}
use Rattle.heap_graph.specs.Layout.{IsChain, layout_size}
use Rattle.heap_graph.specs.ObjectGraph.{IsGraphOf, ObjectGraph}
use Rattle.heap_graph.specs.References.{AreIdsIn, instance_ids, targets}
use Rattle.heap_graph.specs.Skips.{SkipEntry, is_skipped}
use Rattle.histogram.specs.Report.{line, report_of}
use Rattle.histogram.specs.Histogram.{Histogram, entries, marked_objects, total, unmarked_objects}

abbrev member : ℕ → Member
member type = record { name = 2; type = type }

abbrev class_with : ℕ → ℕ → List Member → Class
class_with id super members = record {
  object = id;
  stack = 0;
  super = super;
  loader = 0;
  signers = 0;
  domain = 0;
  reserved = 0;
  reserved_too = 0;
  instance_size = 0;
  constants = [];
  statics = [];
  members = members;
}

abbrev instance_of : ℕ → ℕ → List ℕ → Instance
instance_of id class values = record { object = id; stack = 0; class = class; values = values }

abbrev instance_with : ℕ → ℕ → List ℕ → SubRecord
instance_with id class values = instance_dump (instance_of id class values)

abbrev root_at : ℕ → SubRecord
root_at id = root (record { object = id; origin = unknown })

some_inj : {X : Type 0} {x y : X} → Some x ≡ Some y → x ≡ y
some_inj {X} {x} {y} e = cc

-- ---- two objects that refer to each other

abbrev class_a : Class
class_a = class_with 0x100 0 (member 2 ∷ [])

abbrev two : List Record
two =
    let first = instance_with 0x201 0x100 (0 ∷ 0 ∷ 2 ∷ 2 ∷ []) in
    let second = instance_with 0x202 0x100 (0 ∷ 0 ∷ 2 ∷ 1 ∷ []) in
    let subs = class_dump class_a ∷ first ∷ second ∷ root_at 0x201 ∷ [] in
    string 0 1 (codes "A") ∷ load_class 0 1 0x100 0 1 ∷ heap 0x0C 0 subs ∷ []

abbrev graph_of_two : ObjectGraph
graph_of_two = record {
  ids = 0x100 ∷ 0x201 ∷ 0x202 ∷ [];
  id_lists = (0 ∷ 0 ∷ 0 ∷ 0 ∷ []) ∷ (0x100 ∷ 0x202 ∷ []) ∷ (0x100 ∷ 0x201 ∷ []) ∷ [];
  references = [] ∷ (0 ∷ 2 ∷ []) ∷ (0 ∷ 1 ∷ []) ∷ [];
  root_names = 0x201 ∷ [];
  roots = 1 ∷ [];
  rows = keys.ClassObject ∷ keys.Class 0 ∷ keys.Class 0 ∷ [];
  bytes = 0 ∷ 4 ∷ 4 ∷ [];
  classes = record { id = 0x100; text = Some (codes "A") } ∷ [];
  unresolved = 0;
}

two_references :
    let first = instance_of 0x201 0x100 (0 ∷ 0 ∷ 2 ∷ 2 ∷ []) in
    targets (heap_of two) (instance_ids (is_skipped two []) 4 first (class_a ∷ [])) ≡ 0 ∷ 2 ∷ []
unfolding size_of
two_references = refl

-- the histogram of these marks, if the rows are in order from the last to the first
abbrev histogram_of : ObjectGraph → List Bool → Histogram
histogram_of g marks = record {
  rows = reverse (entries g (marked_objects g marks));
  reachable = total g (marked_objects g marks);
  unreachable = total g (unmarked_objects g marks);
  unresolved = g.unresolved;
}

-- its report, all objects reachable
two_report : report_of (histogram_of graph_of_two (true ∷ true ∷ true ∷ [])) ≡
    codes "         2               8  A" ++ 10 ∷
    codes "         1               0  <class>" ++ 10 ∷
    codes "         3               8  (reachable)" ++ 10 ∷
    codes "         0               0  (unreachable)" ++ 10 ∷
    codes "         0               0  (unresolved)" ++ 10 ∷ []
unfolding digits line entries
two_report = refl

abbrev AreIdsOfTwo : List ℕ → SubRecord → Type 0
AreIdsOfTwo ids o = AreIdsIn (is_skipped two []) 4 (heap_of two) o ids

two_id_lists : (n : ℕ) (o : SubRecord) (ids : List ℕ) → slice_get (objects (heap_of two)) n ≡ Some o
    → slice_get graph_of_two.id_lists n ≡ Some ids → AreIdsOfTwo ids o
unfolding size_of
two_id_lists zero o ids e f = subst (AreIdsOfTwo ids) (some_inj e) (sym (some_inj f))
two_id_lists (suc zero) o ids e f =
    subst (AreIdsOfTwo ids) (some_inj e) (class_a ∷ [], (refl, refl), sym (some_inj f))
two_id_lists (suc (suc zero)) o ids e f =
    subst (AreIdsOfTwo ids) (some_inj e) (class_a ∷ [], (refl, refl), sym (some_inj f))
two_id_lists (suc (suc (suc n))) o ids e f = cc

two_is_its_graph : IsGraphOf 4 two [] graph_of_two
unfolding size_of
two_is_its_graph = record {
  ids_are = refl;
  id_lists_are = record { one_each = refl; each = two_id_lists };
  references_are = refl;
  root_names_are = refl;
  roots_are = refl;
  rows_are = refl;
  bytes_are = refl;
  classes_are = refl;
  unresolved_is = refl;
}

-- ---- two more objects that no path reaches

abbrev graph_of_four : ObjectGraph
graph_of_four = record {
  ids = 0x100 ∷ 0x201 ∷ 0x202 ∷ 0x203 ∷ 0x204 ∷ [];
  id_lists = graph_of_two.id_lists ++ (0x100 ∷ 0x204 ∷ []) ∷ (0x100 ∷ 0x203 ∷ []) ∷ [];
  references = [] ∷ (0 ∷ 2 ∷ []) ∷ (0 ∷ 1 ∷ []) ∷ (0 ∷ 4 ∷ []) ∷ (0 ∷ 3 ∷ []) ∷ [];
  root_names = 0x201 ∷ [];
  roots = 1 ∷ [];
  rows = keys.ClassObject ∷ keys.Class 0 ∷ keys.Class 0 ∷ keys.Class 0 ∷ keys.Class 0 ∷ [];
  bytes = 0 ∷ 4 ∷ 4 ∷ 4 ∷ 4 ∷ [];
  classes = record { id = 0x100; text = Some (codes "A") } ∷ [];
  unresolved = 0;
}

four_report : report_of (histogram_of graph_of_four (true ∷ true ∷ true ∷ false ∷ false ∷ [])) ≡
    codes "         2               8  A" ++ 10 ∷
    codes "         1               0  <class>" ++ 10 ∷
    codes "         3               8  (reachable)" ++ 10 ∷
    codes "         2               8  (unreachable)" ++ 10 ∷
    codes "         0               0  (unresolved)" ++ 10 ∷ []
unfolding digits line entries
four_report = refl

-- ---- a class below another: the layout has the class's own fields first

abbrev class_b : Class
class_b = class_with 0x110 0x100 (member 10 ∷ [])

abbrev below : List Record
below =
    let first = instance_with 0x301 0x110 (0 ∷ 0 ∷ 0 ∷ 5 ∷ 0 ∷ 0 ∷ 2 ∷ 2 ∷ []) in
    let second = instance_with 0x202 0x100 (0 ∷ 0 ∷ 0 ∷ 0 ∷ []) in
    heap 0x0C 0 (class_dump class_b ∷ class_dump class_a ∷ first ∷ second ∷ root_at 0x301 ∷ []) ∷ []

below_chain : IsChain (heap_of below) 0x110 (class_b ∷ class_a ∷ [])
below_chain = (refl, (refl, refl))

below_size : layout_size 4 (class_b ∷ class_a ∷ []) ≡ 8
unfolding size_of
below_size = refl

below_references :
    let first = instance_of 0x301 0x110 (0 ∷ 0 ∷ 0 ∷ 5 ∷ 0 ∷ 0 ∷ 2 ∷ 2 ∷ []) in
    targets (heap_of below) (instance_ids (is_skipped below []) 4 first (class_b ∷ class_a ∷ [])) ≡ 0 ∷ 3 ∷ []
unfolding size_of
below_references = refl

-- ---- a field of a class, or of the class above it that has the same name, is not followed

abbrev class_t : Class
class_t = class_with 0x110 0x100 (member 2 ∷ [])

abbrev named : List Record
named =
    let strings = string 0 1 (codes "S") ∷ string 0 2 (codes "referent") ∷ string 0 3 (codes "T") ∷ [] in
    strings ++ load_class 0 1 0x100 0 1 ∷ load_class 0 1 0x110 0 3 ∷ []

abbrev entry : List ℕ → SkipEntry
entry class = record { class = class; field = codes "referent" }

abbrev followed : List SkipEntry → List ℕ
followed skip =
    let object = instance_of 0x201 0x110 (0 ∷ 0 ∷ 2 ∷ 2 ∷ 0 ∷ 0 ∷ 2 ∷ 3 ∷ []) in
    instance_ids (is_skipped named skip) 4 object (class_t ∷ class_a ∷ [])

all_followed : followed [] ≡ 0x110 ∷ 0x202 ∷ 0x203 ∷ []
unfolding size_of
all_followed = refl

first_skipped : followed (entry (codes "T") ∷ []) ≡ 0x110 ∷ 0x203 ∷ []
unfolding size_of
first_skipped = refl

second_skipped : followed (entry (codes "S") ∷ []) ≡ 0x110 ∷ 0x202 ∷ []
unfolding size_of
second_skipped = refl

none_left : followed (entry (codes "S") ∷ entry (codes "T") ∷ []) ≡ 0x110 ∷ []
unfolding size_of
none_left = refl
