-- The rule for superclasses: the superclass of a class exists, and following superclasses ends.
use Rattle.std.specs.Prelude.{List, None, ℕ, ◌≡◌, ◌≢◌, ◌⊎◌}
use Rattle.heap_graph.specs.Heap.{class_named}
use Rattle.heap_graph.specs.Layout.{NeverEnds}
use Rattle.hprof_grammar.specs.SubRecord.{SubRecord}

-- What is wrong with the superclass identifier of a class: it is not 0 and names no class, or following superclasses
-- never ends. A superclass that is missing further up is the fault of the class that names it.
abbrev pub IsBadSuper : List SubRecord → ℕ → Type 0
IsBadSuper heap super = ((super ≢ 0) × (class_named heap super ≡ None)) ⊎ NeverEnds heap super
