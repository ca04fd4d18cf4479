-- The superclasses of a class, and the layout of its instances.
use Rattle.std.specs.Prelude.{List, Some, [], flat_map, length, sum_by, ℕ, ◌∷◌, ◌≡◌}
use Rattle.heap_graph.specs.Heap.{class_named}
use Rattle.hprof_grammar.specs.TagsAndTypes.{size_of}
use Rattle.hprof_grammar.specs.SubRecord.{Class, Member, SubRecord}

-- the list has the class that `id` names, then its superclass, and so on up; it may stop anywhere
abbrev pub IsLine : List SubRecord → ℕ → List Class → Type 0
IsLine heap id [] = Unit {0}
IsLine heap id (c ∷ cs) = (class_named heap id ≡ Some c) × IsLine heap c.super cs

-- like `IsLine`, and the list stops only after a class without a superclass; it is empty if `id` is 0
abbrev pub IsChain : List SubRecord → ℕ → List Class → Type 0
IsChain heap id [] = id ≡ 0
IsChain heap id (c ∷ cs) = (class_named heap id ≡ Some c) × IsChain heap c.super cs

-- following superclasses from `id` on never ends
abbrev pub NeverEnds : List SubRecord → ℕ → Type 0
NeverEnds heap id = (n : ℕ) → (classes : List Class) × (length classes ≡ n) × IsLine heap id classes

-- A class's own instance fields in their order, then its superclass's layout.
abbrev pub layout : List Class → List Member
layout chain = flat_map (λ c. c.members) chain

abbrev pub layout_size : ℕ → List Class → ℕ
layout_size s chain = sum_by (λ m. size_of s m.type) (layout chain)
