-- When a heap list is linked.
use Rattle.std.specs.Prelude.{Contains, List, None, Some, length, map, slice_get, take, ℕ, ◌≡◌, ◌≢◌, ◌≤◌}
use Rattle.heap_graph.specs.SuperRule.{IsBadSuper}
use Rattle.heap_graph.specs.Layout.{IsChain, layout_size}
use Rattle.heap_graph.specs.Heap.{class_named, id_of, objects}
use Rattle.hprof_grammar.specs.SubRecord.{Class, SubRecord}
use Rattle.hprof_grammar.specs.SubRecord.SubRecord.{class_dump, instance_dump, object_array_dump}
use Rattle.heap_graph.specs.declared.refusal.LinkRule.{LinkRule}
use Rattle.heap_graph.specs.declared.refusal.LinkRule.TheVariants.{DuplicateObject, InstanceSize, SuperChain, TooLarge}
use Rattle.heap_graph.specs.declared.refusal.LinkRule.TheVariants.{UnknownClass, ZeroObject}

abbrev pub most_objects : ℕ
most_objects = 16777216

-- an instance or object array whose class is missing
abbrev pub LacksClass : List SubRecord → SubRecord → Type 0
LacksClass heap (instance_dump i) = class_named heap i.class ≡ None
LacksClass heap (object_array_dump a) = class_named heap a.class ≡ None
LacksClass heap o = ⊥

-- a class whose superclass is missing, or whose superclasses never end
abbrev pub HasBadChain : List SubRecord → SubRecord → Type 0
HasBadChain heap (class_dump c) = IsBadSuper heap c.super
HasBadChain heap o = ⊥

-- an instance with more or fewer value bytes than its layout
abbrev pub HasWrongSize : ℕ → List SubRecord → SubRecord → Type 0
HasWrongSize s heap (instance_dump i) = (chain : List Class) × IsChain heap i.class chain
    × (length i.values ≢ layout_size s chain)
HasWrongSize s heap o = ⊥

-- Object number `n` of the heap list, which is `o`, breaks the rule.
abbrev pub Breaks : ℕ → List SubRecord → ℕ → SubRecord → LinkRule → Type 0
Breaks s heap n o ZeroObject = id_of o ≡ 0
Breaks s heap n o DuplicateObject = Contains (take n (map id_of (objects heap))) (id_of o)
Breaks s heap n o UnknownClass = LacksClass heap o
Breaks s heap n o SuperChain = HasBadChain heap o
Breaks s heap n o InstanceSize = HasWrongSize s heap o
Breaks s heap n o TooLarge = most_objects ≤ n

abbrev pub Fails : ℕ → List SubRecord → ℕ → LinkRule → Type 0
Fails s heap n rule = (o : SubRecord) × (slice_get (objects heap) n ≡ Some o) × Breaks s heap n o rule

-- A heap list is linked if no object breaks a rule.
abbrev pub IsLinked : ℕ → List SubRecord → Type 0
IsLinked s heap = (n : ℕ) (rule : LinkRule) → Fails s heap n rule → ⊥
