-- The results of the tests of one object.
use Rattle.std.specs.Prelude.{List, None, Option, Some, slice_get, ℕ, ◌<◌, ◌≡◌, ◌≤◌}
use Rattle.hprof_grammar.specs.SubRecord.{SubRecord}
use Rattle.heap_graph.specs.declared.refusal.LinkFault.{LinkFault}
use Rattle.heap_graph.specs.declared.refusal.LinkRule.{LinkRule}
use Rattle.heap_graph.specs.declared.refusal.LinkRule.TheVariants.{DuplicateObject, InstanceSize, SuperChain, TooLarge}
use Rattle.heap_graph.specs.declared.refusal.LinkRule.TheVariants.{UnknownClass, ZeroObject}
use Rattle.heap_graph.specs.LinkFault.{IsFirstFault, IsLeastFault, code_of}
use Rattle.heap_graph.specs.LinkRules.{Fails, HasBadChain, HasWrongSize, LacksClass}

-- object `o` breaks the rule, which is one of those that depend on its kind: on classes, superclasses and sizes
abbrev pub BreaksOfKind : ℕ → List SubRecord → SubRecord → LinkRule → Type 0
BreaksOfKind s heap o ZeroObject = ⊥
BreaksOfKind s heap o DuplicateObject = ⊥
BreaksOfKind s heap o UnknownClass = LacksClass heap o
BreaksOfKind s heap o SuperChain = HasBadChain heap o
BreaksOfKind s heap o InstanceSize = HasWrongSize s heap o
BreaksOfKind s heap o TooLarge = ⊥

-- the first of these rules that the object breaks, or `None` if it breaks none
abbrev pub IsRuleOfKind : ℕ → List SubRecord → SubRecord → Option LinkRule → Type 0
IsRuleOfKind s heap o None = (rule : LinkRule) → BreaksOfKind s heap o rule → ⊥
IsRuleOfKind s heap o (Some rule) = BreaksOfKind s heap o rule
    × ((other : LinkRule) → BreaksOfKind s heap o other → code_of rule ≤ code_of other)

-- the first of all rules that object `n` breaks, or `None` if it breaks none
abbrev pub IsLeastRule : ℕ → List SubRecord → ℕ → Option LinkRule → Type 0
IsLeastRule s heap n None = (rule : LinkRule) → Fails s heap n rule → ⊥
IsLeastRule s heap n (Some rule) = IsLeastFault s heap n rule

-- the objects before number `to` break no rule
abbrev pub AreFine : ℕ → List SubRecord → ℕ → Type 0
AreFine s heap to = (k : ℕ) (rule : LinkRule) → k < to → Fails s heap k rule → ⊥

-- the first fault of the objects, with the place of its object
pub record IsFaultOf (s : ℕ) (heap : List SubRecord) (places : List ℕ) (fault : LinkFault) : Type 0 where
  pub number : ℕ
  pub rule : LinkRule
  pub first : IsFirstFault s heap number rule
  pub code_is : fault.code ≡ code_of rule
  pub place_is : slice_get places number ≡ Some fault.offset
