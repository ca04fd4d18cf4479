-- The first fault in the links of a dump.
use Rattle.std.specs.Prelude.{List, Some, map, slice_get, ℕ, ◌<◌, ◌≡◌, ◌≤◌}
use Rattle.heap_graph.specs.Heap.{heap_of}
use Rattle.heap_graph.specs.LinkRules.{Fails}
use Rattle.hprof_grammar.specs.Record.{Record, tag_of}
use Rattle.hprof_grammar.specs.Snapshot.{IsOrderly}
use Rattle.hprof_grammar.specs.Dump.{Spells, heap_list, is_object}
use Rattle.hprof_grammar.specs.Dump.{places_where}
use Rattle.hprof_grammar.specs.SubRecord.{SubRecord}
use Rattle.heap_graph.specs.declared.refusal.LinkRule.{LinkRule}
use Rattle.heap_graph.specs.declared.refusal.LinkRule.TheVariants.{DuplicateObject, InstanceSize, SuperChain, TooLarge}
use Rattle.heap_graph.specs.declared.refusal.LinkRule.TheVariants.{UnknownClass, ZeroObject}

abbrev pub code_of : LinkRule → ℕ
code_of ZeroObject = 9
code_of DuplicateObject = 10
code_of UnknownClass = 11
code_of SuperChain = 12
code_of InstanceSize = 13
code_of TooLarge = 14

-- the rule is the one with the least code among those that object `n` breaks
pub record IsLeastFault (s : ℕ) (heap : List SubRecord) (n : ℕ) (rule : LinkRule) : Type 0 where
  pub fails : Fails s heap n rule
  pub least : (other : LinkRule) → Fails s heap n other → code_of rule ≤ code_of other

-- like `IsLeastFault`, and no object before `n` breaks a rule
pub record IsFirstFault (s : ℕ) (heap : List SubRecord) (n : ℕ) (rule : LinkRule) : Type 0 where
  pub here : IsLeastFault s heap n rule
  pub first : (before : ℕ) (other : LinkRule) → before < n → Fails s heap before other → ⊥

-- The text spells a dump with an orderly list of records, but its objects are not linked. `code` is the code of the
-- first fault, and `place` is the place of the sub-record of the object that has it.
pub record HasLinkFault (text : List ℕ) (code place : ℕ) : Type 0 where
  pub id_size : ℕ
  pub records : List Record
  pub spells : Spells text id_size records
  pub orderly : IsOrderly (map tag_of records)
  pub number : ℕ
  pub rule : LinkRule
  pub first : IsFirstFault id_size (heap_of records) number rule
  pub code_is : code ≡ code_of rule
  pub place_is : slice_get (places_where is_object (heap_list id_size records)) number ≡ Some place
