-- When a dump is accepted.
use Rattle.std.specs.Prelude.{List, map, ℕ}
use Rattle.heap_graph.specs.LinkRules.{IsLinked}
use Rattle.heap_graph.specs.Heap.{heap_of}
use Rattle.hprof_grammar.specs.Record.{Record, tag_of}
use Rattle.hprof_grammar.specs.Snapshot.{IsOrderly}
use Rattle.hprof_grammar.specs.Dump.{Spells}

-- A text is accepted if it spells a dump with an orderly list of records and a linked heap list.
pub record IsAccepted (text : List ℕ) (s : ℕ) (records : List Record) : Type 0 where
  pub spells : Spells text s records
  pub orderly : IsOrderly (map tag_of records)
  pub linked : IsLinked s (heap_of records)
