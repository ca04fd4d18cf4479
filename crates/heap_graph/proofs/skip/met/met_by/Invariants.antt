-- The first entries are answered.
use Rattle.heap_graph.proofs.Words.{AreNamesByIdOf, List, Record, class_dumps, described, heap_of, is_met, map, take}
use Rattle.heap_graph.proofs.Words.{◌≡◌}
use Rattle.heap_graph.proofs.skip.met.met_by.Given as goal

abbrev pub invariant-loop-entry : goal.invariant-loop-entry
invariant-loop-entry g l = (records : List Record) → AreNamesByIdOf l.by_id records
    → l.classes ≡ map (described records) (class_dumps (heap_of records))
    → l.met.items ≡ map (is_met records) (take l.entry-index l.entries)
