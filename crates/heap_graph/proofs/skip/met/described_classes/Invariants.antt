-- The classes so far are those with dumps among the objects so far.
use Rattle.heap_graph.proofs.Words.{AreNamesByIdOf, List, Record, StandInTurn, Stands, as_class, described, filter_map}
use Rattle.heap_graph.proofs.Words.{heap_of, map, objects, take, ◌≡◌}
use Rattle.heap_graph.proofs.skip.met.described_classes.Given as goal

abbrev pub invariant-loop-at : goal.invariant-loop-at
invariant-loop-at g l = (records : List Record) → AreNamesByIdOf l.names records
    → StandInTurn (Stands l.view) l.places (objects (heap_of records))
    → l.classes.items ≡ map (described records) (filter_map as_class (take l.at-index (objects (heap_of records))))
