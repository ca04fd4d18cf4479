-- The identifiers so far are those of the first sub-records.
use Rattle.heap_graph.proofs.Words.{List, StandInTurn, Stands, SubRecord, id_of, map, take, ◌≡◌}
use Rattle.heap_graph.proofs.objects.read_ids.Given as goal

abbrev pub invariant-loop-at : goal.invariant-loop-at
invariant-loop-at g l =
    (subs : List SubRecord) → StandInTurn (Stands l.view) l.places subs → l.ids.items ≡ map id_of (take l.at-index subs)
