-- The classes so far are the first ones of the table, each with the text that names it.
use Rattle.heap_graph.proofs.Words.{AreNamesByIdOf, List, Record, ids_of}
use Rattle.heap_graph.proofs.ClassLaws.{AreNamed}
use Rattle.heap_graph.proofs.objects.Objects.classes.Given as goal

abbrev pub invariant-loop-number : goal.invariant-loop-number
invariant-loop-number g l = (records : List Record) → AreNamesByIdOf l.names records
    → AreNamed records (ids_of l.self.classes.table.entries) l.number l.classes.items
