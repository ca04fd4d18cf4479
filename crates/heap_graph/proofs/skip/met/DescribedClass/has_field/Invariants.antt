-- One of the remaining fields has the name exactly if one of all fields has it.
use Rattle.heap_graph.proofs.Words.{AreNamesByIdOf, List, Record, list_any, ◌≡◌}
use Rattle.heap_graph.specs.MetEntries.{is_called}
use Rattle.heap_graph.proofs.skip.met.DescribedClass.has_field.Given as goal

abbrev pub invariant-loop-member : goal.invariant-loop-member
invariant-loop-member g l = (records : List Record) → AreNamesByIdOf l.names records
    → list_any (is_called records l.name) l.member-iterator ≡ list_any (is_called records l.name) l.self.members
