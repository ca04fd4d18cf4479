-- What a tally reads of the objects of a graph.
use Rattle.heap_graph.specs.ObjectGraph.{ObjectGraph, bytes_at, row_at}
use Rattle.heap_graph.specs.RowNumbers.{row_count, row_number}
use Rattle.heap_graph.specs.Whole.{unresolved_at}
use Rattle.heap_graph.specs.Walks.{Visited}
use Rattle.drain.specs.declared.scanned_object.ScannedObject.{ScannedObject}
use Rattle.drain.specs.working.Tallies.{Measure}

abbrev pub measure_of : ObjectGraph → Measure
measure_of g = record {
  rows = row_count g;
  row = λ o. row_number (row_at g o);
  bytes = bytes_at g;
  unresolved = unresolved_at g;
}

-- what a visit has read of its object so far
abbrev pub scanned_in : Visited → ScannedObject
scanned_in v = record { row = row_number v.row; bytes = v.bytes; unresolved = v.unresolved }
