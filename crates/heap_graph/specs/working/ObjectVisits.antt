-- What is read of an object in one step.
use Rattle.std.specs.Prelude.{Bool, IfSome, List, Option, Some, slice_get, ℕ, ◌++◌, ◌≡◌}
use Rattle.hprof_grammar.specs.SubRecord.{Class, Member, SubRecord}
use Rattle.heap_graph.specs.Heap.{objects}
use Rattle.heap_graph.specs.Rows.{bytes_of, row_of}
use Rattle.heap_graph.specs.declared.objects.Objects.{Objects}
use Rattle.heap_graph.specs.declared.row.RowKey.{RowKey}
use Rattle.heap_graph.specs.working.ObjectIds.{AreIdsOf}
use Rattle.heap_graph.specs.working.Resolving.{IsNamed, known_ids}

-- the row and the bytes of object `n`, the number of the object that is its class, if this is known, and the
-- identifiers that object `n` holds, without that of a known class
pub record IsVisitOf {A : Type 0} (skips : Class → Member → Bool) (o : Objects A) (heap : List SubRecord) (n : ℕ)
    (row : RowKey) (bytes : ℕ) (class : Option ℕ) (ids : List ℕ) : Type 0 where
  pub object : SubRecord
  pub is : slice_get (objects heap) n ≡ Some object
  pub row_is : row ≡ row_of heap object
  pub bytes_is : bytes ≡ bytes_of o.view.id_size object
  pub named : IfSome class (IsNamed o.index)
  pub ids_are : AreIdsOf skips o.view.id_size heap object (known_ids o.index class ++ ids)
