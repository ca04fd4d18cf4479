-- The objects of a dump that were read and tested by the rules of the links.
use Rattle.std.specs.Prelude.{List, ℕ, ◌≡◌}
use Rattle.hprof_grammar.specs.Places.{IsDumpOf, Places}
use Rattle.heap_graph.specs.Heap.{heap_of}
use Rattle.heap_graph.specs.working.ObjectIds.{AreLinkedOf}
use Rattle.heap_graph.specs.working.ClassFates.{HaveFatesOf}
use Rattle.heap_graph.specs.declared.objects.Objects.{Objects}

-- the objects are those of the dump that `text` spells, they are linked, and their classes have their fates
pub record IsReadOf {A : Type 0} (text : List ℕ) (dump : Places) (is : IsDumpOf text dump)
    (o : Objects A) : Type 0 where
  pub bytes_are : o.view.bytes ≡ text
  pub size_is : o.view.id_size ≡ dump.id_size
  pub linked : AreLinkedOf o (heap_of is.records)
  pub fates : HaveFatesOf o (heap_of is.records)
