-- The classes and the roots are those of one list of records.
use Rattle.heap_graph.specs.Heap.{heap_of}
use Rattle.heap_graph.proofs.graph.classes_and_roots.read_parts.Goals as goal

pub name_classes-requires-clause-fates : goal.name_classes-requires-clause-fates
name_classes-requires-clause-fates g c = (heap_of c.requires.0, c.requires.1.fates)

pub name_classes-requires-clause-names : goal.name_classes-requires-clause-names
name_classes-requires-clause-names g c = (c.requires.0, c.requires.1.names_are)

pub find_roots-requires : goal.find_roots-requires
find_roots-requires g c = (_, c.requires.1.roots_stand)

pub returns : goal.returns
returns g c = λ records may. record {
  named = c.in_ok-named.ensures records may.linked may.fates may.names_are;
  rooted = c.in_ok-rooted.ensures (heap_of records) may.linked may.roots_stand;
}
