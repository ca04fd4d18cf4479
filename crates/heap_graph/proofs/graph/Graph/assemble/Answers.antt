-- The parts of the linked objects are read of the records of their dump.
use Rattle.heap_graph.proofs.graph.Graph.assemble.Goals as goal

pub read_parts-requires : goal.read_parts-requires
read_parts-requires g c = (c.requires.2.records, c.requires.4)

pub of-requires : goal.of-requires
of-requires g c = (
  c.requires.0,
  c.requires.1,
  c.requires.2,
  c.requires.3,
  c.in_ok-parts.ensures c.requires.2.records c.requires.4,
)
