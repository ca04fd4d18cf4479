-- A graph has settled classes, which are few.
use Rattle.heap_graph.proofs.graph.Graph.is_class_guessed.Goals as goal

pub is_guessed-requires : goal.is_guessed-requires
is_guessed-requires g c = c.self.invariant.fates.few
