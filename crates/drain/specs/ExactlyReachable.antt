-- What a marking promises of its marks.
use Rattle.std.specs.Prelude.{Bool, List}
use Rattle.heap_graph.specs.ObjectGraph.{ObjectGraph}
use Rattle.heap_graph.specs.Reachable.{MarksReachableOf}

-- There is a mark for each object of the graph, and those that are set are exactly the marks of the objects that a path
-- of references joins to a root.
abbrev pub ExactlyReachable : ObjectGraph → List Bool → Type 0
ExactlyReachable g marks = MarksReachableOf g marks
