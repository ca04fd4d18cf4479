-- The references of a graph as pairs.
use Rattle.std.specs.Prelude.{List, [], map, ℕ, ◌+◌, ◌++◌, ◌∷◌}
use Rattle.heap_graph.specs.ObjectGraph.{ObjectGraph}

-- each object, counted from `first`, with each object that it refers to
abbrev pub pairs_from : ℕ → List (List ℕ) → List (ℕ × ℕ)
pairs_from first [] = []
pairs_from first (nexts ∷ references) = map (λ next. (first, next)) nexts ++ pairs_from (first + 1) references

abbrev pub pairs_of : ObjectGraph → List (ℕ × ℕ)
pairs_of g = pairs_from 0 g.references
