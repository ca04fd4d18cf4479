-- The graph of a text and a list of fields that are not followed: there is at most one.
use Rattle.std.specs.Prelude.{List, ℕ, ◌≡◌}
use Rattle.std.specs.Coded.{codes}
use Rattle.std.proofs.Math.Logic.{∥∥₁_elim, ∥∥₁_prop}
use Rattle.std.proofs.Math.Path.{Σ_path, to_path_p}
use Rattle.heap_graph.specs.ObjectGraph.{IsGraphOfText, ObjectGraph}
use Rattle.heap_graph.specs.Skips.{SkipEntry}
use Rattle.heap_graph.specs.working.OneGraph.{one_graph}

abbrev pub GraphOf : List ℕ → List SkipEntry → Type 0
GraphOf text skip = (g : ObjectGraph) × ∥ IsGraphOfText text skip g ∥₁

graphs_are_a_set : (g h : ObjectGraph) → IsProp (g ≡ h)
graphs_are_a_set g h = Prim.hlevel codes

pub GraphOf-prop : (text : List ℕ) (skip : List SkipEntry) → IsProp (GraphOf text skip)
GraphOf-prop text skip = λ x y.
    let same : x.0 ≡ y.0 = ∥∥₁_elim x.1 (graphs_are_a_set x.0 y.0)
    (λ h. ∥∥₁_elim y.1 (graphs_are_a_set x.0 y.0) (λ k. one_graph text skip x.0 y.0 h k)) in
    Σ_path same (to_path_p (λ i. ∥ IsGraphOfText text skip (same i) ∥₁) (∥∥₁_prop _ _))
