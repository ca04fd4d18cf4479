-- The totals of the parts of some objects are together those of all.
use Rattle.std.proofs.Common.{◌≡◌, ℕ, ◌%◌, ◌*◌, ◌+◌, ◌/◌, ◌<◌, ◌≤◌, List, [], ◌++◌, length, min, get_or, take, drop}
use Rattle.std.proofs.Common.{ap, sym, subst, ◌∙◌, arith, append-nil, take-append-drop}
use Rattle.std.proofs.lemmas.List.{drop-drop}
use Rattle.std.proofs.Math.ListN.{drop_of_length-le}
use Rattle.std.specs.Fork.{IsChunk}
use native.Mathlib.Nat.{add-mul, one-mul}
use Rattle.heap_graph.specs.ObjectGraph.{ObjectGraph}
use Rattle.histogram.specs.declared.unmarked.Unmarked.{Unmarked}
use Rattle.histogram.specs.working.Unmarked.{AreGraphObjects, totals_of}
use Rattle.histogram.proofs.UnmarkedLaws.{HasCounted, before_are_objects, behind_are_objects}

module _ (g : ObjectGraph) where
  -- the totals of the parts of `numbers`, each of `size` objects, the last perhaps of fewer
  pub record AreTotalsOfParts (numbers : List ℕ) (size : ℕ) (totals : List Unmarked) : Type 0 where
    pub some : 0 < size
    pub count : length totals ≡ length numbers / size + min 1 (length numbers % size)
    pub each : (n : ℕ) (d : Unmarked) → n < length totals
        → get_or totals n d ≡ totals_of g (take size (drop (n * size) numbers))

  pub chunk_are_objects : (numbers part : List ℕ) (size start : ℕ) → IsChunk numbers size start part
      → AreGraphObjects g numbers → AreGraphObjects g part
  chunk_are_objects numbers part size start chunk are =
      let rest = drop start numbers in
      let behind = behind_are_objects g (take start numbers) rest
      (subst (AreGraphObjects g) (sym (take-append-drop start numbers)) are) in
      subst (AreGraphObjects g) (sym chunk.value)
      (before_are_objects g (take size rest) (drop size rest)
      (subst (AreGraphObjects g) (sym (take-append-drop size rest)) behind))

  module _ (numbers : List ℕ) (size n : ℕ) where
    -- part n, and the objects after it
    pub next_chunk : drop (n * size) numbers ≡ take size (drop (n * size) numbers) ++ drop ((n + 1) * size) numbers
    next_chunk =
        let rest = drop (n * size) numbers in
        let next : (n + 1) * size ≡ n * size + size =
        add-mul n 1 size ∙ ap (λ (k : ℕ). n * size + k) (one-mul size) in
        sym (take-append-drop size rest) ∙ ap (λ (r : List ℕ). take size rest ++ r)
        (drop-drop size (n * size) numbers ∙ ap (λ (k : ℕ). drop k numbers) (sym next))

    pub all_counted : (left : Unmarked) → HasCounted g numbers (drop (n * size) numbers) left
        → length numbers ≤ n * size → left ≡ totals_of g numbers
    all_counted left has room =
        has.2 ∙ ap (totals_of g) (sym (append-nil has.0)
        ∙ ap (λ (r : List ℕ). has.0 ++ r) (sym (drop_of_length-le numbers room)) ∙ has.1)

  pub none_counted : (numbers : List ℕ) (size : ℕ) (left : Unmarked) → left ≡ totals_of g []
      → HasCounted g numbers (drop (0 * size) numbers) left
  none_counted numbers size left is =
      let zero_is : 0 * size ≡ 0 = omega arith in ([], ap (λ (k : ℕ). drop k numbers) zero_is, is)
