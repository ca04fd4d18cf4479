-- What the parts so far give is joined, and the answers of the others are left.
use Rattle.heap_graph.proofs.Words.{HasGathered, List, Sight, length, min, ℕ, ◌%◌, ◌*◌, ◌+◌, ◌/◌, ◌≡◌}
use Rattle.std.specs.Vec.Iter.{into_iter_items, into_iter_len}
use Rattle.heap_graph.specs.working.GatheredParts.{AreOfParts}
use Rattle.heap_graph.proofs.Gathering.{AreLeft}
use Rattle.heap_graph.proofs.objects.gathering.join_parts.Given as goal

abbrev pub invariant-loop-part : goal.invariant-loop-part
invariant-loop-part g l =
    let rest = l.part-iterator in
    (v : Sight) (places : List ℕ) (size : ℕ) → AreOfParts v places l.fn.bits size l.fn.parts.items
    → (n : ℕ) × (n + into_iter_len rest ≡ length places / size + min 1 (length places % size))
    × AreLeft v places l.fn.bits size n (into_iter_len rest) (into_iter_items rest)
    × HasGathered v places l.fn.bits 0 (min (n * size) (length places)) l.all
