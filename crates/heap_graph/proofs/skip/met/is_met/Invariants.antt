-- No class so far declares the field of the entry.
use Rattle.heap_graph.proofs.Words.{AreNamesByIdOf, List, Record, declares_described, false, get_or, ℕ, ◌<◌, ◌≡◌}
use Rattle.heap_graph.specs.working.DescribedClasses.{DescribedClass}
use Rattle.heap_graph.proofs.skip.met.is_met.Given as goal

abbrev pub invariant-loop-class : goal.invariant-loop-class
invariant-loop-class g l = (records : List Record) → AreNamesByIdOf l.names records
    → (k : ℕ) (d : DescribedClass) → k < l.class-index
    → declares_described records l.entry (get_or l.classes k d) ≡ false
