-- No entry so far names the class.
use Rattle.heap_graph.proofs.Words.{SkipEntry, false, get_or, names_class, option_copied, ℕ, ◌<◌, ◌≡◌}
use Rattle.heap_graph.proofs.skip.class_skips.any_names.Given as goal

abbrev pub invariant-loop-entry : goal.invariant-loop-entry
invariant-loop-entry l = (k : ℕ) (d : SkipEntry) → k < l.entry-index
    → names_class (option_copied l.class) (get_or l.entries k d) ≡ false
