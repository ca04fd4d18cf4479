-- No entry so far names the class and the field.
use Rattle.heap_graph.proofs.Words.{AreNamesByIdOf, List, Record, SkipEntry, false, get_or, names_field, option_copied}
use Rattle.heap_graph.proofs.Words.{ℕ, ◌<◌, ◌≡◌}
use Rattle.heap_graph.proofs.skip.class_skips.ClassSkips.has.Given as goal

abbrev pub invariant-loop-entry : goal.invariant-loop-entry
invariant-loop-entry g l = (records : List Record) → AreNamesByIdOf l.self.names.now records
    → (k : ℕ) (d : SkipEntry) → k < l.entry-index
    → names_field records (option_copied l.self.class) l.name (get_or l.self.entries.now k d) ≡ false
