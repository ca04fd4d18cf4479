-- The text of a refusal of a list of fields.
use Rattle.std.specs.Prelude.{List, codes, ℕ}
use Rattle.heap_graph.specs.declared.skip.refusal.SkipRefusal.{SkipRefusal}
use Rattle.heap_graph.specs.declared.skip.refusal.SkipRefusal.TheVariants as refusals

abbrev pub skip_refusal_text : SkipRefusal → List ℕ
skip_refusal_text refusals.BadOptions = codes "the list of skipped fields is malformed"
skip_refusal_text refusals.OutOfMemory = codes "out of memory"
