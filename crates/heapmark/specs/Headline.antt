-- The headline: what a run that succeeds has written.
use Rattle.std.specs.Prelude.{IfSome, List, OnOk, Option, Result, ℕ}
use Rattle.heap_graph.specs.Skips.{SkipEntry}
use Rattle.heapmark.specs.Answer.{WritesReport, bytes_read}
use Rattle.front_end.specs.declared.refusal.Refusal.{Refusal}

-- If the result is no refusal, the bytes read are an accepted dump, and all that was written is the report of exactly
-- the objects that a path of references joins to a root, each counted once. The value of a field to be skipped is no
-- reference.
--
-- `given` are the bytes that the reader has yet to give when the run starts, if a contract can name them; `skip` are
-- the fields to be skipped; `old` and `new` are the writer's bytes before and after the run. `WritesReport` says the
-- rest by `IsReport`, which has a field for each statement: the graph is that of the accepted text without the fields
-- of `skip`, the marks are those of exactly the graph's reachable objects (`MarksReachableOf`), and the rows of the
-- histogram count each marked object once (`IsHistogram`).
abbrev pub Headline : {X : Type 0} → Result X Refusal → Option (List ℕ) → List SkipEntry → Option (List ℕ)
    → Option (List ℕ) → Type 0
Headline result given skip old new =
    OnOk result (IfSome given (λ bytes. WritesReport (bytes_read bytes) skip old new))
