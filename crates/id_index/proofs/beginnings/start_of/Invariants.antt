-- The extents that were passed are in earlier buckets.
use Rattle.id_index.proofs.Words.{bucket_of, page_in, ℕ, ◌<◌}
use Rattle.id_index.proofs.beginnings.start_of.Given as goal

abbrev pub invariant-loop-at : goal.invariant-loop-at
invariant-loop-at l = (k : ℕ) → k < l.at → bucket_of l.least l.shift (page_in l.extents k) < l.bucket
