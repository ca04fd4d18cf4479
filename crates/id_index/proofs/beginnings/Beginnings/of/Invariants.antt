-- Each bucket so far has its beginning, and the extents that were passed are in those buckets.
use Rattle.id_index.proofs.Words.{IsBeginning, bucket_of, length, page_in, slice_index, ℕ, ◌<◌, ◌≡◌, ◌≤◌}
use Rattle.id_index.proofs.beginnings.Beginnings.of.Given as goal

abbrev pub invariant-loop-bucket : goal.invariant-loop-bucket
invariant-loop-bucket g l = record {
  within : l.at ≤ length l.extents;
  passed : (k : ℕ) → k < l.at → bucket_of l.least l.shift (page_in l.extents k) < l.bucket;
  count : length l.starts.items ≡ l.bucket;
  each : (b : ℕ) → b < l.bucket → IsBeginning l.extents l.least l.shift b (slice_index l.starts.items b);
}
