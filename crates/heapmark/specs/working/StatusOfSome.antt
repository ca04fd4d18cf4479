-- What the exit status of the program says of its output, if no contract knows the words.
use Rattle.std.specs.Prelude.{List, Option, ℕ, ◌+◌, ◌≡◌, ◌≤◌}
use Rattle.std.specs.Io.KnownBytes.{Keeps}
use Rattle.heapmark.specs.SkippedFields.{WritesBeginningForSome}
use Rattle.histogram.specs.Counting.{failures_of, inner_of}
use Rattle.histogram.specs.declared.counted.Counted.{Counted}

-- The status of the program for some words. `old` and `new` are the program's output before and after. `bytes_of`
-- yields the bytes of an output, if a contract can name them.
pub record IsStatusOfSome {W : Type 0} (status : ℕ) (bytes_of : W → Option (List ℕ)) (old new : Counted W)
    : Type 0 where
  pub most : status ≤ 2
  -- At 2 nothing was written.
  pub untouched : status ≡ 2 → Keeps (bytes_of (inner_of old)) (bytes_of (inner_of new))
  -- At 1 nothing was written, except a beginning of a report if the writer failed.
  pub unwritten : status ≡ 1 → failures_of new ≡ failures_of old
      → Keeps (bytes_of (inner_of old)) (bytes_of (inner_of new))
  pub beginning : status ≡ 1 → failures_of new ≡ failures_of old + 1
      → WritesBeginningForSome (bytes_of (inner_of old)) (bytes_of (inner_of new))
  pub failures : failures_of new ≤ failures_of old + 1
