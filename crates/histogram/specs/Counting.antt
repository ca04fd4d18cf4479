-- A counted reader or writer: what it wraps, and how many of its calls failed.
use Rattle.std.specs.Prelude.{Bool, List, Option, length, take, ℕ, ◌<◌, ◌≤◌}
use Rattle.std.specs.Io.KnownBytes.{Appends, Consumes}
use Rattle.histogram.specs.declared.counted.Counted.{Counted}

-- the number of calls that have failed so far
abbrev pub failures_of : {T : Type 0} → Counted T → ℕ
failures_of c = c.failures

-- the reader or the writer itself
abbrev pub inner_of : {T : Type 0} → Counted T → T
inner_of c = c.inner

-- nothing was taken since the last flush that succeeded, or since the start if there was none
abbrev pub is_flushed : {T : Type 0} → Counted T → Bool
is_flushed c = c.is_flushed

-- a beginning of `bytes` was appended to the known bytes
abbrev pub AppendsBeginning : Option (List ℕ) → Option (List ℕ) → List ℕ → Type 0
AppendsBeginning old new bytes = (n : ℕ) × (n ≤ length bytes) × Appends old new (take n bytes)

-- fewer than `limit` bytes were removed from the front of the known bytes
abbrev pub ConsumesFewer : ℕ → Option (List ℕ) → Option (List ℕ) → Type 0
ConsumesFewer limit old new = (bytes : List ℕ) × (length bytes < limit) × Consumes old new bytes
