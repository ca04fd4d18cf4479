-- The limits of a team, and the number of parts that it makes of a piece of work.
use Rattle.std.specs.Prelude.{max, ℕ, ◌*◌, ◌<◌, ◌≤◌}

-- The limits of a team of threads.
pub record TeamLimits : Type 0 where
  -- the number of threads that may work at once, where 0 counts as one
  pub threads : ℕ
  -- the fewest objects that are shared
  pub fewest : ℕ

-- Work of `length` items has at most `threads` parts, if all parts but the last have `part` items; 0 threads count as
-- one.
abbrev pub HasFewParts : ℕ → ℕ → ℕ → Type 0
HasFewParts threads length part = length ≤ max threads 1 * part

-- Work of `length` items has more parts than half of `threads`, if there are at least as many items as threads.
abbrev pub HasManyParts : ℕ → ℕ → ℕ → Type 0
HasManyParts threads length part = max threads 1 ≤ length → max threads 1 * part < 2 * length
