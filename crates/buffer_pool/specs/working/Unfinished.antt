-- The first mark that is not finished.
use Rattle.std.specs.Prelude.{List, length, slice_index, ℕ, ◌<◌, ◌≡◌, ◌≢◌, ◌≤◌}

-- the numbers from `from` to `to` - 1, so far as they are objects, are finished
abbrev pub AreFinishedBelow : List ℕ → ℕ → ℕ → Type 0
AreFinishedBelow marks from to = (o : ℕ) → from ≤ o → o < to → o < length marks → slice_index marks o ≡ 2

-- the numbers from `from` to `found` - 1, so far as they are objects, are finished. `found` is not finished, if it is
-- an object
pub record IsFirstUnfinished (marks : List ℕ) (from found : ℕ) : Type 0 where
  pub behind : from ≤ found
  pub before : AreFinishedBelow marks from found
  pub here : found < length marks → slice_index marks found ≢ 2
