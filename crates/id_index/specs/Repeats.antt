-- Objects whose identifiers earlier ones bear.
use Rattle.std.specs.Prelude.{Contains, List, Some, slice_get, take, ◌<◌, ◌≡◌, ℕ}

-- object `number` is the first whose identifier an earlier object bears; if there is no object `number`, no identifier
-- repeats
pub record IsFirstRepeat (ids : List ℕ) (number : ℕ) : Type 0 where
  pub first : (k id : ℕ) → k < number → slice_get ids k ≡ Some id → Contains (take k ids) id → ⊥
  pub repeated : (id : ℕ) → slice_get ids number ≡ Some id → Contains (take number ids) id
