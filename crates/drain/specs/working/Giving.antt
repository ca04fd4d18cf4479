-- How a worker gives to others: it loads the full head once, and gives some of its objects if that stack has no buffer
-- and the worker has enough objects.
use Rattle.std.specs.Prelude.{Bool, List, [], false, length, true, ℕ, ◌++◌, ◌<◌, ◌≡◌, ◌≤◌, ◌∷◌}
use Rattle.mark_core.specs.declared.which.Which.TheVariants.{Full}
use Rattle.buffer_pool.specs.Book.{Book}
use Rattle.buffer_pool.specs.Calls.{Sees}
use Rattle.work_pair.specs.CallEffects.{Balances, Puts}
use Rattle.work_pair.specs.PairState.{PairState}

-- the last spilled object was taken off the list and put into the pair again
abbrev pub PutsAgain : PairState → Book → PairState → Book → Type 0
PutsAgain old before new after =
    (rest : List ℕ) × (object : ℕ) × (old.spill ≡ rest ++ object ∷ [])
    × Puts (record old { spill = rest }) before object new after

-- the spilled objects were put again, the last first, until the spill list was empty, or an object came back to it
-- because no empty buffer was found
pub data Unspills : PairState → Book → PairState → Book → Type 0 where
  none : (p : PairState) (b : Book) → p.spill ≡ [] → Unspills p b p b
  last : (old : PairState) (before : Book) (new : PairState) (after : Book) → PutsAgain old before new after
      → length old.spill ≤ length new.spill → Unspills old before new after
  more : (old : PairState) (before : Book) (middle : PairState) (between : Book) (new : PairState) (after : Book)
      → PutsAgain old before middle between → length middle.spill < length old.spill
      → Unspills middle between new after → Unspills old before new after

-- the spilled objects were put again, and then the pair was balanced
abbrev pub GivesSome : PairState → Book → PairState → Book → Type 0
GivesSome old before new after =
    (middle : PairState) × (between : Book) × Unspills old before middle between × Balances middle between new after

-- the full head was loaded once: if the stack had a buffer nothing else was done, otherwise the spilled objects were
-- put again and the pair was balanced
abbrev pub Offers : PairState → Book → PairState → Book → Type 0
Offers old before new after =
    (none : Bool) × (looked : Book) × Sees Full before looked none
    × (none ≡ false → (new ≡ old) × (after ≡ looked)) × (none ≡ true → GivesSome old looked new after)
