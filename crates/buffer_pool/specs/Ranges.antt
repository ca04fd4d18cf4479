-- The ranges of a pool's numbers, and of what a worker has.
use Rattle.std.specs.Prelude.{ℕ, ◌<◌, ◌≤◌, Contains}
use Rattle.mark_core.specs.Account.{Account}
use Rattle.mark_core.specs.World.{Setup}

-- the numbers that a pool may have
pub record IsInside (object_count buffer_count item_count first_tag : ℕ) : Type 0 where
  pub objects : object_count ≤ 16777216
  pub few : 4 ≤ buffer_count
  pub many : buffer_count ≤ 65534
  pub small : 2 ≤ item_count
  pub large : item_count ≤ 4096
  pub tag : first_tag ≤ 281474976710655

-- each held buffer is one of the pool's, and so is each object in the charge
pub record IsWithin (e : Setup) (a : Account) : Type 0 where
  pub held : (i : ℕ) → Contains a.held i → i < e.buffers
  pub charge : (o : ℕ) → Contains a.charge o → o < e.objects
