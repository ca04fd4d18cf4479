-- The options of a marking, and the values that they may have.
use Rattle.std.specs.Prelude.{ℕ, ◌*◌, ◌+◌, ◌≤◌}

pub record Choice : Type 0 where
  pub workers : ℕ
  pub buffer : ℕ
  pub buffers : ℕ
  pub first_tag : ℕ

abbrev pub choice : ℕ → ℕ → ℕ → ℕ → Choice
choice workers buffer buffers first_tag =
    record { workers = workers; buffer = buffer; buffers = buffers; first_tag = first_tag }

-- Each value is in its range, and there are at least two buffers for each worker and two more.
pub record IsInRange (c : Choice) : Type 0 where
  pub some_worker : 1 ≤ c.workers
  pub most_workers : c.workers ≤ 64
  pub least_buffer : 2 ≤ c.buffer
  pub largest_buffer : c.buffer ≤ 4096
  pub least_buffers : 4 ≤ c.buffers
  pub most_buffers : c.buffers ≤ 65534
  pub last_tag : c.first_tag ≤ 281474976710655
  pub enough : 2 * c.workers + 2 ≤ c.buffers
