-- The mark of an object is at most 2.
use Rattle.buffer_pool.specs.working.Buffers.{buffer_reading}
use Rattle.pool_tests.proofs.MarkBits.{low_with_high}
use Rattle.pool_tests.proofs.mark_bits.no_high_bit_stands_alone.Goals as goal

pub returns : goal.returns
returns g c = low_with_high buffer_reading
