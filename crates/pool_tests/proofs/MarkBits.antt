-- The mark of an object is at most 2, so its bits are never 10.
use Rattle.std.proofs.Common.{arith}
use Rattle.buffer_pool.specs.working.Slots.{Reading}
use Rattle.buffer_pool.proofs.Claims.{mark_known}
use Rattle.pool_tests.specs.MarkBits.{LowWithHigh}

pub low_with_high : {B : Type 0} (r : Reading B) → LowWithHigh r
low_with_high r e s rule o below high = omega (arith, high, mark_known rule o below)
