-- The read wrote into the part after the front, so the front stays and the bytes that were read follow it.
use Rattle.std.proofs.Common.{arith, length-take-le}
use borrow.Rule.Slice.PartMut.{take_put}
use Rattle.histogram.proofs.ReadInPlace.{read_in_place}
use Rattle.histogram.proofs.counted.Counted.read_behind.Goals as goal

pub returns-clause-front : goal.returns-clause-front
returns-clause-front g c = take_put _ _ c.args.bytes.now _ (omega (arith, c.requires.room))

pub returns-clause-grown : goal.returns-clause-grown
returns-clause-grown g c =
    read_in_place _ _ c.read.result _ c.read.new.buf _ c.args.filled
    (length-take-le _ c.args.bytes.now (omega (arith, c.requires.room)))
    c.read.ensures.bound c.read.ensures.bytes
