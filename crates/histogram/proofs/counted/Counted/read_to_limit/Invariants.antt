-- No read has failed, and the bytes so far are those that the reader lost.
use Rattle.std.proofs.Common.{◌≡◌, ◌-◌, ◌≤◌, take, vec_len}
use Rattle.std.specs.Io.KnownBytes.{Consumes}
use Rattle.histogram.specs.Counting.{failures_of}
use Rattle.histogram.proofs.counted.Counted.read_to_limit.Given as goal

abbrev pub invariant-loop-filled : goal.invariant-loop-filled
invariant-loop-filled g l = record {
  no_fault : failures_of l.self ≡ failures_of l.initial.self;
  filled : l.filled ≤ vec_len l.bytes;
  within : vec_len l.bytes ≤ l.limit;
  read : Consumes (g.R.Read.remaining l.initial.self.inner) (g.R.Read.remaining l.self.inner)
      (take l.filled l.bytes.items);
}

abbrev pub decreases-loop-filled : goal.decreases-loop-filled
decreases-loop-filled g l = l.limit - l.filled
