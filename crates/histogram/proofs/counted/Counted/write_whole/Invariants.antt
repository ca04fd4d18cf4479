-- No write has failed, and the bytes before `at` were taken.
use Rattle.std.proofs.Common.{◌≡◌, ◌-◌, ◌≤◌, length, take}
use Rattle.std.specs.Io.KnownBytes.{Appends}
use Rattle.histogram.specs.Counting.{failures_of}
use Rattle.histogram.proofs.counted.Counted.write_whole.Given as goal

abbrev pub invariant-loop-at : goal.invariant-loop-at
invariant-loop-at g l = record {
  no_fault : failures_of l.self ≡ failures_of l.initial.self;
  within : l.at ≤ length l.bytes;
  taken : Appends (g.W.Write.contents l.initial.self.inner) (g.W.Write.contents l.self.inner) (take l.at l.bytes);
}

abbrev pub decreases-loop-at : goal.decreases-loop-at
decreases-loop-at g l = length l.bytes - l.at
