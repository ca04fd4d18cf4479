-- Each record is read once: in each turn the place at which the next record begins rises.
use Rattle.std.proofs.Common.{◌+◌, ◌-◌}
use Rattle.heapmark.proofs.hint.records.record_end.Given as goal

abbrev pub decreases-loop-end : goal.decreases-loop-end
decreases-loop-end g l = l.place + 1 - l.end
