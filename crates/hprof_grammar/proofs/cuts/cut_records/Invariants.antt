-- The cuts lead to the last seam while records remain, and to the end of the bytes after that. What remains to be read
-- is never more than at the start, and it shrinks.
use Rattle.std.proofs.Common.{length, ◌+◌, ◌<◌, ◌≡◌, ◌≤◌}
use Rattle.hprof_grammar.specs.working.Cuts.{AreCuts}
use Rattle.hprof_grammar.proofs.CutsGrow.{AreLong}
use Rattle.hprof_grammar.proofs.cuts.cut_records.Given as goal

abbrev pub invariant-loop-rest : goal.invariant-loop-rest
invariant-loop-rest g l = (length l.rest ≤ length l.bytes) × (l.from.place ≤ l.reached.place)
    × (l.reached.place + length l.rest ≡ 31 + length l.bytes)
    × (0 < length l.rest → AreLong l.size 31 l.cuts.items l.from.place)
    × (length l.rest ≡ 0 → AreCuts l.size 31 l.cuts.items (31 + length l.bytes))

abbrev pub decreases-loop-rest : goal.decreases-loop-rest
decreases-loop-rest g l = length l.rest
