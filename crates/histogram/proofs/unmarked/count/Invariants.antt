-- The objects so far are counted.
use Rattle.std.proofs.Common.{drop}
use Rattle.histogram.proofs.UnmarkedLaws.{HasCounted}
use Rattle.histogram.proofs.unmarked.count.Given as goal

abbrev pub invariant-loop-object : goal.invariant-loop-object
invariant-loop-object g l = HasCounted l.graph l.numbers (drop l.object-index l.numbers) l.left
