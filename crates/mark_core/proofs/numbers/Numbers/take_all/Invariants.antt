-- Removing the remaining numbers from what is left is the same as removing all of them from the list.
use Rattle.std.proofs.Common.{drop}
use Rattle.mark_core.proofs.Taking.{Takes}
use Rattle.mark_core.proofs.numbers.Numbers.take_all.Given as goal

abbrev pub invariant-loop-number : goal.invariant-loop-number
invariant-loop-number g l = Takes l.numbers l.fn.self (drop l.number-index l.numbers) l.self
