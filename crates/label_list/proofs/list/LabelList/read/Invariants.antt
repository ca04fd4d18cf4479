-- The entries so far are those of the lines that were read.
use Rattle.std.proofs.Common.{length}
use Rattle.label_list.proofs.Lists.{IsRead}
use Rattle.label_list.proofs.list.LabelList.read.Given as goal

abbrev pub invariant-loop-scanner : goal.invariant-loop-scanner
invariant-loop-scanner g l = IsRead l.text l.list l.scanner.rest.now

abbrev pub decreases-loop-scanner : goal.decreases-loop-scanner
decreases-loop-scanner g l = length l.scanner.rest.now
