-- The extents before this index are pruned, and the granules of the last one's page were seen.
use Rattle.id_index.proofs.Words.{AreFewSeen, AreSeen, ArePrunedBefore, take}
use Rattle.id_index.proofs.pruning.prune.Given as goal

abbrev pub invariant-loop-at : goal.invariant-loop-at
invariant-loop-at g l = record {
  pruned : ArePrunedBefore l.fn.extents.items l.extents.items l.at l.kept;
  seen : AreSeen l.fn.extents.items l.at l.page l.seen;
  few : AreFewSeen l.fn.extents.items l.at l.page l.seen (take l.kept l.extents.items);
}
