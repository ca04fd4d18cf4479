-- Between two scans the worker has scanned what it finished so far.
use Rattle.drain.proofs.Words.{HasScanned}
use Rattle.drain.proofs.paired_worker.PairedWorker.drain.Given as goal

abbrev pub invariant-loop : goal.invariant-loop
invariant-loop g l = HasScanned (g.V.Measured.measure l.job.graph.now) l.initial.self l.self l.seen l.tally
