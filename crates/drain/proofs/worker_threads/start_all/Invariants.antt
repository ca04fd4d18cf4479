-- After `number` turns `number` threads were started, each with a unit of the leader's and a tally of its own.
use Rattle.drain.proofs.Words.{AreTalliesOfNone, HasStarted, vec_capacity, vec_len, ◌+◌, ◌≡◌, ◌≤◌}
use Rattle.drain.proofs.worker_threads.start_all.Given as goal

abbrev pub invariant-loop-number : goal.invariant-loop-number
invariant-loop-number g l =
    let now = l.starting in
    (vec_len now.threads ≡ l.number) × (l.job.workers ≤ vec_capacity now.threads)
    × HasStarted l.job.graph.now (λ t. t.promise) l.initial.starting.leader now.leader now.threads.items l.number
    × (l.job.workers ≤ vec_len now.tallies + l.number)
    × AreTalliesOfNone (g.V.Measured.measure l.job.graph.now) now.tallies.items
