-- The leader gave a unit to each thread so far, and has one for the next.
use Rattle.drain.proofs.Words.{arith, rules, ◌<◌, ◌∙◌}
use Rattle.drain.proofs.Scanning.{same_setup}
use Rattle.drain.proofs.worker_threads.start_all.Goals as goal

pub start_next-requires-clause-pool : goal.start_next-requires-clause-pool
start_next-requires-clause-pool g c =
    let pool = c.loop-number.invariant.2.leads.pool ∙ c.requires.pool in
    search (rules, pool)

pub start_next-requires-clause-setup : goal.start_next-requires-clause-setup
start_next-requires-clause-setup g c =
    let setup = same_setup c.loop-number.invariant.2.leads.setup c.requires.setup in
    search (rules, setup)

pub start_next-requires-clause-share : goal.start_next-requires-clause-share
start_next-requires-clause-share g c =
    let several : 1 < c.loop-number.starting.leader.book.account.share =
    omega (arith, c.loop-number.invariant.2.share, c.requires.share, c.loop-number-test.true)
    in
    search (rules, several)

pub loop-number-preserved : goal.loop-number-preserved
loop-number-preserved g c =
    let was = c.loop-number.invariant in
    let next = c.in_ok-starting.ensures in (
      omega (arith, next.room.0, was.0),
      omega (arith, next.room.1, was.1),
      next.started c.args.starting.leader (omega (arith, c.requires.share, c.loop-number-test.true)) was.0 was.2,
      omega (arith, next.tallies.0, was.3),
      next.tallies.1,
    )
