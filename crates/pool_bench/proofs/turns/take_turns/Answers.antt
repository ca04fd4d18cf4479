-- A turn leaves the pool and the idle number as they were.
use Rattle.std.proofs.Common.{◌≤◌, ◌+◌, ◌∙◌, arith}
use Rattle.pool_bench.proofs.Owners.{after_turn}
use Rattle.pool_bench.proofs.turns.take_turns.Goals as goal
use Rattle.pool_bench.proofs.turns.take_turns.Goals.{then-turn, else-turn}

pub loop-preserved : goal.loop-preserved
loop-preserved g c =
    let was = c.loop.invariant in
    let moved : c.if-turn.moved ≤ c.loop.counter + 1 =
    elim c.if-turn.branch [
      | then-turn w ↦ omega (arith, was.1, w.moved-is)
      | else-turn w ↦ omega (arith, was.1, w.moved-is)
    ] in (
      c.turn.ensures.pool ∙ was.0,
      moved,
      after_turn c.loop.worker.book c.turn.new.worker.book c.turn.result c.turn.ensures.turns was.2,
    )
