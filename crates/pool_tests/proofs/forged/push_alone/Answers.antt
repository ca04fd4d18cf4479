-- The story and the book before and after the try exclude a loss.
use Rattle.std.proofs.Common.{arith}
use Rattle.pool_tests.proofs.Alone.{was_not_lost}
use Rattle.pool_tests.proofs.forged.push_alone.Goals as goal

pub returns : goal.returns
returns g c =
    let old = c.args.worker.now in
    let new = c.try_push-tried.new.worker in
    let below = c.recall_within.ensures.held c.args.held.index c.requires.may.held in
    record {
      never =
          was_not_lost old.log new.log old.book new.book c.args.which c.args.held c.try_push-tried.result
          (omega (arith, below)) c.requires.alone c.recall_story.ensures c.try_push-tried.ensures.pushes
          c.try_push-tried.ensures.did c.recall_story-2.ensures;
    }
