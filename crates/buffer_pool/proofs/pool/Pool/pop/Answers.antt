-- A lost try is added to those before it.
use Rattle.std.proofs.Common.{refl, ◌∙◌, suc}
use Rattle.buffer_pool.specs.Calls.LostPops.{none, more}
use Rattle.buffer_pool.specs.declared.answers.TryPopped.TheVariants as try_pop
use Rattle.buffer_pool.proofs.Deeds.{did_nothing}
use Rattle.buffer_pool.proofs.Tries.{busy_again, pop_did}
use Rattle.buffer_pool.proofs.pool.Pool.pop.Goals as goal

pub loop-init : goal.loop-init
loop-init g c = (refl, none c.args.worker.now.book, (0, did_nothing c.args.worker.now.log), c.requires.busy)

pub loop-preserved : goal.loop-preserved
loop-preserved g c =
    let was = c.loop.invariant in
    let did =
    pop_did c.args.which c.args.worker.now.log c.loop.worker.log c.try_pop.new.worker.log try_pop.Lost was.2
    c.in-Lost.ensures.did in (
      c.try_pop.ensures.pool ∙ was.0,
      more c.args.worker.now.book c.loop.worker.book c.try_pop.new.worker.book was.1 c.in-Lost.ensures.pops,
      (suc did.0, did.1),
      busy_again c.args.which c.loop.worker.book c.try_pop.new.worker.book was.3 c.in-Lost.ensures.pops,
    )

pub returns-in-Took-clause-did : goal.returns-in-Took-clause-did
returns-in-Took-clause-did g c =
    pop_did c.args.which c.args.worker.now.log c.loop.worker.log c.try_pop.new.worker.log (try_pop.Took c.in-Took.held)
    c.loop.invariant.2 c.in-Took.ensures.did

pub returns-in-Empty-clause-did : goal.returns-in-Empty-clause-did
returns-in-Empty-clause-did g c =
    pop_did c.args.which c.args.worker.now.log c.loop.worker.log c.try_pop.new.worker.log try_pop.Empty
    c.loop.invariant.2 c.in-Empty.ensures.did

pub returns-in-Spent-clause-did : goal.returns-in-Spent-clause-did
returns-in-Spent-clause-did g c =
    pop_did c.args.which c.args.worker.now.log c.loop.worker.log c.try_pop.new.worker.log try_pop.Spent
    c.loop.invariant.2 c.in-Spent.ensures.did
