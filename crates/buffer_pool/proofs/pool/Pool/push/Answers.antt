-- A lost try is added to those before it, and may be repeated.
use Rattle.buffer_pool.proofs.Words.{TriesPush, [], refl, ◌∙◌, ◌∷◌, ◌≡◌}
use Rattle.buffer_pool.specs.Calls.LostPushes.{none, more}
use Rattle.buffer_pool.proofs.Deeds.{did_nothing}
use Rattle.buffer_pool.proofs.Tries.{may_again, push_did}
use Rattle.buffer_pool.specs.declared.answers.TryPushed.TheVariants as try_push
use Rattle.buffer_pool.proofs.pool.Pool.push.Goals as goal

pub loop-init : goal.loop-init
loop-init g c = (refl, refl, c.requires.may, none c.args.worker.now.book, ([], did_nothing c.args.worker.now.log))

pub loop-preserved : goal.loop-preserved
loop-preserved g c =
    let q = c.args.which in
    let h = c.args.held in
    let was = c.loop.invariant in
    let old = c.loop.worker.book in
    let new = c.try_push.new.worker.book in
    let tried = c.in-Lost.ensures.pushes in
    let same : c.in-Lost.back ≡ h = tried.1 ∙ was.1 in
    let again : TriesPush q h old new (try_push.Lost h) = (tried.0, refl, tried.2, tried.3) in
    let did =
    push_did q c.args.worker.now.log c.loop.worker.log c.try_push.new.worker.log h c.loop.held
    (try_push.Lost c.in-Lost.back) was.1 was.4 c.in-Lost.ensures.did in (
      c.try_push.ensures.pool ∙ was.0,
      same,
      may_again q c.loop.held c.in-Lost.back old new was.2 tried,
      more c.args.worker.now.book old new was.3 again,
      (did.1 ∷ did.0, did.2),
    )

pub returns-in-Done-clause-did : goal.returns-in-Done-clause-did
returns-in-Done-clause-did g c =
    push_did c.args.which c.args.worker.now.log c.loop.worker.log c.try_push.new.worker.log c.args.held c.loop.held
    try_push.Done c.loop.invariant.1 c.loop.invariant.4 c.in-Done.ensures.did

pub returns-in-Spent-clause-did : goal.returns-in-Spent-clause-did
returns-in-Spent-clause-did g c =
    push_did c.args.which c.args.worker.now.log c.loop.worker.log c.try_push.new.worker.log c.args.held c.loop.held
    (try_push.Spent c.in-Spent.back) c.loop.invariant.1 c.loop.invariant.4 c.in-Spent.ensures.did
