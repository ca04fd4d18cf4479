-- The buffer had no items.
use Rattle.std.proofs.Common.{ap}
use Rattle.buffer_pool.specs.Calls.{HeldBuffer}
use Rattle.pool_tests.proofs.SmallRuns.{may_push_bare, pushes_bare}
use Rattle.pool_tests.proofs.waiting.push_bare.Goals as goal

pub returns-clause-held : goal.returns-clause-held
returns-clause-held g c n list was =
    pushes_bare c.args.worker.now c.push.new.worker n list was c.args.which c.args.held c.in-Ok.ensures.pushes
    (ap (λ (l : HeldBuffer). l.items) c.requires.held.4)

pub push-requires-clause-may : goal.push-requires-clause-may
push-requires-clause-may g c =
    let h = c.requires.held in may_push_bare c.args.which c.args.worker.now h.0 h.1 c.args.held h.2 h.3 h.4
