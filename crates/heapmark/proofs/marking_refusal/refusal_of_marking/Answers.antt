-- A token shows the cause of its refusal, and out of memory needs none.
use Rattle.std.proofs.Common.{subst}
use Rattle.drain.specs.Stops.{IsFaultFrom}
use Rattle.heapmark.proofs.Causing.{spent_cause, starved_cause, thread_cause}
use Rattle.heapmark.proofs.marking_refusal.refusal_of_marking.Goals as goal

pub returns-in-OutOfMemory-clause-cause : goal.returns-in-OutOfMemory-clause-cause
returns-in-OutOfMemory-clause-cause g c first from = starved_cause (g.T.Causes.causes c.args.rt.now) first

pub returns-in-TagSpent-clause-cause : goal.returns-in-TagSpent-clause-cause
returns-in-TagSpent-clause-cause g c first from =
    spent_cause (g.T.Causes.causes c.args.rt.now) first c.in-TagSpent.token
    (subst (IsFaultFrom first) c.in-TagSpent.is from) c.tag_is_spent.ensures

pub returns-in-WorkerRefused-clause-cause : goal.returns-in-WorkerRefused-clause-cause
returns-in-WorkerRefused-clause-cause g c first from =
    thread_cause (g.T.Causes.causes c.args.rt.now) first c.worker_is_refused.ensures
