-- What the closure requires was given, in another order: after the conditions on what may be sent to threads.
use Rattle.drain.proofs.worker_threads.fn.run_in_scope.scope+FnOnce.call_once.Goals as goal

pub scope-requires : goal.scope-requires
scope-requires g c =
    let may = c.requires.1.1.1.1.1.1 in
    let sent = may.1 in (
      sent.0,
      (sent.1, (sent.2, (sent.3, (sent.4, (sent.5, (sent.6, (sent.7, (sent.8, may.0)))))))),
    )
