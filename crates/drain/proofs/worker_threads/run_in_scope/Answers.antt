-- The closure requires what `run_in_scope` requires, and that its captured values may be sent to threads.
use Rattle.drain.proofs.worker_threads.run_in_scope.Goals as goal

pub scoped-requires : goal.scoped-requires
scoped-requires g c = record {
  at = λ _.
      let sent = c.type_bounds in (
        c.requires.may,
        (
          sent.send-A,
          record { shared = sent.sync-T.shared },
          sent.sync-A,
          record { shared = sent.sync-V.shared },
          record { shared = sent.sync-G.shared },
          record { shared = sent.sync-S.shared },
          record { shared = sent.sync-V-Alloc.shared },
          sent.frees-A-Allocator,
          sent.frees-V-Alloc-Allocator,
        ),
      );
}
