-- So far only buffers without items were found on the full stack.
use Rattle.std.proofs.Common.{◌≡◌, ◌≢◌, [], None}
use Rattle.work_pair.specs.PairState.{pair_items}
use Rattle.work_pair.specs.working.Buffers.{as_pair}
use Rattle.work_pair.proofs.Getting.{RefillsBy}
use Rattle.work_pair.proofs.buffers.Buffers.get_elsewhere.Given as goal

abbrev pub invariant-loop : goal.invariant-loop
invariant-loop g l =
    record {
      pool : l.worker.pool ≡ l.initial.worker.pool;
      third : l.self.third ≡ None;
      trades : RefillsBy (as_pair l.initial.self) l.initial.worker.book (as_pair l.self) l.worker.book;
      own : pair_items (as_pair l.initial.self) ≢ []
          → (l.worker ≡ l.initial.worker) × (pair_items (as_pair l.self) ≢ []);
    }
