-- A new pool and a new list have what the closure requires.
use Rattle.std.proofs.Common.{arith, rules}
use Rattle.drain_tests.proofs.several_refused_workers.told.Goals as goal

pub scoped-outcome-requires : goal.scoped-outcome-requires
scoped-outcome-requires g c =
    let sent = c.type_bounds.sync-V.shared in
    record {
      at = λ _. (
        search rules,
        (search (rules, arith), (search (rules, arith), (search (rules, arith), record { shared = sent }))),
      );
    }
