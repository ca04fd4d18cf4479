-- A put keeps the size.
use Rattle.std.proofs.Common.{◌≡◌}
use Rattle.pool_tests.proofs.worked.put_until_full.Given as goal

abbrev pub invariant-loop-object : goal.invariant-loop-object
invariant-loop-object g l = l.held.size ≡ l.initial.held.size
