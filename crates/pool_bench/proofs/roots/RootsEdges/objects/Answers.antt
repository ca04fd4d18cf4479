-- The roots are the numbers below `objects`.
use Rattle.pool_bench.proofs.Owners.{roots_below}
use Rattle.pool_bench.proofs.roots.RootsEdges.objects.Goals as goal

pub returns-clause-roots : goal.returns-clause-roots
returns-clause-roots c = roots_below c.args.self.now.objects
