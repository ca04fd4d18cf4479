-- The roots are the objects.
use Rattle.pool_tests.proofs.RoundSteps.{roots_below}
use Rattle.pool_tests.proofs.edges.RootsEdges.objects.Goals as goal

pub returns-clause-roots : goal.returns-clause-roots
returns-clause-roots c = roots_below c.args.self.now.objects
