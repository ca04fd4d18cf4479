-- The roots are all numbers below `objects`.
use Rattle.std.proofs.Common.{Contains, sym, subst}
use Rattle.std.proofs.lemmas.Result.{MatchResult-weaker}
use Rattle.buffer_pool.specs.Book.{Book}
use Rattle.pool_bench.proofs.Owners.{is_number}
use Rattle.pool_bench.proofs.roots.pool_of_roots.Goals as goal

pub returns-clause-roots : goal.returns-clause-roots
returns-clause-roots c =
    MatchResult-weaker c.new.result c.new.ensures
    (λ p is o below. subst (λ (b : Book). Contains b.setup.roots o) (sym is.2) (is_number c.args.objects o below))
    (λ _ _. tt)
