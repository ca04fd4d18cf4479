-- What a claim requires of the worker at a position is required of all workers.
use Rattle.std.proofs.Common.{ap, sym, subst, ◌∙◌}
use Rattle.pool_bench.specs.declared.workers.NumberedWorker.{NumberedWorker}
use Rattle.pool_bench.specs.Owners.{AreRoots}
use Rattle.pool_bench.proofs.claims.claim_all.Goals as goal

pub map_vec-requires-after_bounds : goal.map_vec-requires-after_bounds
map_vec-requires-after_bounds g c =
    λ _ _ i x below is. (
      ap (λ (w : NumberedWorker). w.worker.pool) is ∙ c.requires.pool i x below,
      subst (λ (w : NumberedWorker). AreRoots c.args.sizes.objects w.worker) (sym is) (c.requires.roots i x below),
      ap (λ (w : NumberedWorker). w.worker.book.account.idle) is ∙ c.requires.awake i x below,
    )
