-- A pop that returned `Spent` loaded the last tag, so there is a token of it.
use Rattle.std.proofs.Common.{inl, subst, ◌∙◌, ◌≡◌}
use Rattle.buffer_pool.specs.Calls.{PoolId, first_tag_of}
use Rattle.work_pair.proofs.Effects.{loaded_last_tag}
use Rattle.work_pair.proofs.steps.pop_one.Goals as goal

pub spent_tag-requires : goal.spent_tag-requires
spent_tag-requires g c =
    loaded_last_tag c.args.which c.args.worker.now.book c.pop.new.worker.book (inl c.in-Spent.ensures.pops)

-- the token is of the worker's pool
pub returns-in-Spent-clause-of_pool : goal.returns-in-Spent-clause-of_pool
returns-in-Spent-clause-of_pool g c =
    subst (λ (p : PoolId). first_tag_of c.spent_tag.result ≡ p.first_tag) (c.pop.ensures.pool ∙ c.requires.pool)
    c.spent_tag.ensures
