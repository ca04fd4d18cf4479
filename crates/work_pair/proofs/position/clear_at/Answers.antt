-- The buffer that was at the position is pushed, so what is known of the position holds of the buffer. A push that
-- returned it loaded the last tag.
use Rattle.std.proofs.Common.{ap, subst, sym, ◌∙◌, ◌≡◌}
use Rattle.buffer_pool.specs.Calls.{PoolId, first_tag_of}
use Rattle.work_pair.specs.Moves.{shelf_of}
use Rattle.work_pair.specs.PairState.{items_at}
use Rattle.work_pair.proofs.Effects.{loaded_last_tag}
use Rattle.work_pair.proofs.Renewing.{stands}
use Rattle.work_pair.proofs.position.clear_at.Goals as goal

pub shelve-requires : goal.shelve-requires
shelve-requires g c =
    let stood = sym c.take.ensures.value ∙ c.in-Some.is in
    let held = stands stood c.requires.backed in
    record {
      pool = c.requires.pool;
      held = held.0;
      charged = held.1;
      size = held.2;
      busy = λ some. c.requires.busy (λ none. some (sym (ap items_at stood) ∙ none));
    }

pub spent_tag-requires : goal.spent_tag-requires
spent_tag-requires g c =
    loaded_last_tag (shelf_of c.in-Some.held.items) c.args.worker.now.book c.shelve.new.worker.book
    c.in-Err.ensures.shelves.1

-- the token is of the worker's pool
pub returns-in-Err-clause-of_pool : goal.returns-in-Err-clause-of_pool
returns-in-Err-clause-of_pool g c =
    subst (λ (p : PoolId). first_tag_of c.spent_tag.result ≡ p.first_tag) (c.shelve.ensures.pool ∙ c.requires.pool)
    c.spent_tag.ensures
