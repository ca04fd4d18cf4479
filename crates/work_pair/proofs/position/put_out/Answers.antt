-- The worker holds the buffer that was at the position, so it may push it. A push that returned it loaded the last tag.
use Rattle.std.proofs.Common.{subst, sym, ◌∙◌, ◌≡◌}
use Rattle.buffer_pool.specs.Calls.{PoolId, first_tag_of}
use Rattle.work_pair.specs.Moves.{shelf_of}
use Rattle.work_pair.proofs.Effects.{loaded_last_tag}
use Rattle.work_pair.proofs.Renewing.{stands}
use Rattle.work_pair.proofs.position.put_out.Goals as goal

pub shelve-requires : goal.shelve-requires
shelve-requires g c =
    let held = stands (sym c.replace.ensures.value ∙ c.in-Some.is) c.requires.backed in
    record {
      pool = c.requires.same;
      held = held.0;
      charged = held.1;
      size = held.2;
      busy = λ some. c.requires.busy;
    }

pub spent_tag-requires : goal.spent_tag-requires
spent_tag-requires g c =
    loaded_last_tag (shelf_of c.in-Some.held.items) c.args.worker.now.book c.shelve.new.worker.book
    c.in-Err.ensures.shelves.1

-- the token is of the worker's pool
pub returns-in-Err-clause-of_pool : goal.returns-in-Err-clause-of_pool
returns-in-Err-clause-of_pool g c =
    subst (λ (p : PoolId). first_tag_of c.spent_tag.result ≡ p.first_tag) (c.shelve.ensures.pool ∙ c.requires.same)
    c.spent_tag.ensures
