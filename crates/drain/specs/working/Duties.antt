-- The duties of the workers' threads, and what they return.
use Rattle.std.specs.Prelude.{All, List, get_or, ℕ, ◌+◌, ◌<◌, ◌≡◌}
use Rattle.buffer_pool.specs.Book.{new_book}
use Rattle.buffer_pool.specs.Calls.{Owner}
use Rattle.drain.specs.declared.tally.TalliedWorker.{TalliedWorker}
use Rattle.drain.specs.declared.tally.Tally.{Tally}
use Rattle.drain.specs.declared.worker_threads.Duty.{Duty}
use Rattle.drain.specs.working.AtWork.{IsFree, Leads}
use Rattle.drain.specs.working.Tallies.{Measure}
use Rattle.drain.specs.working.Tallying.{HasTallied}

-- the duty of a thread that was started for `graph` with a worker of the leader's pool that had one unit and nothing
-- else
pub record IsDutyUnder {A V : Type 0} (graph : V) (leader : Owner) (duty : Duty A V) : Type 0 where
  pub pool : duty.begun.value.pool ≡ leader.pool
  pub book : duty.begun.value.book ≡ new_book leader.book.setup 1
  pub graph_is : duty.graph.value ≡ graph

-- `number` threads were started, each with a unit of the leader's; the leader has finished no more than before
pub record HasStarted {A V X : Type 0} (graph : V) (duty : X → Duty A V) (begun leader : Owner) (threads : List X)
    (number : ℕ) : Type 0 where
  pub leads : Leads begun leader
  pub share : leader.book.account.share + number ≡ begun.book.account.share
  pub finished : leader.book.account.finished ≡ begun.book.account.finished
  pub owed : (k : ℕ) (t : X) → k < number → IsDutyUnder graph begun (duty (get_or threads k t))

-- a worker of the leader's pool that is free and has its one unit, and the tally of what it finished
pub record IsBackUnder {A : Type 0} (m : Measure) (leader w : Owner) (t : Tally A) : Type 0 where
  pub pool : w.pool ≡ leader.pool
  pub setup : w.book.setup ≡ leader.book.setup
  pub share : w.book.account.share ≡ 1
  pub free : IsFree w
  pub tally : HasTallied m w t

-- each worker in `back` is back
abbrev pub AreBackUnder : {A : Type 0} → Measure → Owner → List (TalliedWorker A) → Type 0
AreBackUnder m leader back = All (λ t. IsBackUnder m leader t.worker t.tally) back

-- The leader before and after its workers ran, and the workers that ended, of which there are `number`: it still leads,
-- finished nothing, and gave a unit to each of `workers` workers, all of which are back.
pub record HasRun {A : Type 0} (m : Measure) (workers : ℕ) (old new : Owner) (ended : List (TalliedWorker A))
    (number : ℕ) : Type 0 where
  pub leads : Leads old new
  pub finished : new.book.account.finished ≡ old.book.account.finished
  pub share : new.book.account.share + workers ≡ old.book.account.share
  pub count : number ≡ workers
  pub back : AreBackUnder m new ended
