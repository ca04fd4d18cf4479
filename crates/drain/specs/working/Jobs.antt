-- The conditions when a worker begins its job, while it scans, and when a leader runs its workers.
use Rattle.std.specs.Prelude.{Bool, List, None, [], false, true, ℕ, ◌++◌, ◌<◌, ◌≡◌, ◌≤◌, ◌⊎◌, ◌∷◌}
use Rattle.buffer_pool.specs.Calls.{Owner}
use Rattle.work_pair.specs.CallEffects.{Gets, OpensNone, OpensTwo, ShelvesAll}
use Rattle.drain.specs.declared.job.Job.{Job}
use Rattle.drain.specs.declared.paired_worker.PairedWorker.{PairedWorker}
use Rattle.drain.specs.declared.recently_seen.RecentlySeen.{RecentlySeen}
use Rattle.drain.specs.declared.tally.TalliedWorker.{TalliedWorker}
use Rattle.drain.specs.declared.tally.Tally.{Tally}
use Rattle.drain.specs.working.AtWork.{IsAtWork, IsFree, IsSetupOf, WorksOn}
use Rattle.drain.specs.working.Idle.{HasFoundMore, HasWaited, IsAwake}
use Rattle.drain.specs.working.RecentlySeen.{HasSeenAll}
use Rattle.drain.specs.working.Giving.{Offers}
use Rattle.drain.specs.working.Tallies.{Measure}
use Rattle.drain.specs.working.Tallying.{AreTalliesOfNone, HasTallied}

-- a worker of the job's pool and graph that has nothing and is not idle, and the tally of what it finished
pub record MayWork {A V G S : Type 0} (count : V → ℕ) (roots : V → List ℕ) (pairs : V → List (ℕ × ℕ))
    (measure : V → Measure) (job : Job A V G S) (w : Owner) (t : Tally A) : Type 0 where
  pub pool : w.pool ≡ job.pool.now
  pub setup : IsSetupOf (count job.graph.now) (roots job.graph.now) (pairs job.graph.now) w.book.setup
  pub free : IsFree w
  pub awake : IsAwake w
  pub tally : HasTallied (measure job.graph.now) w t

-- a worker of the job's pool and graph at its pair, with the objects `besides` at hand besides the pair's items, and
-- the tally of what it finished
pub record IsOnJob {A V G S : Type 0} (count : V → ℕ) (roots : V → List ℕ) (pairs : V → List (ℕ × ℕ))
    (measure : V → Measure) (job : Job A V G S) (besides : List ℕ) (paired : PairedWorker A) (t : Tally A)
    : Type 0 where
  pub pool : paired.worker.pool ≡ job.pool.now
  pub setup : IsSetupOf (count job.graph.now) (roots job.graph.now) (pairs job.graph.now) paired.worker.book.setup
  pub at_work : IsAtWork paired.pair besides paired.worker
  pub tally : HasTallied (measure job.graph.now) paired.worker t

-- the worker works on with nothing at hand besides its pair's items; the tally counts what it finished, and the table
-- has only objects that it saw marked
pub record HasScanned {A : Type 0} (m : Measure) (old new : PairedWorker A) (table : RecentlySeen) (t : Tally A)
    : Type 0 where
  pub goes_on : WorksOn old.worker new.worker
  pub at_work : IsAtWork new.pair [] new.worker
  pub tally : HasTallied m new.worker t
  pub seen : HasSeenAll table new.worker

-- the worker got no object: neither its pair nor the full stack had one
abbrev pub FindsNone : {A : Type 0} → PairedWorker A → PairedWorker A → Type 0
FindsNone old new = Gets old.pair old.worker.book None new.pair new.worker.book

-- the worker finished one object, and is at its pair as before
pub record FinishesOne {A : Type 0} (old new : PairedWorker A) : Type 0 where
  pub works_on : WorksOn old.worker new.worker
  pub at_work : IsAtWork new.pair [] new.worker
  pub object : ℕ
  pub finished : new.worker.book.account.finished ≡ old.worker.book.account.finished ++ object ∷ []

-- the worker finished an object if it got one
abbrev pub ScansNext : {A : Type 0} → PairedWorker A → PairedWorker A → Bool → Type 0
ScansNext old new true = FinishesOne old new
ScansNext old new false = FindsNone old new

-- a turn after which the worker goes on: it finished an object and then made an offer to others; or it got none,
-- and waited until there was more, 1,024 turns at most (`TURNS` of `idle_turns.rt`)
abbrev pub TakesTurn : {A : Type 0} → ℕ → PairedWorker A → PairedWorker A → Type 0
TakesTurn {A} workers old new =
    (mid : PairedWorker A)
    × ((FinishesOne old mid × Offers mid.pair mid.worker.book new.pair new.worker.book)
    ⊎ (FindsNone old mid × (new.pair ≡ mid.pair) × HasFoundMore workers 1024 mid.worker.book new.worker.book))

-- turns, one after the other
pub data TakesTurns {A : Type 0} (workers : ℕ) : PairedWorker A → PairedWorker A → Type 0 where
  none : (p : PairedWorker A) → TakesTurns workers p p
  more : (old mid new : PairedWorker A) → TakesTurns workers old mid → TakesTurn workers mid new
      → TakesTurns workers old new

-- the worker made an offer to others and took turns; at last it got no object, and waited until all were idle or for
-- 1,024 turns
abbrev pub HasWorkedOff : {A : Type 0} → ℕ → PairedWorker A → PairedWorker A → Type 0
HasWorkedOff {A} workers old new =
    (begun : PairedWorker A) × (last : PairedWorker A) × (mid : PairedWorker A)
    × Offers old.pair old.worker.book begun.pair begun.worker.book
    × TakesTurns workers begun last
    × FindsNone last mid × (new.pair ≡ mid.pair) × HasWaited workers 1024 mid.worker.book new.worker.book

-- the worker opened a pair of two buffers, worked off what it found, and gave the buffers back; or two empty buffers
-- were not found
abbrev pub HasWorked : {A : Type 0} → ℕ → Owner → TalliedWorker A → Type 0
HasWorked {A} workers begun t =
    ((opened : PairedWorker A) × (last : PairedWorker A)
    × OpensTwo begun.book opened.pair opened.worker.book × HasWorkedOff workers opened last
    × ShelvesAll last.pair last.worker.book t.worker.book)
    ⊎ OpensNone begun.book t.worker.book

-- a leader of the job's pool and graph with more than `job.workers` units. It has room for `job.workers` threads and
-- for `job.workers` returned workers, has none of either yet, and has at least `job.workers` tallies, all of no object
pub record MayRun {A V G S : Type 0} (count : V → ℕ) (roots : V → List ℕ) (pairs : V → List (ℕ × ℕ))
    (measure : V → Measure) (job : Job A V G S) (leader : Owner) (threads space back back_space : ℕ)
    (tallies : List (Tally A)) (made : ℕ) : Type 0 where
  pub pool : leader.pool ≡ job.pool.now
  pub setup : IsSetupOf (count job.graph.now) (roots job.graph.now) (pairs job.graph.now) leader.book.setup
  pub share : job.workers < leader.book.account.share
  pub none : threads ≡ 0
  pub room : job.workers ≤ space
  pub none_back : back ≡ 0
  pub room_back : job.workers ≤ back_space
  pub enough : job.workers ≤ made
  pub tallies_of_none : AreTalliesOfNone (measure job.graph.now) tallies
