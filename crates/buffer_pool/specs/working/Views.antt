-- Views: what each worker knows of the events that led to a table.
use Rattle.std.specs.Prelude.{◌≡◌, ◌≢◌, ℕ, ◌<◌, true, false, List, [], ◌∷◌, ◌++◌, Some, None}
use Rattle.mark_core.specs.Lists.{StandsAt}
use Rattle.mark_core.specs.Events.{Event, Join}
use Rattle.buffer_pool.specs.declared.seat_view.SeatView.{SeatView}
use Rattle.buffer_pool.specs.WorkerLog.{Log, LeadsToBook, deeds}

-- the worker n did nothing after `story`, its story, until it was joined to another worker
pub record IsTakenIn (events : List Event) (n : ℕ) (story : List Event) : Type 0 where
  pub quiet : List Event
  pub by : ℕ
  pub later : List Event
  pub all : events ≡ (story ++ quiet) ++ record { worker = by; kind = Join n } ∷ later
  pub other : by ≢ n
  pub nothing : deeds n quiet ≡ []

-- the view of the worker w: the story of its log is a prefix of the events
pub record IsViewOf (events : List Event) (w : ℕ) (v : SeatView) : Type 0 where
  pub number : v.named ≡ true → v.log.number ≡ w
  pub since : List Event
  pub goes_on : events ≡ v.log.story ++ since
  -- the worker's steps since that story, which are splits and joins, are those in `unsaid`
  pub unsaid : deeds w since ≡ v.unsaid
  -- the story that it took in is a prefix too
  pub taken : (more : List Event) × (events ≡ v.taken ++ more)
  -- the story that it took in is another worker's. If the view has the number of its own worker, that other worker was
  -- joined, and did nothing between its story and the join
  pub apart : (n : ℕ) → v.from ≡ Some n → n ≢ w
  pub ended : v.named ≡ true → (n : ℕ) → v.from ≡ Some n → IsTakenIn events n v.taken
  -- a worker that does not know its number did nothing
  pub fresh : v.named ≡ false → deeds w events ≡ []
  -- its story leads to its book, if it knows its number and no step is left in `unsaid`
  pub leads : v.named ≡ true → v.unsaid ≡ [] → LeadsToBook v.log v.book

-- each view that has a share is the view of its worker
abbrev pub AreViewsOf : List Event → List SeatView → Type 0
AreViewsOf events views = (w : ℕ) (v : SeatView) → StandsAt views w v → 0 < v.book.account.share → IsViewOf events w v

-- the view once it has the log `log`, and nothing is left in `unsaid`
abbrev pub logged : Log → SeatView → SeatView
logged log v = record v { log = log; unsaid = []; taken = []; from = None; named = true }

-- the view has its worker's number, and nothing is left in `unsaid`
pub record HasSaidAll (v : SeatView) : Type 0 where
  pub named : v.named ≡ true
  pub unsaid : v.unsaid ≡ []
