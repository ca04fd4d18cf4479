-- A worker's log: the steps of all workers of a pool up to this worker's last step, and which of these steps are its
-- own.
use Rattle.std.specs.Prelude.{◌≡◌, ℕ, ◌==◌, if◌then◌else◌, List, [], ◌∷◌, ◌++◌}
use Rattle.mark_core.specs.Lists.{StandsAt}
use Rattle.mark_core.specs.World.{Marking}
use Rattle.mark_core.specs.Events.{Kind, Event}
use Rattle.mark_core.specs.Counts.{Counts, LeadTo}
use Rattle.buffer_pool.specs.Book.{Book, counts_of}

pub record Log : Type 0 where
  -- the worker's number among the accounts
  pub number : ℕ
  -- all that the workers of its pool did, from the opening to this worker's last step
  pub story : List Event

-- the steps of worker w, in order
abbrev pub deeds : ℕ → List Event → List Kind
deeds w [] = []
deeds w (event ∷ events) = if event.worker == w then event.kind ∷ deeds w events else deeds w events

-- the story was continued, and the worker's own steps among the new events are exactly `kinds`
abbrev pub Did : Log → List Kind → Log → Type 0
Did old kinds new =
    (since : List Event) × (new ≡ record old { story = old.story ++ since }) × (deeds old.number since ≡ kinds)

-- the log of the first worker of a new pool
abbrev pub first_log : Log
first_log = record { number = 0; story = [] }

-- the log `new` of a new worker: its story continues that of the log `from`, and the worker did nothing
abbrev pub IsNewcomer : Log → Log → Type 0
IsNewcomer from new = ((more : List Event) × (new.story ≡ from.story ++ more)) × (deeds new.number new.story ≡ [])

-- `events` begin with the worker's story, and after that story the worker did nothing
abbrev pub EndsStory : Log → List Event → Type 0
EndsStory log events = (since : List Event) × (events ≡ log.story ++ since) × (deeds log.number since ≡ [])

-- the story leads from the opening to a marking and counts, in which the account and counts of the worker's number are
-- those of the book
abbrev pub LeadsToBook : Log → Book → Type 0
LeadsToBook log b =
    (m : Marking) × (counts : List Counts) × LeadTo b.setup log.story m counts
    × StandsAt m.accounts log.number b.account × StandsAt counts log.number (counts_of b)
