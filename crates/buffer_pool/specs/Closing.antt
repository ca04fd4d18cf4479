-- What the marks say once one worker has the whole share, no buffer and no charge.
use Rattle.std.specs.Prelude.{◌≡◌, ◌↔◌, ℕ, ◌+◌, ◌<◌, ◌≤◌, nat_lt, Bool, false, List, length, Contains, slice_index}
use Rattle.std.specs.Prelude.{slice_index_or}
use Rattle.mark_core.specs.declared.which.Which.TheVariants.{Full, Empty}
use Rattle.mark_core.specs.Lists.{StandsAt, one_where, times}
use Rattle.mark_core.specs.World.{Marking}
use Rattle.mark_core.specs.Colours.{IsReachableIn}
use Rattle.mark_core.specs.Events.{Event}
use Rattle.mark_core.specs.Counts.{Counts, LeadTo}
use Rattle.mark_core.specs.Law.{Law}
use Rattle.mark_core.specs.Runs.{IsListOf, LiesIn}
use Rattle.buffer_pool.specs.Book.{Book, counts_of}
use Rattle.buffer_pool.specs.WorkerLog.{Log, EndsStory}

-- none of the first `count` places has a value: `filled` says which places have one
abbrev pub IsEmptied : ℕ → List Bool → Type 0
IsEmptied count filled = (k : ℕ) → k < count → slice_index_or filled k false ≡ false

-- `events` begin with the worker's story, and lead from the opening to the marking `last` and to `counts`, the counts
-- of all workers after the last step. There, the account and counts of the worker's number are those of its book.
-- `marks` are the marks in `last`
pub record IsAtTheEnd (log : Log) (b : Book) (marks : List ℕ) : Type 0 where
  pub events : List Event
  pub last : Marking
  pub counts : List Counts
  pub story : EndsStory log events
  pub led : LeadTo b.setup events last counts
  pub own : StandsAt last.accounts log.number b.account × StandsAt counts log.number (counts_of b)
  pub same_marks : (o : ℕ) → slice_index marks o ≡ last.mark o

-- what follows if the worker with the book b has the whole share, no buffer and no charge
pub record MarksTell (b : Book) (last : Marking) (marks : List ℕ) : Type 0 where
  -- the law holds of the marking
  pub law : Law b.setup last
  -- one mark for each object
  pub count : length marks ≡ b.setup.objects
  -- the finished objects are those of the finished list, each once
  pub finished : (o : ℕ) → (slice_index marks o ≡ 2) ↔ Contains b.account.finished o
  pub once : (o : ℕ) → times o b.account.finished ≤ 1
  -- the other marked objects are the items on the full stack
  pub claimed : (full : List ℕ) → IsListOf last Full full → (o : ℕ) → (slice_index marks o ≡ 1) ↔ LiesIn last full o
  -- every marked object is finished if no push on full is open
  pub emptied : b.account.open_push ≡ false → (o : ℕ) → 1 ≤ slice_index marks o → slice_index marks o ≡ 2
  -- each buffer is on one of the two stacks, once
  pub buffers :
      (full empty : List ℕ) → IsListOf last Full full → IsListOf last Empty empty
      → (i : ℕ) → times i full + times i empty ≡ one_where (nat_lt i b.setup.buffers)
  -- what was seen marked is marked, successors of finished objects are marked, and marked objects are reachable
  pub seen : (o : ℕ) → Contains b.account.seen o → 1 ≤ slice_index marks o
  pub successors : (o s : ℕ) → slice_index marks o ≡ 2 → Contains b.setup.pairs (o, s) → 1 ≤ slice_index marks s
  pub reachable : (o : ℕ) → 1 ≤ slice_index marks o → IsReachableIn b.setup o
