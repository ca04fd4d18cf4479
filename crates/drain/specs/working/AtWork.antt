-- What a worker has between its calls.
use Rattle.std.specs.Prelude.{Bool, Contains, List, [], false, if◌then◌else◌, true, ℕ, ◌+◌, ◌<◌, ◌∷◌, ◌≡◌, ◌⊎◌}
use Rattle.mark_core.specs.Events.{IsBusy}
use Rattle.mark_core.specs.Lists.{times}
use Rattle.mark_core.specs.World.{Setup}
use Rattle.mark_core.specs.declared.which.Which.TheVariants.{Empty}
use Rattle.buffer_pool.specs.Book.{empties_of}
use Rattle.buffer_pool.specs.Calls.{Owner}
use Rattle.drain.specs.declared.paired_worker.Opened.{Opened}
use Rattle.drain.specs.declared.paired_worker.Opened.TheVariants as opened
use Rattle.work_pair.specs.CallEffects.{OpensNone, OpensTwo}
use Rattle.work_pair.specs.PairState.{AreOfSize, IsOpen, PairState, buffered_items, pair_items, numbers_of}

-- The setup `e` has `count` objects, the roots `root_list` and the references `pair_list`.
pub record IsSetupOf (count : ℕ) (root_list : List ℕ) (pair_list : List (ℕ × ℕ)) (e : Setup) : Type 0 where
  pub objects : e.objects ≡ count
  pub roots : e.roots ≡ root_list
  pub pairs : e.pairs ≡ pair_list

-- The worker is of the same pool and setup, has the same share, and has seen all objects that it saw before.
pub record CameFrom (old new : Owner) : Type 0 where
  pub pool : new.pool ≡ old.pool
  pub setup : new.book.setup ≡ old.book.setup
  pub share : new.book.account.share ≡ old.book.account.share
  pub seen : (o : ℕ) → Contains old.book.account.seen o → Contains new.book.account.seen o

-- The worker came from the old one, and its idle number is unchanged: if it was busy, it is busy now.
pub record WorksOn (old new : Owner) : Type 0 where
  pub came : CameFrom old new
  pub idle : new.book.account.idle ≡ old.book.account.idle

-- The worker came from the old one, its idle number is unchanged, and it has finished nothing since.
pub record GoesOn (old new : Owner) : Type 0 where
  pub came : CameFrom old new
  pub idle : new.book.account.idle ≡ old.book.account.idle
  pub finished : new.book.account.finished ≡ old.book.account.finished

-- A worker with its pair: it holds the pair's buffers and no others. Its charge is exactly the pair's items and the
-- objects `besides`, which it is about to put or to finish.
pub record HasAtHand (p : PairState) (besides : List ℕ) (w : Owner) : Type 0 where
  pub going : IsOpen p
  pub sized : AreOfSize w.book.setup.size p
  pub held : (i : ℕ) → times i w.book.account.held ≡ times i (numbers_of p)
  pub charge : (o : ℕ) → times o w.book.account.charge ≡ times o (pair_items p) + times o besides

-- A worker that is not idle holds the buffers of its pair, and its charge is the pair's items and the objects
-- `besides`.
pub record IsAtWork (p : PairState) (besides : List ℕ) (w : Owner) : Type 0 where
  pub hand : HasAtHand p besides w
  pub busy : IsBusy w.book.account

-- A worker that was at work with any objects `besides` at hand is at work with the same objects still.
abbrev pub StaysAtWork : PairState → Owner → PairState → Owner → Type 0
StaysAtWork old_pair old new_pair new =
    (besides : List ℕ) → IsAtWork old_pair besides old → IsAtWork new_pair besides new

-- A worker whose charge has the objects `besides` may claim `o`: `o` is a root, or one of `besides` refers to `o`.
abbrev pub MayClaim : Setup → List ℕ → ℕ → Type 0
MayClaim e besides o = Contains e.roots o ⊎ ((p : ℕ) × Contains besides p × Contains e.pairs (p, o))

-- `object` was claimed: the worker saw it marked. If it was white, it is now at hand besides the objects `besides`, and
-- the worker is about to put it. Otherwise the worker has the same objects at hand as before.
pub record IsClaimed (object : ℕ) (old_pair : PairState) (old : Owner) (new_pair : PairState) (new : Owner)
    (white : Bool) : Type 0 where
  pub goes_on : GoesOn old new
  pub saw : Contains new.book.account.seen object
  pub at_work : (besides : List ℕ) → IsAtWork old_pair besides old
      → IsAtWork new_pair (if white then object ∷ besides else besides) new

-- `object`, which was at hand, was put: it is in the pair, or in a buffer that the pair pushed.
pub record IsPut (object : ℕ) (old_pair : PairState) (old : Owner) (new_pair : PairState) (new : Owner)
    : Type 0 where
  pub goes_on : GoesOn old new
  pub at_work : (besides : List ℕ) → IsAtWork old_pair (object ∷ besides) old → IsAtWork new_pair besides new

-- `objects` were claimed: the worker saw them marked, and those that were white are in the pair, or in a buffer that it
-- pushed.
pub record AreClaimed (objects : List ℕ) (old_pair : PairState) (old : Owner) (new_pair : PairState) (new : Owner)
    : Type 0 where
  pub goes_on : GoesOn old new
  pub saw : (o : ℕ) → Contains objects o → Contains new.book.account.seen o
  pub at_work : StaysAtWork old_pair old new_pair new

-- The worker holds no buffer, has no charge, and has no open push.
pub record IsFree (w : Owner) : Type 0 where
  pub held : w.book.account.held ≡ []
  pub charge : w.book.account.charge ≡ []
  pub open_push : w.book.account.open_push ≡ false

-- The pair has no items, the worker has no open push, and it found the full stack empty since its own last push there.
abbrev pub HasNoneLeft : PairState → Owner → Type 0
HasNoneLeft p w =
    (pair_items p ≡ []) × (w.book.account.open_push ≡ false) × (w.book.account.found ≡ true)

-- A worker is through: it came from `begun`, and is free. It may be idle.
abbrev pub IsThrough : Owner → Owner → Type 0
IsThrough begun w = CameFrom begun w × IsFree w

-- The items of the pair's buffers were given to others as long as there were empty buffers: no item is left in the
-- buffers, or the worker has seen the empty stack empty.
abbrev pub HasGiven : PairState → Owner → Type 0
HasGiven p w = (buffered_items p ≡ []) ⊎ (0 < empties_of w.book Empty)

-- The result of opening a pair for the worker `w`: it is at work with two buffers, and with nothing at hand besides the
-- pair's items; or it is free, and two empty buffers were not found.
abbrev pub HasOpened : {A : Type 0} → Owner → Opened A → Type 0
HasOpened w (opened.Paired p) =
    GoesOn w p.worker × IsAtWork p.pair [] p.worker × OpensTwo w.book p.pair p.worker.book
HasOpened w (opened.Unpaired v) = GoesOn w v × IsFree v × OpensNone w.book v.book

-- The worker saw each root marked.
abbrev pub SawRoots : Owner → Type 0
SawRoots w = (o : ℕ) → Contains w.book.setup.roots o → Contains w.book.account.seen o

-- The leader, while others have parts of its share: it holds the same buffers, has the same charge, and pushes nothing
-- on the full stack.
pub record Leads (old new : Owner) : Type 0 where
  pub pool : new.pool ≡ old.pool
  pub setup : new.book.setup ≡ old.book.setup
  pub seen : (o : ℕ) → Contains old.book.account.seen o → Contains new.book.account.seen o
  pub held : (i : ℕ) → times i new.book.account.held ≡ times i old.book.account.held
  pub charge : (o : ℕ) → times o new.book.account.charge ≡ times o old.book.account.charge
  pub pushed : new.book.account.pushed ≡ old.book.account.pushed

-- The leader at the end: it has `units` units, is free, and saw each root.
pub record HasLed (units : ℕ) (begun w : Owner) : Type 0 where
  pub pool : w.pool ≡ begun.pool
  pub setup : w.book.setup ≡ begun.book.setup
  pub share : w.book.account.share ≡ units
  pub free : IsFree w
  pub saw : SawRoots w
