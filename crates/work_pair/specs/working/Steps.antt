-- The effect of each part of a call of a pair.
use Rattle.std.specs.Prelude.{◌≡◌, ◌≢◌, ◌⊎◌, ℕ, ◌+◌, false, Bool, true, List, [], ◌∷◌, ◌++◌, Option, Some, None, Result}
use Rattle.std.specs.Prelude.{IfErr, IsOk, Ok, Err}
use Rattle.mark_core.specs.declared.which.Which.{Which}
use Rattle.mark_core.specs.declared.which.Which.TheVariants.{Full, Empty}
use Rattle.mark_core.specs.Lists.{times}
use Rattle.buffer_pool.specs.Book.{Book}
use Rattle.buffer_pool.specs.Calls.{HeldBuffer, Owner, PoolId}
use Rattle.work_pair.specs.CallEffects.{FillsNext, FindsNoOwn, GetsBy, Gives, HasMore, IsStopOf, Publishes}
use Rattle.work_pair.specs.CallEffects.{PublishesPosition, TakesOwn, lower_part, upper_half}
use Rattle.work_pair.specs.Moves.{Move, Took, Gave, FoundNone, Spent, Moved, Moves, popped_items, popped_numbers}
use Rattle.work_pair.specs.Moves.{pushed_items, pushed_numbers, AreFilled, HasPushOnFull, HasPopFromFull, EndAtLastTag}
use Rattle.work_pair.specs.Moves.{WasSeenEmpty, shelf_of, shelving_of}
use Rattle.work_pair.specs.PairState.{PairState, items_at, buffer_number, pair_items, numbers_of, empty_pair, IsOfSize}
use Rattle.work_pair.specs.PairState.{AreAlike, AreOfSize, HasRoom}
use Rattle.work_pair.specs.declared.stop.Stop.{Stop}
use Rattle.work_pair.specs.declared.stop.Stop.TheVariants.{TagSpent, OutOfMemory}

-- a pair with three positions, and nothing else
abbrev pub positions : Option HeldBuffer → Option HeldBuffer → Option HeldBuffer → PairState
positions first second third =
    record { first = first; second = second; third = third; spill = []; stopped = false; starved = false }

-- one pop
abbrev pub PopsOne : Which → Book → Book → Result (Option HeldBuffer) Stop → Type 0
PopsOne q old new (Ok (Some h)) = Moved (Took q h) old new
PopsOne q old new (Ok None) = Moved (FoundNone q) old new
PopsOne q old new (Err (TagSpent token)) = Moved (Spent q) old new
PopsOne q old new (Err OutOfMemory) = ⊥

-- one push
abbrev pub Shelves : HeldBuffer → Book → Book → Result Unit HeldBuffer → Type 0
Shelves h old new (Ok done) = Moved (Gave (shelf_of h.items) h) old new
Shelves h old new (Err back) = (back ≡ h) × Moved (Spent (shelf_of h.items)) old new

-- the buffer at a position, if there is one, was pushed
abbrev pub Leaves : Option HeldBuffer → Book → Book → Type 0
Leaves None old new = new ≡ old
Leaves (Some h) old new = Moved (Gave (shelf_of h.items) h) old new

-- the buffer at a position was pushed, and the next one took its place; or a last tag was loaded, and the next one is
-- left over
abbrev pub PutsOut : Option HeldBuffer → HeldBuffer → Book → Option HeldBuffer → Option HeldBuffer → Book
    → Result Unit Stop → Type 0
PutsOut old next before new third after (Ok done) = (new ≡ Some next) × (third ≡ None) × Leaves old before after
PutsOut old next before new third after (Err (TagSpent token)) = (new ≡ old) × (third ≡ Some next) × ((q : Which)
    × Moved (Spent q) before after)
PutsOut old next before new third after (Err OutOfMemory) = ⊥

-- the buffer at a position, if there is one, was pushed; or a last tag was loaded, and it is still there
abbrev pub ClearsAt : Option HeldBuffer → Book → Option HeldBuffer → Book → Result Unit Stop → Type 0
ClearsAt old before new after (Ok done) = (new ≡ None) × Leaves old before after
ClearsAt old before new after (Err (TagSpent token)) = (new ≡ old) × ((q : Which) × Moved (Spent q) before after)
ClearsAt old before new after (Err OutOfMemory) = ⊥

-- a pair changed without its worker: objects were put and got, and the buffers are the same
pub record IsLocal (old new : PairState) (put got : List ℕ) : Type 0 where
  pub items : (o : ℕ) → times o (pair_items new) + times o got ≡ times o (pair_items old) + times o put
  pub buffers : (i : ℕ) → times i (numbers_of new) ≡ times i (numbers_of old)
  pub sized : (size : ℕ) → AreOfSize size old → AreOfSize size new

abbrev pub Takes : PairState → PairState → Option ℕ → Type 0
Takes old new (Some object) =
    IsLocal old new [] (object ∷ []) × (new.third ≡ old.third) × TakesOwn old object new
Takes old new None = IsLocal old new [] [] × (new.third ≡ old.third) × FindsNoOwn old new

-- the effect on one position: its buffer before, the buffer there after, and the one left over
pub record Renews (old : Option HeldBuffer) (before : Book) (new third : Option HeldBuffer) (after : Book)
    : Type 0 where
  pub moves : List Move
  pub books : Moves before moves after
  pub items : (o : ℕ) → times o (items_at new) + times o (items_at third) + times o (pushed_items moves)
      ≡ times o (items_at old) + times o (popped_items moves)
  pub buffers : (i : ℕ) → times i (buffer_number new) + times i (buffer_number third) + times i (pushed_numbers moves)
      ≡ times i (buffer_number old) + times i (popped_numbers moves)
  pub filled : AreFilled moves
  pub sized : IsOfSize before.setup.size new
  pub left_sized : IsOfSize before.setup.size third

-- the stack that the buffer was popped from is the full one
abbrev pub IsFull : Which → Type 0
IsFull Full = Unit {0}
IsFull Empty = ⊥

-- what is pushed of the buffer at a position, if there is one: all of it, or its lower part if it is halved
abbrev pub pushed_part : Bool → Option HeldBuffer → Option HeldBuffer
pushed_part false old = old
pushed_part true None = None
pushed_part true (Some k) = Some (record k { items = lower_part k.items })

-- the buffer that is at the position afterwards: the popped one, with the upper half of the items if the old one was
-- halved
abbrev pub next_of : Bool → Option HeldBuffer → HeldBuffer → HeldBuffer
next_of false old h = h
next_of true old h = record h { items = upper_half (items_at old) }

abbrev pub Replaces : Bool → Which → Option HeldBuffer → List Move → Option HeldBuffer → Type 0
Replaces half q old moves new =
    (h : HeldBuffer) × (moves ≡ Took q h ∷ shelving_of (pushed_part half old)) × (new ≡ Some (next_of half old h))
    × (q ≡ Empty → h.items ≡ [])

abbrev pub RenewAnswers : Bool → Which → Option HeldBuffer → Book → Option HeldBuffer → Option HeldBuffer → Book
    → Result Bool Stop → Type 0
RenewAnswers half q old before new third after (Ok true) = (r : Renews old before new third after)
    × (third ≡ None) × ((items_at old ≢ []) → HasPushOnFull r.moves) × (HasPopFromFull r.moves → IsFull q)
    × Replaces half q old r.moves new
RenewAnswers half q old before new third after (Ok false) = (r : Renews old before new third after)
    × (third ≡ None) × (new ≡ old) × WasSeenEmpty Empty before after × (r.moves ≡ FoundNone Empty ∷ [])
RenewAnswers half q old before new third after (Err (TagSpent token)) = (r : Renews old before new third after)
    × EndAtLastTag r.moves × (HasPopFromFull r.moves → IsFull q)
RenewAnswers half q old before new third after (Err OutOfMemory) = ⊥

-- one position was published: its buffer was pushed on full and replaced if it had items, unless no empty buffer was
-- found; or a last tag was loaded
abbrev pub PublishesAt : Option HeldBuffer → Book → Option HeldBuffer → Option HeldBuffer → Book
    → Result Unit Stop → Type 0
PublishesAt old before new third after (Ok done) = (r : Renews old before new third after)
    × (third ≡ None) × (WasSeenEmpty Empty before after ⊎ (items_at new ≡ [])) × (HasPopFromFull r.moves → ⊥)
    × PublishesPosition old r.moves new
PublishesAt old before new third after (Err (TagSpent token)) = (r : Renews old before new third after)
    × EndAtLastTag r.moves × (HasPopFromFull r.moves → ⊥)
PublishesAt old before new third after (Err OutOfMemory) = ⊥

-- the effect on all three positions
pub record Trades (old : PairState) (before : Book) (put got : List ℕ) (new : PairState) (after : Book) : Type 0 where
  pub moves : List Move
  pub books : Moves before moves after
  pub items : (o : ℕ) → times o (pair_items new) + times o got + times o (pushed_items moves)
      ≡ times o (pair_items old) + times o put + times o (popped_items moves)
  pub buffers : (i : ℕ) → times i (numbers_of new) + times i (pushed_numbers moves)
      ≡ times i (numbers_of old) + times i (popped_numbers moves)
  pub filled : AreFilled moves
  pub sized : AreOfSize before.setup.size new

-- a call did nothing except a look for an empty buffer that found none
abbrev pub FindsNone : PairState → Book → PairState → Book → Type 0
FindsNone old before new after = (t : Trades old before [] [] new after) × (new.third ≡ None)
    × (t.moves ≡ FoundNone Empty ∷ []) × AreAlike old new

-- a call was stopped by a last tag
abbrev pub Ends : PairState → Book → PairState → Book → Stop → Type 0
Ends old before new after (TagSpent token) = (t : Trades old before [] [] new after) × EndAtLastTag t.moves
Ends old before new after OutOfMemory = ⊥

-- a call was stopped by a last tag, and nothing was popped from full
abbrev pub EndsOut : PairState → Book → PairState → Book → Stop → Type 0
EndsOut old before new after (TagSpent token) = (t : Trades old before [] [] new after) × EndAtLastTag t.moves
    × (HasPopFromFull t.moves → ⊥)
EndsOut old before new after OutOfMemory = ⊥

abbrev pub PutAnswers : ℕ → PairState → Book → PairState → Book → Result Bool Stop → Type 0
PutAnswers object old before new after (Ok true) = (t : Trades old before (object ∷ []) [] new after)
    × (new.third ≡ None) × (HasPopFromFull t.moves → ⊥)
    × ((HasRoom old × (t.moves ≡ [])) ⊎ FillsNext old object t.moves new)
PutAnswers object old before new after (Ok false) = FindsNone old before new after
PutAnswers object old before new after (Err stop) = EndsOut old before new after stop

abbrev pub GetAnswers : PairState → Book → PairState → Book → Result (Option ℕ) Stop → Type 0
GetAnswers old before new after (Ok (Some object)) =
    (t : Trades old before [] (object ∷ []) new after) × (new.third ≡ None) × GetsBy old t.moves (Some object) new
GetAnswers old before new after (Ok None) =
    (t : Trades old before [] [] new after) × (new.third ≡ None) × (pair_items new ≡ [])
    × WasSeenEmpty Full before after × (after.account.open_push ≡ false) × (after.account.found ≡ true)
    × GetsBy old t.moves None new
GetAnswers old before new after (Err stop) = Ends old before new after stop

-- a put into the buffers, with the effect on the worker, which did nothing if there was room
pub record PutsObject (pool_id : PoolId) (there_is_room : Type 0) (object : ℕ) (old : PairState) (before : Owner)
    (new : PairState) (after : Owner) (result : Result Bool Stop) : Type 0 where
  pub pool : after.pool ≡ before.pool
  pub puts : PutAnswers object old before.book new after.book result
  pub room : there_is_room → (after ≡ before) × (result ≡ Ok true)
  pub of_pool : IfErr result (IsStopOf pool_id)

-- a get from the buffers; if they had an object the worker did nothing
pub record GetsObject (pool_id : PoolId) (old : PairState) (before : Owner) (new : PairState) (after : Owner)
    (result : Result (Option ℕ) Stop) : Type 0 where
  pub pool : after.pool ≡ before.pool
  pub gets : GetAnswers old before.book new after.book result
  pub own : pair_items old ≢ [] → (after ≡ before) × IsOk result
  pub of_pool : IfErr result (IsStopOf pool_id)

abbrev pub BalanceAnswers : PairState → Book → PairState → Book → Result Unit Stop → Type 0
BalanceAnswers old before new after (Ok done) =
    (t : Trades old before [] [] new after) × (new.third ≡ None) × (HasMore old → (t.moves
    ≡ FoundNone Empty ∷ []) ⊎ HasPushOnFull t.moves) × (HasPopFromFull t.moves → ⊥) × Gives old t.moves new
BalanceAnswers old before new after (Err stop) = EndsOut old before new after stop

abbrev pub PublishAnswers : PairState → Book → PairState → Book → Result Unit Stop → Type 0
PublishAnswers old before new after (Ok done) = (t : Trades old before [] [] new after) × (new.third ≡ None)
    × (WasSeenEmpty Empty before after ⊎ (pair_items new ≡ [])) × (HasPopFromFull t.moves → ⊥)
    × Publishes old t.moves new
PublishAnswers old before new after (Err stop) = EndsOut old before new after stop

-- buffers were pushed back, and `new` has those that are left
pub record Clears (old : PairState) (before : Book) (new : PairState) (after : Book) : Type 0 where
  pub trades : Trades old before [] [] new after
  pub quiet : pair_items old ≡ [] → HasPushOnFull trades.moves → ⊥
  pub out : HasPopFromFull trades.moves → ⊥

abbrev pub ClearAnswers : PairState → Book → PairState → Book → Result Unit Stop → Type 0
ClearAnswers old before new after (Ok done) = (c : Clears old before empty_pair after)
    × (c.trades.moves ≡ shelving_of old.first ++ shelving_of old.second ++ shelving_of old.third)
ClearAnswers old before new after (Err (TagSpent token)) =
    (c : Clears old before new after) × EndAtLastTag c.trades.moves
ClearAnswers old before new after (Err OutOfMemory) = ⊥
