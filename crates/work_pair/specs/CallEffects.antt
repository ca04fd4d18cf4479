-- The effect of each call of a pair on the pair and on the book of its worker.
use Rattle.std.specs.Prelude.{◌≡◌, ◌≢◌, ◌⊎◌, ℕ, ◌-◌, ◌/◌, ◌<◌, true, false, List, [], ◌∷◌, ◌++◌, length}
use Rattle.std.specs.Prelude.{take, drop, Option, Some, None}
use Rattle.mark_core.specs.declared.which.Which.TheVariants.{Full, Empty}
use Rattle.buffer_pool.specs.Book.{Book}
use Rattle.buffer_pool.specs.Calls.{HeldBuffer, PoolId, first_tag_of}
use Rattle.work_pair.specs.Moves.{Move, Took, Gave, FoundNone, Moves, popped_items, popped_numbers, pushed_items}
use Rattle.work_pair.specs.Moves.{pushed_numbers, AreFilled, HasPushOnFull, HasPopFromFull, EndAtLastTag, shelving_of}
use Rattle.work_pair.specs.PairState.{PairState, buffered_items, pair_items, items_at, numbers_of, empty_pair}
use Rattle.work_pair.specs.PairState.{without_spill}
use Rattle.work_pair.specs.PairState.{HasRoom, IsBacked, SameNumbers}
use Rattle.work_pair.specs.declared.stop.Stop.{Stop}
use Rattle.work_pair.specs.declared.stop.Stop.TheVariants.{TagSpent, OutOfMemory}

-- the stop has the token of a spent tag
abbrev pub IsTagSpent : Stop → Type 0
IsTagSpent (TagSpent token) = Unit {0}
IsTagSpent OutOfMemory = ⊥

-- if the stop has a token, it is of a pool with the same first tag
abbrev pub IsStopOf : PoolId → Stop → Type 0
IsStopOf pool (TagSpent token) = first_tag_of token ≡ pool.first_tag
IsStopOf pool OutOfMemory = Unit {0}

-- the worker has the same share, the same idle number, the same objects seen and finished, and the same setup of its
-- pool
pub record Keeps (old new : Book) : Type 0 where
  pub setup : new.setup ≡ old.setup
  pub share : new.account.share ≡ old.account.share
  pub idle : new.account.idle ≡ old.account.idle
  pub seen : new.account.seen ≡ old.account.seen
  pub finished : new.account.finished ≡ old.account.finished

-- a call with a pair, in which objects were put and got
pub record CallEffect (old : PairState) (before : Book) (put got : List ℕ) (new : PairState)
    (after : Book) : Type 0 where
  -- the pops and pushes in order, with those that found no buffer or loaded a last tag
  pub moves : List Move
  pub books : Moves before moves after
  -- the items after: those before, plus those of buffers popped and those put, minus those of buffers pushed and those
  -- got
  pub items : SameNumbers (pair_items new ∷ got ∷ pushed_items moves ∷ [])
      (pair_items old ∷ put ∷ popped_items moves ∷ [])
  -- the buffers after: those before, plus those popped, minus those pushed
  pub buffers : SameNumbers (numbers_of new ∷ pushed_numbers moves ∷ []) (numbers_of old ∷ popped_numbers moves ∷ [])
  -- only a buffer with items is pushed on full
  pub filled : AreFilled moves
  -- the charge and the held buffers change by the buffers popped and pushed; the fields of `Keeps` stay
  pub charge : SameNumbers (after.account.charge ∷ pushed_items moves ∷ [])
      (before.account.charge ∷ popped_items moves ∷ [])
  pub held : SameNumbers (after.account.held ∷ pushed_numbers moves ∷ [])
      (before.account.held ∷ popped_numbers moves ∷ [])
  pub kept : Keeps before after
  -- the worker still holds the pair's buffers, and has its items and those got in its charge
  pub backed : IsBacked new got after
  -- a call that pushes nothing on full opens no push
  pub closed : (HasPushOnFull moves → ⊥) → before.account.open_push ≡ false → after.account.open_push ≡ false
  -- if the pair is stopped, the last move loaded a last tag
  pub last_tag : new.stopped ≡ true → EndAtLastTag moves

-- the second buffer has items, or the first more than four
abbrev pub HasMore : PairState → Type 0
HasMore p = (items_at p.second ≢ []) ⊎ (4 < length (items_at p.first))

-- a call that popped nothing from full
abbrev pub PopsNoneFromFull : PairState → Book → PairState → Book → Type 0
PopsNoneFromFull old before new after = (effect : CallEffect old before [] [] new after)
    × (HasPopFromFull effect.moves → ⊥)

-- a call that pushed nothing on full, and popped nothing from it
abbrev pub TouchesNoFull : PairState → Book → PairState → Book → Type 0
TouchesNoFull old before new after =
    (effect : CallEffect old before [] [] new after)
    × (HasPushOnFull effect.moves → ⊥)
    × (HasPopFromFull effect.moves → ⊥)

-- no pair was opened: the first look for an empty buffer found none; or the first popped a buffer, the second found
-- none, and the popped buffer was pushed back
abbrev pub OpensNone : Book → Book → Type 0
OpensNone before after =
    (effect : CallEffect empty_pair before [] [] empty_pair after)
    × ((effect.moves ≡ FoundNone Empty ∷ [])
    ⊎ ((h : HeldBuffer) × (effect.moves ≡ Took Empty h ∷ FoundNone Empty ∷ Gave Empty h ∷ [])))

-- a pair was opened: its first buffer was popped from empty, and then its second
abbrev pub OpensTwo : Book → PairState → Book → Type 0
OpensTwo before opened after =
    (effect : CallEffect empty_pair before [] [] opened after) × (h : HeldBuffer) × (k : HeldBuffer)
    × (effect.moves ≡ Took Empty h ∷ Took Empty k ∷ []) × (opened.first ≡ Some h) × (opened.second ≡ Some k)

-- the push on full of the buffer at a position, if there is one
abbrev pub push_of : Option HeldBuffer → List Move
push_of None = []
push_of (Some h) = Gave Full h ∷ []

-- the upper half of a list, rounded down, and the part below it
abbrev pub upper_half : List ℕ → List ℕ
upper_half xs = drop (length xs - length xs / 2) xs

abbrev pub lower_part : List ℕ → List ℕ
lower_part xs = take (length xs - length xs / 2) xs

-- the second buffer had items and was pushed whole; an empty one is at its position, and the first is as before
abbrev pub GivesSecond : PairState → List Move → PairState → Type 0
GivesSecond old moves new =
    (h : HeldBuffer) × (h.items ≡ []) × (items_at old.second ≢ [])
    × (moves ≡ Took Empty h ∷ push_of old.second) × (new.first ≡ old.first) × (new.second ≡ Some h)

-- the second buffer had no items, and stays; the lower part of the first was pushed, and the popped buffer, now the
-- first, has the upper half
abbrev pub GivesLowerPart : PairState → List Move → PairState → Type 0
GivesLowerPart old moves new =
    (h : HeldBuffer) × (k : HeldBuffer) × (items_at old.second ≡ []) × (old.first ≡ Some k)
    × (moves ≡ Took Empty h ∷ Gave Full (record k { items = lower_part k.items }) ∷ [])
    × (new.first ≡ Some (record h { items = upper_half k.items })) × (new.second ≡ old.second)

-- what a balance pushed: nothing, and both buffers are as before; or the second buffer; or the lower part of the first
abbrev pub Gives : PairState → List Move → PairState → Type 0
Gives old moves new =
    ((HasPushOnFull moves → ⊥) × (new.first ≡ old.first) × (new.second ≡ old.second))
    ⊎ (GivesSecond old moves new ⊎ GivesLowerPart old moves new)

-- a balance: if the second buffer had items or the first more than four, it pushed a buffer with items on full, or it
-- looked for an empty buffer, found none and did nothing else with the stacks. It popped nothing from full, and what it
-- pushed is as `Gives` says
abbrev pub Balances : PairState → Book → PairState → Book → Type 0
Balances old before new after =
    (effect : CallEffect old before [] [] new after)
    × (HasMore old → (effect.moves ≡ FoundNone Empty ∷ []) ⊎ HasPushOnFull effect.moves)
    × (HasPopFromFull effect.moves → ⊥)
    × Gives old effect.moves new

-- the second buffer, if there was one, was pushed; the old first is now the second; and the popped one, now the first,
-- has only the object
abbrev pub FillsNext : PairState → ℕ → List Move → PairState → Type 0
FillsNext old object moves new =
    (h : HeldBuffer) × (moves ≡ Took Empty h ∷ push_of old.second)
    × (new.first ≡ Some (record h { items = object ∷ [] })) × (new.second ≡ old.first)

-- the effect of a publishing on one position: it has no items, and stays; or no empty buffer was found, and it stays;
-- or its buffer was pushed on full, and the popped one is at its position
abbrev pub PublishesPosition : Option HeldBuffer → List Move → Option HeldBuffer → Type 0
PublishesPosition old moves new =
    ((moves ≡ []) × (items_at old ≡ []) × (new ≡ old))
    ⊎ (((moves ≡ FoundNone Empty ∷ []) × (items_at old ≢ []) × (new ≡ old))
    ⊎ ((h : HeldBuffer) × (h.items ≡ []) × (items_at old ≢ []) × (moves ≡ Took Empty h ∷ push_of old)
    × (new ≡ Some h)))

-- the effect of a publishing on the first position, and then on the second
abbrev pub Publishes : PairState → List Move → PairState → Type 0
Publishes old moves new =
    (first : List Move) × (second : List Move) × (moves ≡ first ++ second)
    × PublishesPosition old.first first new.first × PublishesPosition old.second second new.second

-- a publishing: its effect on the book and on both positions
abbrev pub PublishesBoth : PairState → Book → PairState → Book → Type 0
PublishesBoth old before new after =
    (effect : CallEffect old before [] [] new after) × Publishes old effect.moves new

-- an object was put into a buffer, or at the end of the spill list. In the second case the call looked for an empty
-- buffer, found none and did nothing else with the stacks. It popped nothing from full. One of three holds: a buffer
-- had room, and the call made no move; or a look for an empty buffer found none; or an empty buffer was popped, and the
-- second buffer, if there was one, was pushed
abbrev pub Puts : PairState → Book → ℕ → PairState → Book → Type 0
Puts old before object new after =
    (effect : CallEffect old before (object ∷ []) [] new after)
    × ((new.spill ≡ old.spill) ⊎ ((new.spill ≡ old.spill ++ object ∷ []) × (effect.moves ≡ FoundNone Empty ∷ [])))
    × (HasPopFromFull effect.moves → ⊥)
    × ((HasRoom old × (effect.moves ≡ []))
    ⊎ ((effect.moves ≡ FoundNone Empty ∷ []) ⊎ FillsNext old object effect.moves new))

-- the last item of the buffer at a position was taken
abbrev pub TakesLast : Option HeldBuffer → ℕ → Option HeldBuffer → Type 0
TakesLast old object new =
    (h : HeldBuffer) × (rest : List ℕ) × (old ≡ Some h) × (h.items ≡ rest ++ object ∷ [])
    × (new ≡ Some (record h { items = rest }))

-- the object was taken from the first buffer; or the first had no item, the object was taken from the second, and the
-- two exchanged positions
abbrev pub TakesOwn : PairState → ℕ → PairState → Type 0
TakesOwn old object new =
    (TakesLast old.first object new.first × (new.second ≡ old.second))
    ⊎ ((items_at old.first ≡ []) × TakesLast old.second object new.first × (new.second ≡ old.first))

-- neither buffer had an item, and the two exchanged positions
abbrev pub FindsNoOwn : PairState → PairState → Type 0
FindsNoOwn old new =
    (items_at old.first ≡ []) × (items_at old.second ≡ [])
    × (new.first ≡ old.second) × (new.second ≡ old.first)

-- the buffers in the list, the last one first, were popped from full. Each was popped when neither of the pair's two
-- had an item: it becomes the first, the old first becomes the second, and the old second is pushed on empty
abbrev pub Refills : List HeldBuffer → PairState → List Move → PairState → Type 0
Refills [] old moves new = (moves ≡ []) × (new.first ≡ old.first) × (new.second ≡ old.second)
Refills (h ∷ popped) old moves new =
    (mid : PairState) × (before : List Move) × Refills popped old before mid
    × (items_at mid.first ≡ []) × (items_at mid.second ≡ [])
    × (moves ≡ before ++ Took Full h ∷ shelving_of mid.second)
    × (new.first ≡ Some h) × (new.second ≡ mid.first)

-- the end of a get: an object of the pair's own, or if it has none, a look that found no buffer on full
abbrev pub EndsGet : PairState → List Move → Option ℕ → PairState → Type 0
EndsGet old moves (Some object) new = (moves ≡ []) × TakesOwn old object new
EndsGet old moves None new = (moves ≡ FoundNone Full ∷ []) × FindsNoOwn old new

-- a whole get; all popped buffers except the last had no item
abbrev pub GetsBy : PairState → List Move → Option ℕ → PairState → Type 0
GetsBy old moves got new =
    (popped : List HeldBuffer) × (mid : PairState) × (refilling : List Move) × (last : List Move)
    × (moves ≡ refilling ++ last) × Refills popped old refilling mid × EndsGet mid last got new

-- what was got, as a list
abbrev pub got_of : Option ℕ → List ℕ
got_of None = []
got_of (Some object) = object ∷ []

-- an object was got from the buffers, or none was left
abbrev pub Gets : PairState → Book → Option ℕ → PairState → Book → Type 0
Gets old before got new after =
    (effect : CallEffect old before [] (got_of got) new after) × GetsBy old effect.moves got new

-- a call that dropped the spill list and pushed buffers back. It pushed none on full if the buffers had no items, and
-- popped nothing from full
abbrev pub Disposes : PairState → Book → PairState → Book → Type 0
Disposes old before new after =
    (effect : CallEffect (without_spill old) before [] [] new after)
    × (buffered_items old ≡ [] → HasPushOnFull effect.moves → ⊥)
    × (HasPopFromFull effect.moves → ⊥)

-- all buffers were pushed back, one after the other, each on full if it has items and on empty otherwise
abbrev pub ShelvesAll : PairState → Book → Book → Type 0
ShelvesAll old before after =
    (effect : CallEffect (without_spill old) before [] [] empty_pair after)
    × (effect.moves ≡ shelving_of old.first ++ shelving_of old.second ++ shelving_of old.third)
