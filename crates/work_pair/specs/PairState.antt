-- A pair of buffers, as a contract sees it.
use Rattle.std.specs.Prelude.{◌≡◌, ◌⊎◌, ℕ, ◌+◌, ◌<◌, Bool, true, false, List, [], ◌∷◌, ◌++◌, length, Option, Some, None}
use Rattle.mark_core.specs.Lists.{times, IsPart}
use Rattle.buffer_pool.specs.Book.{Book}
use Rattle.buffer_pool.specs.Calls.{HeldBuffer}

-- a pair: its first and its second buffer, one that a stopped call left over, and its spill list
pub record PairState : Type 0 where
  pub first : Option HeldBuffer
  pub second : Option HeldBuffer
  pub third : Option HeldBuffer
  -- the objects for which there was no empty buffer, the last put at the end
  pub spill : List ℕ
  -- a call was stopped by a last tag
  pub stopped : Bool
  -- a call ran out of memory
  pub starved : Bool

-- the items of the buffer at a position, and its number
abbrev pub items_at : Option HeldBuffer → List ℕ
items_at None = []
items_at (Some h) = h.items

abbrev pub buffer_number : Option HeldBuffer → List ℕ
buffer_number None = []
buffer_number (Some h) = h.index ∷ []

-- the number of items of the buffer at a position, if there is one
abbrev pub count_at : Option HeldBuffer → Option ℕ
count_at None = None
count_at (Some h) = Some (length h.items)

-- the items of a pair's buffers
abbrev pub buffered_items : PairState → List ℕ
buffered_items p = items_at p.first ++ items_at p.second ++ items_at p.third

-- the items of a pair: those of its spill list and of its buffers
abbrev pub pair_items : PairState → List ℕ
pair_items p = p.spill ++ buffered_items p

-- the numbers of a pair's buffers
abbrev pub numbers_of : PairState → List ℕ
numbers_of p = buffer_number p.first ++ buffer_number p.second ++ buffer_number p.third

-- a pair that holds nothing
abbrev pub empty_pair : PairState
empty_pair = record { first = None; second = None; third = None; spill = []; stopped = false; starved = false }

-- the pair without its spill list
abbrev pub without_spill : PairState → PairState
without_spill p = record p { spill = [] }

-- a call of the pair returned a stop
abbrev pub HasStopped : PairState → Type 0
HasStopped p = (p.stopped ≡ true) ⊎ (p.starved ≡ true)

-- no last tag stopped a call, and no buffer is left over
pub record IsOpen (p : PairState) : Type 0 where
  pub going : p.stopped ≡ false
  pub third : p.third ≡ None

-- the position has a buffer that takes one more item
abbrev pub HasRoomAt : Option HeldBuffer → Type 0
HasRoomAt None = ⊥
HasRoomAt (Some h) = length h.items < h.size

-- one of a pair's two buffers takes one more item
abbrev pub HasRoom : PairState → Type 0
HasRoom p = HasRoomAt p.first ⊎ HasRoomAt p.second

-- how often a number is in the lists together
abbrev pub times_in_all : ℕ → List (List ℕ) → ℕ
times_in_all x [] = 0
times_in_all x (xs ∷ []) = times x xs
times_in_all x (xs ∷ rest) = times x xs + times_in_all x rest

-- both have the same numbers, each equally often, in any order
abbrev pub SameNumbers : List (List ℕ) → List (List ℕ) → Type 0
SameNumbers new old = (x : ℕ) → times_in_all x new ≡ times_in_all x old

-- two pairs with the same items and the same buffers
pub record AreAlike (one other : PairState) : Type 0 where
  pub items : SameNumbers (pair_items other ∷ []) (pair_items one ∷ [])
  pub buffers : SameNumbers (numbers_of other ∷ []) (numbers_of one ∷ [])

-- a new pair: two buffers without items, and nothing spilled
pub record IsNew (p : PairState) : Type 0 where
  pub going : IsOpen p
  pub none_spilled : p.spill ≡ []
  pub fed : p.starved ≡ false
  pub first : (h : HeldBuffer) × (p.first ≡ Some h) × (h.items ≡ [])
  pub second : (h : HeldBuffer) × (p.second ≡ Some h) × (h.items ≡ [])

-- the buffer at a position, if there is one, is of the size `size`: it takes at most `size` items
abbrev pub IsOfSize : ℕ → Option HeldBuffer → Type 0
IsOfSize size None = Unit {0}
IsOfSize size (Some h) = h.size ≡ size

-- the buffers of a pair are of the size `size`
pub record AreOfSize (size : ℕ) (p : PairState) : Type 0 where
  pub first : IsOfSize size p.first
  pub second : IsOfSize size p.second
  pub third : IsOfSize size p.third

-- the worker of the book holds the buffers of the pair, which are of its pool's size, and has the pair's items and the
-- objects `besides` in its charge
pub record IsBacked (p : PairState) (besides : List ℕ) (b : Book) : Type 0 where
  pub held : IsPart (numbers_of p) b.account.held
  pub charged : IsPart (pair_items p ++ besides) b.account.charge
  pub sized : AreOfSize b.setup.size p
