-- The moves of a call of a pair: its steps on the stacks of its pool.
use Rattle.std.specs.Prelude.{◌≡◌, ◌≢◌, ◌⊎◌, ℕ, ◌<◌, List, [], ◌∷◌, ◌++◌, Option, Some, None}
use Rattle.mark_core.specs.declared.which.Which.{Which}
use Rattle.mark_core.specs.declared.which.Which.TheVariants.{Full, Empty}
use Rattle.buffer_pool.specs.Book.{Book, empties_of}
use Rattle.buffer_pool.specs.Calls.{HeldBuffer, MayPush, Pops, Pushes}
use Rattle.buffer_pool.specs.declared.answers.Popped.TheVariants as pop
use Rattle.buffer_pool.specs.declared.answers.TryPushed.TheVariants as try_push

pub data Move : Type 0 where
  -- a buffer was popped from the stack
  Took : Which → HeldBuffer → Move
  -- a buffer was pushed on the stack
  Gave : Which → HeldBuffer → Move
  -- a pop saw the stack empty
  FoundNone : Which → Move
  -- a pop or a push loaded the stack's last tag
  Spent : Which → Move

-- the effect of a move on the book of the worker that makes it
abbrev pub Moved : Move → Book → Book → Type 0
Moved (Took q h) old new = Pops q old new (pop.Took h)
Moved (Gave q h) old new = MayPush q h old × Pushes q h old new try_push.Done
Moved (FoundNone q) old new = Pops q old new pop.Empty
Moved (Spent q) old new = Pops q old new pop.Spent ⊎ ((h : HeldBuffer) × MayPush q h old
    × Pushes q h old new (try_push.Spent h))

-- moves one after the other
abbrev pub Moves : Book → List Move → Book → Type 0
Moves old [] new = new ≡ old
Moves old (move ∷ moves) new = (mid : Book) × Moved move old mid × Moves mid moves new

-- the stack for a buffer with the given items: full if there are some, and empty otherwise
abbrev pub shelf_of : List ℕ → Which
shelf_of [] = Empty
shelf_of (o ∷ os) = Full

-- the push of the buffer at a position, if there is one, on the stack that it belongs to
abbrev pub shelving_of : Option HeldBuffer → List Move
shelving_of None = []
shelving_of (Some h) = Gave (shelf_of h.items) h ∷ []

-- the items and the numbers of the buffers popped
abbrev pub taken_items : Move → List ℕ
taken_items (Took q h) = h.items
taken_items (Gave q h) = []
taken_items (FoundNone q) = []
taken_items (Spent q) = []

abbrev pub taken_number : Move → List ℕ
taken_number (Took q h) = h.index ∷ []
taken_number (Gave q h) = []
taken_number (FoundNone q) = []
taken_number (Spent q) = []

abbrev pub popped_items : List Move → List ℕ
popped_items [] = []
popped_items (move ∷ moves) = taken_items move ++ popped_items moves

abbrev pub popped_numbers : List Move → List ℕ
popped_numbers [] = []
popped_numbers (move ∷ moves) = taken_number move ++ popped_numbers moves

-- the items and the numbers of the buffers pushed
abbrev pub given_items : Move → List ℕ
given_items (Took q h) = []
given_items (Gave q h) = h.items
given_items (FoundNone q) = []
given_items (Spent q) = []

abbrev pub given_number : Move → List ℕ
given_number (Took q h) = []
given_number (Gave q h) = h.index ∷ []
given_number (FoundNone q) = []
given_number (Spent q) = []

abbrev pub pushed_items : List Move → List ℕ
pushed_items [] = []
pushed_items (move ∷ moves) = given_items move ++ pushed_items moves

abbrev pub pushed_numbers : List Move → List ℕ
pushed_numbers [] = []
pushed_numbers (move ∷ moves) = given_number move ++ pushed_numbers moves

-- a buffer pushed on full has items
abbrev pub IsFilled : Move → Type 0
IsFilled (Took q h) = Unit {0}
IsFilled (Gave Full h) = h.items ≢ []
IsFilled (Gave Empty h) = Unit {0}
IsFilled (FoundNone q) = Unit {0}
IsFilled (Spent q) = Unit {0}

abbrev pub AreFilled : List Move → Type 0
AreFilled [] = Unit {0}
AreFilled (move ∷ moves) = IsFilled move × AreFilled moves

-- a buffer was pushed on full
abbrev pub IsOnFull : Move → Type 0
IsOnFull (Took q h) = ⊥
IsOnFull (Gave Full h) = Unit {0}
IsOnFull (Gave Empty h) = ⊥
IsOnFull (FoundNone q) = ⊥
IsOnFull (Spent q) = ⊥

abbrev pub HasPushOnFull : List Move → Type 0
HasPushOnFull [] = ⊥
HasPushOnFull (move ∷ moves) = IsOnFull move ⊎ HasPushOnFull moves

-- a buffer was popped from full
abbrev pub IsFromFull : Move → Type 0
IsFromFull (Took Full h) = Unit {0}
IsFromFull (Took Empty h) = ⊥
IsFromFull (Gave q h) = ⊥
IsFromFull (FoundNone q) = ⊥
IsFromFull (Spent q) = ⊥

abbrev pub HasPopFromFull : List Move → Type 0
HasPopFromFull [] = ⊥
HasPopFromFull (move ∷ moves) = IsFromFull move ⊎ HasPopFromFull moves

-- the last move loaded a last tag
abbrev pub EndAtLastTag : List Move → Type 0
EndAtLastTag moves = (before : List Move) × (q : Which) × (moves ≡ before ++ Spent q ∷ [])

-- during a call the worker loaded the stack's head and found no buffer
abbrev pub WasSeenEmpty : Which → Book → Book → Type 0
WasSeenEmpty q before after = empties_of before q < empties_of after q
