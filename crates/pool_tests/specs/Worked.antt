-- What is required of a worker in small runs of one thread.
use Rattle.std.specs.Prelude.{◌≡◌, ℕ, List, [], ◌∷◌, ◌++◌}
use Rattle.mark_core.specs.Shares.{whole}
use Rattle.mark_core.specs.World.{Setup}
use Rattle.buffer_pool.specs.Book.{Book, new_book, claimed, finished}
use Rattle.buffer_pool.specs.Calls.{Owner, HeldBuffer}

-- the worker holds exactly the buffers of `list`, has nothing in its charge, and is not idle. A buffer of its pool
-- takes `size` objects
pub record Holds (size : ℕ) (list : List ℕ) (w : Owner) : Type 0 where
  pub held : w.book.account.held ≡ list
  pub charge : w.book.account.charge ≡ []
  pub room : w.book.setup.size ≡ size
  pub awake : w.book.account.idle ≡ 0

-- the worker has one unit and nothing in its charge, and is not idle
pub record IsOfOneUnit (w : Owner) : Type 0 where
  pub share : w.book.account.share ≡ 1
  pub charge : w.book.account.charge ≡ []
  pub awake : w.book.account.idle ≡ 0

-- the buffer i without items, which takes `room` items
abbrev pub bare : ℕ → ℕ → HeldBuffer
bare room i = record { index = i; items = []; size = room }

-- the references of two objects and their class: each pair is an object and an object to which it refers
abbrev pub references : List (ℕ × ℕ)
references = (1, 0) ∷ (1, 2) ∷ (2, 0) ∷ (2, 1) ∷ []

-- the setup of a pool for these two objects and their class, object 0: the root is object 1
abbrev pub three_objects : Setup
three_objects = record { objects = 3; buffers = 4; size = 2; first_tag = 0; roots = 1 ∷ []; pairs = references }

-- a claim of the object o, which was marked
abbrev pub claimed_again : ℕ → Book → Book
claimed_again o b = record b { account = record b.account { seen = b.account.seen ++ o ∷ [] } }

-- the worker's book before the first claim; after the root and the objects to which it refers were claimed; after the
-- root was finished; after the class was finished and the successors of object 2 were seen; after all were finished
abbrev pub begun : Book
begun = new_book three_objects whole

abbrev pub root_claimed : Book
root_claimed = claimed 2 0 (claimed 0 0 (claimed 1 0 begun))

abbrev pub root_finished : Book
root_finished = finished 1 root_claimed

abbrev pub all_seen : Book
all_seen = claimed_again 1 (claimed_again 0 (finished 0 root_finished))

abbrev pub all_finished : Book
all_finished = finished 2 all_seen
