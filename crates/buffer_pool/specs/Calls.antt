-- What a pop, a push and a load of a head do to the book of the worker that makes the call, and what a load of the idle
-- word shows. For the other calls see Book.antt.
use Rattle.std.specs.Prelude.{◌≡◌, ◌↔◌, ℕ, ◌<◌, List, [], ◌∷◌, Option, Some, None, Result, Ok, Err, Contains, IsTrue}
use Rattle.std.specs.Prelude.{Bool}
use Rattle.atomic_table.specs.Seated.{TableId}
use Rattle.tagged_index.specs.Head.{Head, last_tag}
use Rattle.mark_core.specs.declared.which.Which.{Which}
use Rattle.mark_core.specs.declared.which.Which.TheVariants.{Full, Empty}
use Rattle.mark_core.specs.Account.{look_of}
use Rattle.mark_core.specs.Lists.{IsPart}
use Rattle.mark_core.specs.World.{Setup, Marking}
use Rattle.mark_core.specs.Events.{Event, IsBusy}
use Rattle.mark_core.specs.Counts.{Counts, LeadTo}
use Rattle.buffer_pool.specs.Book.{Book, loaded, link_loaded, failed, popped, pushed}
use Rattle.buffer_pool.specs.WorkerLog.{Log}
use Rattle.buffer_pool.specs.declared.spent_tag.SpentTag.{SpentTag}
use Rattle.buffer_pool.specs.declared.answers.TryPopped.{TryPopped}
use Rattle.buffer_pool.specs.declared.answers.TryPopped.TheVariants as try_pop
use Rattle.buffer_pool.specs.declared.answers.TryPushed.{TryPushed}
use Rattle.buffer_pool.specs.declared.answers.TryPushed.TheVariants as try_push
use Rattle.buffer_pool.specs.declared.answers.Popped.{Popped}
use Rattle.buffer_pool.specs.declared.answers.Popped.TheVariants as pop

-- a pool: its table, and the tag that the heads of its stacks had at first
pub record PoolId : Type 0 where
  pub table : TableId
  pub first_tag : ℕ

-- a worker: its pool, its book, and its log
pub record Owner : Type 0 where
  pub pool : PoolId
  pub book : Book
  pub log : Log

-- a held buffer: its number, its items with the last put at the end, and the most that it takes
pub record HeldBuffer : Type 0 where
  pub index : ℕ
  pub items : List ℕ
  pub size : ℕ

-- the steps lead from the book `old` to the book `new`, the first step first
abbrev pub After : Book → List (Book → Book) → Book → Type 0
After old [] new = new ≡ old
After old (step ∷ steps) new = After (step old) steps new

-- one try of a pop. Its loads found some head and some link. This definition allows any values, and the account keeps
-- them as its look. That the stack had them at the loads follows from the worker's story (`LeadsToBook` in
-- WorkerLog.antt).
-- - Took: the head names the buffer, whose link was loaded, and the exchange succeeded. A buffer of the empty stack has
--   no items.
-- - Empty: the head names no buffer.
-- - Lost: the exchange failed.
-- - Spent: the head names a buffer, and has the last tag.
abbrev pub TriesPop : Which → Book → Book → TryPopped HeldBuffer → Type 0
TriesPop q old new (try_pop.Took h) =
    (head : Head) × (link : Option ℕ) × (head.index ≡ Some h.index) × (head.tag < last_tag) × (h.size ≡ old.setup.size)
    × After old (loaded q head ∷ link_loaded q link ∷ popped h.index h.items ∷ []) new × (q ≡ Empty → h.items ≡ [])
TriesPop q old new try_pop.Empty = (head : Head) × (head.index ≡ None) × After old (loaded q head ∷ []) new
TriesPop q old new try_pop.Lost =
    (head : Head) × (i : ℕ) × (link : Option ℕ) × (head.index ≡ Some i) × (head.tag < last_tag)
    × After old (loaded q head ∷ link_loaded q link ∷ failed ∷ []) new
TriesPop q old new try_pop.Spent =
    (head : Head) × (i : ℕ) × (head.index ≡ Some i) × (head.tag ≡ last_tag) × After old (loaded q head ∷ []) new

-- the worker holds the buffer, which takes as many items as the pool's buffers do, and the buffer's items are part of
-- the worker's charge. A buffer for the empty stack has no items. For the full stack the worker is busy
pub record MayPush (q : Which) (h : HeldBuffer) (b : Book) : Type 0 where
  pub held : Contains b.account.held h.index
  pub size : h.size ≡ b.setup.size
  pub charged : IsPart h.items b.account.charge
  pub bare : q ≡ Empty → h.items ≡ []
  pub busy : q ≡ Full → IsBusy b.account

-- one try of a push. Its load found some head, which may be any, as in `TriesPop`. The link that the try stores at the
-- buffer is in no book. Done: the exchange succeeded. Lost: the exchange failed. Spent: the head has the last tag. A
-- buffer that was not pushed is returned.
abbrev pub TriesPush : Which → HeldBuffer → Book → Book → TryPushed HeldBuffer → Type 0
TriesPush q h old new try_push.Done =
    (head : Head) × (head.tag < last_tag) × After old (loaded q head ∷ pushed q h.index h.items ∷ []) new
TriesPush q h old new (try_push.Lost back) =
    (head : Head) × (back ≡ h) × (head.tag < last_tag) × After old (loaded q head ∷ failed ∷ []) new
TriesPush q h old new (try_push.Spent back) =
    (head : Head) × (back ≡ h) × (head.tag ≡ last_tag) × After old (loaded q head ∷ []) new

-- one of the two heads that the worker loaded last has the last tag
abbrev pub HasLoadedLastTag : Book → Type 0
HasLoadedLastTag b = (q : Which) × (head : Head) × ((look_of b.account q).head ≡ Some head) × (head.tag ≡ last_tag)

-- the tag that the heads of a token's pool had at first
abbrev pub first_tag_of : SpentTag → ℕ
first_tag_of token = token.first_tag

-- any number of tries of a pop, all lost, that lead from one book to another
pub data LostPops (q : Which) : Book → Book → Type 0 where
  none : (b : Book) → LostPops q b b
  more : (old mid new : Book) → LostPops q old mid → TriesPop q mid new try_pop.Lost → LostPops q old new

-- the last try of a pop
abbrev pub last_try : {H : Type 0} → Popped H → TryPopped H
last_try (pop.Took h) = try_pop.Took h
last_try pop.Empty = try_pop.Empty
last_try pop.Spent = try_pop.Spent

-- a pop: tries that were all lost, and one more, which ended as `result`
abbrev pub Pops : Which → Book → Book → Popped HeldBuffer → Type 0
Pops q old new result = (mid : Book) × LostPops q old mid × TriesPop q mid new (last_try result)

-- any number of tries of a push of the buffer h, all lost, that lead from one book to another
pub data LostPushes (q : Which) (h : HeldBuffer) : Book → Book → Type 0 where
  none : (b : Book) → LostPushes q h b b
  more : (old mid new : Book) → LostPushes q h old mid → TriesPush q h mid new (try_push.Lost h)
      → LostPushes q h old new

-- the end of the last try of a push: it was done, or the buffer was returned
abbrev pub ended : {U : Type 0} → Result U HeldBuffer → TryPushed HeldBuffer
ended (Ok done) = try_push.Done
ended (Err back) = try_push.Spent back

-- a push: tries that were all lost, and one more, which ended as `last`
abbrev pub Pushes : Which → HeldBuffer → Book → Book → TryPushed HeldBuffer → Type 0
Pushes q h old new last = (mid : Book) × LostPushes q h old mid × TriesPush q h mid new last

-- one load of the head; `answer` is true exactly if the head has no buffer
pub record Sees (q : Which) (old new : Book) (answer : Bool) : Type 0 where
  pub head : Head
  pub book : new ≡ loaded q head old
  pub none : IsTrue answer ↔ (head.index ≡ None)

-- the events lead from the opening to a marking with the idle word `word`. `QuietIsDone` says what follows if that
-- marking is quiet
abbrev pub Shows : Setup → List Event → ℕ → Type 0
Shows e events word = (m : Marking) × (counts : List Counts) × LeadTo e events m counts × (m.idle ≡ word)
