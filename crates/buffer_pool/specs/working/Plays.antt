-- The plays: what each step on the table says to the worker that makes it. Each play relates the step, the seat before
-- it, the number found in the word, and the seat after it.
use Rattle.std.specs.Prelude.{Contains, ◌≡◌, ◌≢◌, ℕ, suc, ◌%◌, ◌<◌, ◌≤◌, true, false, List, [], ◌∷◌, ◌++◌, length}
use Rattle.std.specs.Prelude.{Option, Some, None}
use Rattle.atomic_table.specs.Table.{Me, Step}
use Rattle.tagged_index.specs.Head.{head_of, index_of, after, last_tag}
use Rattle.mark_core.specs.declared.which.Which.{Which}
use Rattle.mark_core.specs.declared.which.Which.TheVariants.{Full, Empty}
use Rattle.mark_core.specs.Lists.{times, IsPart}
use Rattle.mark_core.specs.Account.{look_of}
use Rattle.mark_core.specs.World.{Setup}
use Rattle.mark_core.specs.Events.{Kind, Event, Claim, Finish, Load, LoadLink, StoreLink, Pop, Push, Fail, IdleUp}
use Rattle.mark_core.specs.Events.{IdleDown, LoadIdle, IsBusy}
use Rattle.mark_core.specs.Runs.{HasEachOnce}
use Rattle.buffer_pool.specs.declared.seat_view.SeatView.{SeatView}
use Rattle.buffer_pool.specs.Book.{Book, loaded, link_loaded, failed, popped, pushed, claimed, finished, idled, woken}
use Rattle.buffer_pool.specs.Book.{idle_loaded}
use Rattle.buffer_pool.specs.Calls.{Shows}
use Rattle.buffer_pool.specs.WorkerLog.{Log, Did, EndsStory, LeadsToBook, deeds}
use Rattle.buffer_pool.specs.Ranges.{IsWithin}
use Rattle.buffer_pool.specs.working.Views.{HasSaidAll, logged}
use Rattle.buffer_pool.specs.working.MarkBits.{mark_bits, mark_at}
use Rattle.buffer_pool.specs.working.Layout.{head_word, link_word, mark_word}
use Rattle.buffer_pool.specs.working.Slots.{Reading, free}

-- the seat m once it has the log `log` and the book b, and no slot is out
abbrev pub rested : {B : Type 0} → Me (Option B) SeatView → Log → Book → Me (Option B) SeatView
rested m log b = (record (logged log (free m.0)) { book = b }, [])

-- a buffer of the setup: it takes as many items as the setup says, and its items are objects
pub record IsOurs {B : Type 0} (r : Reading B) (e : Setup) (b : B) : Type 0 where
  pub size : r.size b ≡ e.size
  pub objects : (o : ℕ) → Contains (r.items b) o → o < e.objects

-- the seat may exchange the head `old` for `new`, which names the buffer of number i. The slot of this buffer is out,
-- and has b
pub record CanPut
    {B : Type 0} (r : Reading B) (q : Which) (m : Me (Option B) SeatView) (old new i : ℕ) (b : B) : Type 0 where
  pub carried : m.1 ≡ (i, Some b) ∷ []
  pub out : m.0.out ≡ suc i
  pub share : 0 < m.0.book.account.share
  pub all_said : HasSaidAll m.0
  pub held : 0 < times i m.0.book.account.held
  pub last : (look_of m.0.book.account q).head ≡ Some (head_of old)
  pub short : (head_of old).tag < last_tag
  pub next : head_of new ≡ after (head_of old) (Some i)
  pub leads : index_of m.0.out_link ≡ (head_of old).index
  pub part : IsPart (r.items b) m.0.book.account.charge
  pub bare : q ≡ Empty → r.items b ≡ []
  pub size : r.size b ≡ m.0.book.setup.size
  pub fits : length (r.items b) ≤ m.0.book.setup.size
  pub busy : q ≡ Full → IsBusy m.0.book.account

-- the seat took exactly the steps `kinds`, and its log has them afterwards
abbrev pub SeatDid : {B : Type 0} → Me (Option B) SeatView → List Kind → Me (Option B) SeatView → Type 0
SeatDid m kinds after = Did m.0.log kinds after.0.log

-- the seat's story leads to its book
abbrev pub StoryLeads : {B : Type 0} → Me (Option B) SeatView → Type 0
StoryLeads after = LeadsToBook after.0.log after.0.book

-- after the step the seat has `book` and no slot out: `kinds` are exactly its new steps in the log, whose story leads
-- to the book
pub record RestsWith
    {B : Type 0} (m : Me (Option B) SeatView) (book : Book) (kinds : List Kind) (after : Me (Option B) SeatView)
    : Type 0 where
  pub same : after ≡ rested m after.0.log book
  pub did : SeatDid m kinds after
  pub story : StoryLeads after

module _ {B : Type 0} where
  -- a load of a head: a slot that was out goes home
  abbrev pub head_seen : Step (Option B) → Me (Option B) SeatView → ℕ → Me (Option B) SeatView → Type 0
  head_seen st m n after =
      (q : Which) → st.word ≡ head_word q
      → RestsWith m (loaded q (head_of n) m.0.book) (Load q ∷ []) after
      × ((i : ℕ) → (head_of n).index ≡ Some i → i < m.0.book.setup.buffers)

  -- a load of the link of the last head's buffer
  abbrev pub link_seen : Which → Step (Option B) → Me (Option B) SeatView → ℕ → Me (Option B) SeatView → Type 0
  link_seen q st m n after =
      RestsWith m (link_loaded q (index_of n) m.0.book) (LoadLink q ∷ []) after × (n ≤ m.0.book.setup.buffers)

  -- a store of the link of a held buffer: its slot comes out
  abbrev pub link_stored : Step (Option B) → Me (Option B) SeatView → ℕ → Me (Option B) SeatView → Type 0
  link_stored st m n after =
      (i : ℕ) → st.word ≡ link_word i
      → (after ≡ (record (logged after.0.log m.0) { out = suc i; out_link = n }, (i, None) ∷ []))
      × SeatDid m (StoreLink i (index_of n) ∷ []) after × StoryLeads after

  -- an exchange of a head for the link of its buffer i has succeeded: the buffer's slot comes out, with `value` in it
  pub record HasTaken
      (r : Reading B) (q : Which) (i : ℕ) (value : Option B) (m after : Me (Option B) SeatView) (b : B) : Type 0 where
    pub slots : after.1 ≡ (i, value) ∷ []
    pub out : after.0.out ≡ suc i
    pub book : after.0.book ≡ popped i (r.items b) m.0.book
    pub ours : IsOurs r m.0.book.setup b
    pub bare : q ≡ Empty → r.items b ≡ []
    pub all_said : HasSaidAll after.0
    pub did : SeatDid m (Pop q ∷ []) after
    pub story : StoryLeads after

  -- an exchange of a head has failed, and the seat has no slot out
  abbrev pub HasMissed : Which → Me (Option B) SeatView → Me (Option B) SeatView → Type 0
  HasMissed q m after = RestsWith m (failed m.0.book) (Fail q ∷ []) after

  -- an exchange of a head for its buffer's link: it pops, or it has failed
  abbrev pub top_taken : Reading B → Step (Option B) → Me (Option B) SeatView → ℕ → Me (Option B) SeatView → Type 0
  top_taken r st m n after =
      (q : Which) → st.word ≡ head_word q
      → (n ≡ st.first → (i : ℕ) → (head_of n).index ≡ Some i → (b : B) × HasTaken r q i (Some b) m after b)
      × ((n ≡ st.first → ⊥) → HasMissed q m after)

  -- an exchange of a head for the buffer i has succeeded: its slot goes home with it
  abbrev pub HasPushed : Which → ℕ → List ℕ → Me (Option B) SeatView → Me (Option B) SeatView → Type 0
  HasPushed q i items m after = RestsWith m (pushed q i items m.0.book) (Push q i items ∷ []) after

  -- an exchange of a head for a buffer has failed, and `slots`, which are out, stay out
  abbrev pub HasKept : Which → List (ℕ × Option B) → Me (Option B) SeatView → Me (Option B) SeatView → Type 0
  HasKept q slots m after =
      (after ≡ (record (logged after.0.log m.0) { book = failed m.0.book }, slots)) × SeatDid m (Fail q ∷ []) after
      × StoryLeads after

  -- an exchange of a head for a held buffer: the slot goes home with it, or the exchange has failed
  abbrev pub top_put :
      Reading B → Which → Step (Option B) → Me (Option B) SeatView → ℕ → Me (Option B) SeatView → Type 0
  top_put r q st m n after =
      (n ≡ st.first → (i : ℕ) (b : B) → m.1 ≡ (i, Some b) ∷ [] → HasPushed q i (r.items b) m after)
      × ((n ≡ st.first → ⊥) → HasKept q m.1 m after)

  -- a claim: the low bit of the object's mark is set
  abbrev pub claim_made : Step (Option B) → Me (Option B) SeatView → ℕ → Me (Option B) SeatView → Type 0
  claim_made st m n after =
      (o : ℕ) → st.word ≡ mark_word m.0.book.setup o → st.first ≡ mark_bits 1 o
      → RestsWith m (claimed o (mark_at n (o % 32)) m.0.book) (Claim o ∷ []) after × (mark_at n (o % 32) ≤ 2)

  -- a finish: both bits of the object's mark are set
  abbrev pub finish_made : Step (Option B) → Me (Option B) SeatView → ℕ → Me (Option B) SeatView → Type 0
  finish_made st m n after =
      (o : ℕ) → st.word ≡ mark_word m.0.book.setup o → st.first ≡ mark_bits 3 o
      → RestsWith m (finished o m.0.book) (Finish o ∷ []) after
      × ((p : ℕ) → times p after.0.book.account.finished ≤ 1)

  -- the worker went idle; below, it came back
  abbrev pub went_idle : Step (Option B) → Me (Option B) SeatView → ℕ → Me (Option B) SeatView → Type 0
  went_idle st m n after = RestsWith m (idled m.0.book) (IdleUp ∷ []) after

  abbrev pub came_back : Step (Option B) → Me (Option B) SeatView → ℕ → Me (Option B) SeatView → Type 0
  came_back st m n after = RestsWith m (woken m.0.book) (IdleDown ∷ []) after

  -- the idle word was loaded: the worker's story leads to a marking that has it
  abbrev pub idle_seen : Step (Option B) → Me (Option B) SeatView → ℕ → Me (Option B) SeatView → Type 0
  idle_seen st m n after =
      RestsWith m (idle_loaded n m.0.book) (LoadIdle ∷ []) after × Shows m.0.book.setup after.0.log.story n

  -- the units of a split were noted
  abbrev pub set_aside : Step (Option B) → Me (Option B) SeatView → ℕ → Me (Option B) SeatView → Type 0
  set_aside st m n after = (after ≡ (record (logged after.0.log (free m.0)) { aside = st.first }, []))
      × SeatDid m [] after

  -- A slot that was out went home. The account holds each buffer at most once, and has each object at most once in its
  -- charge and finished list. The held buffers and charged objects are the pool's. The log is up to date: it has the
  -- noted steps, and continues the story that was taken in, which is another worker's. If the view had its worker's
  -- number before, that other worker did nothing after its story. A worker that learns its number only now has done
  -- nothing
  pub record IsUpToDate (m after : Me (Option B) SeatView) : Type 0 where
    pub same : after ≡ (logged after.0.log (free m.0), [])
    pub each : HasEachOnce m.0.book.account
    pub within : IsWithin m.0.book.setup m.0.book.account
    pub did : m.0.named ≡ true → SeatDid m m.0.unsaid after
    pub story : StoryLeads after
    pub knows : (more : List Event) × (after.0.log.story ≡ m.0.taken ++ more)
    pub apart : (n : ℕ) → m.0.from ≡ Some n → n ≢ after.0.log.number
    pub ended :
        m.0.named ≡ true → (n : ℕ) → m.0.from ≡ Some n
        → EndsStory (record { number = n; story = m.0.taken }) after.0.log.story
    pub fresh : m.0.named ≡ false → deeds after.0.log.number after.0.log.story ≡ []

  abbrev pub caught_up : Step (Option B) → Me (Option B) SeatView → ℕ → Me (Option B) SeatView → Type 0
  caught_up st m n after = IsUpToDate m after
