-- The opening of a marking, and what holds of every run.
use Rattle.std.specs.Prelude.{◌≡◌, ◌≢◌, ◌⊎◌, ◌↔◌, ℕ, ◌+◌, ◌<◌, ◌≤◌, nat_lt, if◌then◌else◌, false, List, [], ◌∷◌}
use Rattle.std.specs.Prelude.{replicate, Option, Some, None, Contains}
use Rattle.tagged_index.specs.Head.{Head}
use Rattle.mark_core.specs.declared.which.Which.{Which}
use Rattle.mark_core.specs.declared.which.Which.TheVariants.{Full, Empty}
use Rattle.mark_core.specs.Lists.{StandsAt, times, one_where}
use Rattle.mark_core.specs.Account.{Account, look_of, part}
use Rattle.mark_core.specs.World.{Setup, Marking}
use Rattle.mark_core.specs.Events.{Kind, Pop, Push, Event, CanPop, IsPossible, happens}
use Rattle.mark_core.specs.Ownership.{Chain}
use Rattle.mark_core.specs.Shares.{whole, HasNothing}
use Rattle.mark_core.specs.Law.{Law}

-- at the opening the full stack has no buffer, and the empty one has 0 on top
abbrev pub first_heads : ℕ → Which → Head
first_heads tag Full = record { index = None; tag = tag }
first_heads tag Empty = record { index = Some 0; tag = tag }

-- at the opening the link of each buffer is the next number, except for the last buffer, which has none
abbrev pub first_link : ℕ → ℕ → Option ℕ
first_link buffers i = if nat_lt (i + 1) buffers then Some (i + 1) else None

-- all objects are white, all buffers are on the empty stack, and one account has the whole share and nothing else
abbrev pub opening : Setup → ℕ → Marking
opening e tag =
    record {
      head = first_heads tag;
      link = first_link e.buffers;
      mark = λ o. 0;
      slots = replicate e.buffers (Some []);
      idle = 0;
      accounts = part whole ∷ [];
    }

-- the marking is the opening with some first tag, and there is a buffer
abbrev pub IsOpening : Setup → Marking → Type 0
IsOpening e m = (tag : ℕ) × (0 < e.buffers) × (m ≡ opening e tag)

-- the events are possible in their order from the marking `first` on, and lead to the marking `last`
abbrev pub Run : Setup → Marking → List Event → Marking → Type 0
Run e first [] last = last ≡ first
Run e first (event ∷ events) last = IsPossible e first event × Run e (happens first event) events last

-- a run from an opening marking leads to the marking `last`
abbrev pub IsRun : Setup → Marking → Type 0
IsRun e last = (first : Marking) × (events : List Event) × IsOpening e first × Run e first events last

-- the law holds after every list of possible events from an opening on
abbrev pub RunsKeepLaw : Type 0
RunsKeepLaw = (e : Setup) (m : Marking) → IsRun e m → Law e m

-- each possible event keeps the law. The facts below hold of every marking under the law, and so of every run
abbrev pub EventsKeepLaw : Type 0
EventsKeepLaw = (e : Setup) (m : Marking) (event : Event) → Law e m → IsPossible e m event → Law e (happens m event)

-- the list is the buffers of a stack, the first on top
abbrev pub IsListOf : Marking → Which → List ℕ → Type 0
IsListOf m q list = Chain m.link (m.head q).index list

-- the list of a stack before and after an event: a pop from the stack removes the first buffer, a push on it adds a new
-- first one, and nothing else changes the list
abbrev pub Changes : Which → Kind → List ℕ → List ℕ → Type 0
Changes q (Pop p) old new = (p ≡ q → (i : ℕ) × (old ≡ i ∷ new)) × (p ≢ q → new ≡ old)
Changes q (Push p i items) old new = (p ≡ q → new ≡ i ∷ old) × (p ≢ q → new ≡ old)
Changes q kind old new = new ≡ old

-- each possible event changes the list of each stack as `Changes` says
abbrev pub StacksChange : Type 0
StacksChange =
    (e : Setup) (m : Marking) (event : Event) → Law e m → IsPossible e m event
    → (q : Which) (old new : List ℕ)
    → IsListOf m q old → IsListOf (happens m event) q new → Changes q event.kind old new

-- at each event, each head stays as it is or its tag rises by one
abbrev pub TagsRise : Type 0
TagsRise =
    (m : Marking) (event : Event) (q : Which)
    → ((happens m event).head q ≡ m.head q) ⊎ (((happens m event).head q).tag ≡ (m.head q).tag + 1)

-- a possible pop finds the very link that its account loaded
abbrev pub PopsFindLinks : Type 0
PopsFindLinks =
    (e : Setup) (m : Marking) → Law e m
    → (w : ℕ) (a : Account) (q : Which) → StandsAt m.accounts w a → CanPop (m.head q) (look_of a q)
    → (i : ℕ) (l : Option ℕ) → (m.head q).index ≡ Some i → (look_of a q).link ≡ Some l → m.link i ≡ l

-- no event lowers a mark
abbrev pub MarksRise : Type 0
MarksRise =
    (e : Setup) (m : Marking) (event : Event) → Law e m → IsPossible e m event
    → (o : ℕ) → m.mark o ≤ (happens m event).mark o

-- the account a holds no buffer twice, and no object is twice in its charge and its finished list together
pub record HasEachOnce (a : Account) : Type 0 where
  pub held : (i : ℕ) → times i a.held ≤ 1
  pub objects : (o : ℕ) → times o a.charge + times o a.finished ≤ 1

-- no account has a buffer or an object twice
abbrev pub AccountsHaveEachOnce : Type 0
AccountsHaveEachOnce =
    (e : Setup) (m : Marking) → Law e m → (w : ℕ) (a : Account) → StandsAt m.accounts w a → HasEachOnce a

-- no buffer is held by both accounts, and no object is in a charge or finished list of both
pub record AreApart (a b : Account) : Type 0 where
  pub held : (i : ℕ) → times i a.held + times i b.held ≤ 1
  pub objects : (o : ℕ) → (times o a.charge + times o a.finished) + (times o b.charge + times o b.finished) ≤ 1

-- two different accounts, such as those that meet in a join, have nothing in common
abbrev pub AccountsAreApart : Type 0
AccountsAreApart =
    (e : Setup) (m : Marking) → Law e m
    → (w v : ℕ) (a b : Account) → v ≢ w → StandsAt m.accounts w a → StandsAt m.accounts v b → AreApart a b

-- the object is an item of a buffer of the list
abbrev pub LiesIn : Marking → List ℕ → ℕ → Type 0
LiesIn m list o = (b : ℕ) × (items : List ℕ) × Contains list b × StandsAt m.slots b (Some items) × Contains items o

-- what holds of the account w, which is a, at the close
pub record IsClosed (e : Setup) (m : Marking) (w : ℕ) (a : Account) : Type 0 where
  -- the finished objects are those in the finished list of a, which has each once
  pub finished : (o : ℕ) → (m.mark o ≡ 2) ↔ Contains a.finished o
  pub once : (o : ℕ) → times o a.finished ≤ 1
  -- the claimed objects are the items of the buffers on the full stack
  pub claimed : (full : List ℕ) → IsListOf m Full full → (o : ℕ) → (m.mark o ≡ 1) ↔ LiesIn m full o
  -- the full stack has no buffer if a has no open push
  pub emptied : a.open_push ≡ false → (full : List ℕ) → IsListOf m Full full → full ≡ []
  -- each buffer is on one of the stacks, or a holds it
  pub buffers :
      (full empty : List ℕ) → IsListOf m Full full → IsListOf m Empty empty
      → (b : ℕ) → times b full + times b empty + times b a.held ≡ one_where (nat_lt b e.buffers)
  pub others : (v : ℕ) (b : Account) → v ≢ w → StandsAt m.accounts v b → HasNothing b

-- if one account has the whole share and an empty charge, the marks are determined: by its finished list and by the
-- full stack
abbrev pub ClosedIsDetermined : Type 0
ClosedIsDetermined =
    (e : Setup) (m : Marking) → Law e m
    → (w : ℕ) (a : Account) → StandsAt m.accounts w a → a.share ≡ whole → a.charge ≡ [] → IsClosed e m w a
