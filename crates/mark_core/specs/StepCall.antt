-- What `step` takes and returns.
use Rattle.std.specs.Prelude.{◌≡◌, ℕ, ◌<◌, ◌≤◌, max, min, Bool, MatchBool, List, [], length, All, Contains, Option}
use Rattle.std.specs.Prelude.{Some, None, slice_index, slice_index_or, vec_items}
use Rattle.tagged_index.specs.Head.{Head, after}
use Rattle.mark_core.specs.declared.which.Which.{Which}
use Rattle.mark_core.specs.declared.which.Which.TheVariants.{Full, Empty}
use Rattle.mark_core.specs.Lists.{sum_of}
use Rattle.mark_core.specs.declared.event.Kind as given
use Rattle.mark_core.specs.declared.event.Event as given_event
use Rattle.mark_core.specs.Account.{Account, look_of}
use Rattle.mark_core.specs.World.{Setup, Marking, account_at}
use Rattle.mark_core.specs.Events.{Kind, Claim, Finish, Split, Join, Load, LoadLink, StoreLink, Pop, Push, Fail, IdleUp}
use Rattle.mark_core.specs.Events.{IdleDown, LoadIdle, Event, IsBusy, Allows, effect, IsPossible, happens}
use Rattle.mark_core.specs.Law.{Law}

-- a marking as lists, with its setup: what callers see of a `World`
pub record Listing : Type 0 where
  pub setup : Setup
  pub full : Head
  pub empty : Head
  pub links : List (Option ℕ)
  pub marks : List ℕ
  pub slots : List (Option (List ℕ))
  pub idle : ℕ
  pub accounts : List Account

abbrev pub heads_of : Listing → Which → Head
heads_of l Full = l.full
heads_of l Empty = l.empty

-- the marking that the lists show
abbrev pub marking_of : Listing → Marking
marking_of l =
    record {
      head = heads_of l;
      link = λ i. slice_index_or l.links i None;
      mark = λ o. slice_index l.marks o;
      slots = l.slots;
      idle = l.idle;
      accounts = l.accounts;
    }

-- the kind of event that a caller's value means
abbrev pub meant_kind : {A : Type 0} → given.Kind A → Kind
meant_kind (given.TheVariants.Claim o) = Claim o
meant_kind (given.TheVariants.Finish o) = Finish o
meant_kind (given.TheVariants.Split units) = Split units
meant_kind (given.TheVariants.Join v) = Join v
meant_kind (given.TheVariants.Load q) = Load q
meant_kind (given.TheVariants.LoadLink q) = LoadLink q
meant_kind (given.TheVariants.StoreLink i l) = StoreLink i l
meant_kind (given.TheVariants.Pop q) = Pop q
meant_kind (given.TheVariants.Push q i items) = Push q i (vec_items items)
meant_kind (given.TheVariants.Fail q) = Fail q
meant_kind given.TheVariants.IdleUp = IdleUp
meant_kind given.TheVariants.IdleDown = IdleDown
meant_kind given.TheVariants.LoadIdle = LoadIdle

abbrev pub event_of : {A : Type 0} → given_event.Event A → Event
event_of event = record { worker = event.worker; kind = meant_kind event.kind }

-- the lists with the head h for one of the stacks
abbrev pub with_head : Listing → Which → Head → Listing
with_head l Full h = record l { full = h }
with_head l Empty h = record l { empty = h }

-- the lists after an exchange of the head of the stack q for `index` and the next tag
abbrev pub exchanged : Listing → Which → Option ℕ → Listing
exchanged l q index = with_head l q (after (heads_of l q) index)

-- the weight of an account: its idle number, but at least 1 while the account exists. The sum of all weights is always
-- at most the number of accounts that were made, so an idle number never outgrows its type
abbrev pub weight : Account → ℕ
weight a = max a.idle (min a.share 1)

-- what holds between two events: the law, and a place for each buffer and each object
pub record IsLawful (l : Listing) : Type 0 where
  pub law : Law l.setup (marking_of l)
  pub links : length l.links ≡ l.setup.buffers
  pub slots : length l.slots ≡ l.setup.buffers
  pub marks : length l.marks ≡ l.setup.objects
  -- each account has a number, and the sum of the weights is at most the number of accounts
  pub numbered : length l.accounts ≤ 4294967295
  pub weights : sum_of weight l.accounts ≤ length l.accounts
  -- each buffer is an index that a head can hold
  pub few : l.setup.buffers ≤ 65534
  -- roots and pairs name only objects
  pub rooted : All (λ o. o < l.setup.objects) l.setup.roots
  pub paired : All (λ p. (p.0 < l.setup.objects) × (p.1 < l.setup.objects)) l.setup.pairs

-- the account w exists: it has a share
abbrev pub HasAccount : Listing → ℕ → Type 0
HasAccount l w = (w < length l.accounts) × (0 < (account_at l.accounts w).share)

-- the account w may take this step, and `new` is the lists after it
pub record Does (old : Listing) (w : ℕ) (kind : Kind) (new : Listing) : Type 0 where
  pub allowed : Allows old.setup (marking_of old) w (account_at old.accounts w) kind
  pub marking : marking_of new ≡ effect (marking_of old) w (account_at old.accounts w) kind
  pub setup : new.setup ≡ old.setup
  pub links : length new.links ≡ length old.links
  pub slots : length new.slots ≡ length old.slots
  pub marks : length new.marks ≡ length old.marks

-- the account w may take this step
abbrev pub MayDo : Listing → ℕ → Kind → Type 0
MayDo l w kind = Allows l.setup (marking_of l) w (account_at l.accounts w) kind

-- the account w takes this step if `done` is true, and may not take it otherwise
abbrev pub Tries : Listing → ℕ → Kind → Bool → Listing → Type 0
Tries old w kind done new = MatchBool done (Does old w kind new) (¬ MayDo old w kind)

-- what a push on the stack q requires, except that the items are part of the charge and that the tag is not the last
pub record IsReadyToPush (l : Listing) (w : ℕ) (q : Which) (i : ℕ) (items : List ℕ) : Type 0 where
  pub head : (look_of (account_at l.accounts w) q).head ≡ Some (heads_of l q)
  pub held : Contains (account_at l.accounts w).held i
  pub fits : length items ≤ l.setup.size
  pub bare : q ≡ Empty → items ≡ []
  pub link : slice_index_or l.links i None ≡ (heads_of l q).index
  pub busy : q ≡ Full → IsBusy (account_at l.accounts w)

-- a split needs a number for the new account, and there are 4,294,967,295 numbers
abbrev pub HasNumber : Kind → List Account → Type 0
HasNumber (Split units) accounts = length accounts < 4294967295
HasNumber kind accounts = Unit {0}

-- the event is possible, and there is a number for the account that it makes, if it makes one
abbrev pub CanStep : Listing → Event → Type 0
CanStep l event = IsPossible l.setup (marking_of l) event × HasNumber event.kind l.accounts

-- there was a step, and `new` is the lists after it
pub record Follows (old : Listing) (event : Event) (new : Listing) : Type 0 where
  pub possible : CanStep old event
  pub marking : marking_of new ≡ happens (marking_of old) event
  pub setup : new.setup ≡ old.setup
  pub links : length new.links ≡ length old.links
  pub slots : length new.slots ≡ length old.slots
  pub marks : length new.marks ≡ length old.marks

-- the step is taken if `done` is true, and cannot be taken otherwise
abbrev pub Steps : Listing → Event → Bool → Listing → Type 0
Steps old event done new = MatchBool done (Follows old event new) (¬ CanStep old event)

-- the lists after the event, with the same setup; or None, exactly if the step cannot be taken
abbrev pub Answers : Option Listing → Listing → Event → Type 0
Answers None old event = ¬ CanStep old event
Answers (Some new) old event =
    CanStep old event × (new.setup ≡ old.setup) × (marking_of new ≡ happens (marking_of old) event)
