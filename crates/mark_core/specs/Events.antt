-- The events: when each is possible, and its effect. Each is one step on a shared word, except split and join, which
-- touch none.
use Rattle.std.specs.Prelude.{◌≡◌, ◌≢◌, ◌⊎◌, ℕ, ◌+◌, ◌-◌, ◌%◌, ◌^◌, ◌<◌, ◌≤◌, max, true, List, [], ◌∷◌, ◌++◌, length}
use Rattle.std.specs.Prelude.{Option, Some, None, Contains, slice_set, slice_index_or}
use Rattle.tagged_index.specs.Head.{Head, after, last_tag}
use Rattle.mark_core.specs.declared.which.Which.{Which}
use Rattle.mark_core.specs.declared.which.Which.TheVariants.{Full, Empty}
use Rattle.mark_core.specs.Lists.{IsPart}
use Rattle.mark_core.specs.Account.{Account, Look, look_of, part, no_share, after_claim, after_finish, after_split}
use Rattle.mark_core.specs.Account.{after_join, after_load, after_load_link, after_pop, after_push, after_idle_up}
use Rattle.mark_core.specs.Account.{after_idle_down, after_load_idle}
use Rattle.mark_core.specs.World.{Setup, Marking, items_of, account_at, IsThere, put, put_which}

pub data Kind : Type 0 where
  -- claim an object: a white one becomes claimed
  Claim : ℕ → Kind
  -- finish an object
  Finish : ℕ → Kind
  -- give some units to a new account
  Split : ℕ → Kind
  -- join the account of this number to the worker's account
  Join : ℕ → Kind
  -- load the head of a stack
  Load : Which → Kind
  -- load the link of the buffer that the last loaded head of a stack names
  LoadLink : Which → Kind
  -- store the link of a buffer
  StoreLink : ℕ → Option ℕ → Kind
  -- exchange the head of a stack for the link of its first buffer
  Pop : Which → Kind
  -- exchange the head of a stack for a buffer with items
  Push : Which → ℕ → List ℕ → Kind
  -- fail to exchange the head of a stack: the head is no longer the one that was loaded
  Fail : Which → Kind
  -- go idle: add one to the idle word
  IdleUp : Kind
  -- come back: subtract one from the idle word
  IdleDown : Kind
  -- load the idle word
  LoadIdle : Kind

-- one step: the number of the worker's account, and what this account does
pub record Event : Type 0 where
  pub worker : ℕ
  pub kind : Kind

-- an account is idle if it has one unit and an idle number other than 0, and busy otherwise
abbrev pub IsBusy : Account → Type 0
IsBusy a = (a.share ≢ 1) ⊎ (a.idle ≡ 0)

-- an account may claim a root, and a successor of an object in its charge
abbrev pub CanClaim : Setup → ℕ → Account → Type 0
CanClaim e o a = Contains e.roots o ⊎ ((p : ℕ) × Contains a.charge p × Contains e.pairs (p, o))

-- an account may finish an object in its charge once it saw each successor marked
abbrev pub CanFinish : Setup → ℕ → Account → Type 0
CanFinish e o a = Contains a.charge o × ((s : ℕ) → Contains e.pairs (o, s) → Contains a.seen s)

-- an account may give away some of its units, but not all
abbrev pub CanSplit : ℕ → Account → Type 0
CanSplit units a = (0 < units) × (units < a.share)

-- the last loaded head is the stack's current one, `now`, and its tag is not the last tag
abbrev pub CanExchange : Head → Look → Type 0
CanExchange now look = (look.head ≡ Some now) × (now.tag < last_tag)

-- the head `now` may be exchanged, it names a buffer, and the link of that buffer was loaded
abbrev pub CanPop : Head → Look → Type 0
CanPop now look = CanExchange now look × ((i : ℕ) × (now.index ≡ Some i)) × ((l : Option ℕ) × (look.link ≡ Some l))

-- an account may push a buffer that it holds, with items of its charge: at most as many as a buffer takes, and none on
-- the empty stack
abbrev pub CanGive : Setup → Which → ℕ → List ℕ → Account → Type 0
CanGive e q i items a = Contains a.held i × IsPart items a.charge × (length items ≤ e.size) × (q ≡ Empty → items ≡ [])

-- an account may go idle if it has one unit, idle number 0 and no object in its charge, and has found the full stack
-- empty and not pushed there since
abbrev pub CanIdle : Account → Type 0
CanIdle a = (a.share ≡ 1) × (a.idle ≡ 0) × (a.charge ≡ []) × (a.found ≡ true)

-- an account may come back if it has one unit and idle number 1
abbrev pub CanWake : Account → Type 0
CanWake a = (a.share ≡ 1) × (a.idle ≡ 1)

-- the account `a`, which has the number `w`, may take this step. An idle account claims nothing, pops nothing, and
-- pushes nothing on the full stack
abbrev pub Allows : Setup → Marking → ℕ → Account → Kind → Type 0
Allows e m w a (Claim o) = CanClaim e o a × IsBusy a
Allows e m w a (Finish o) = CanFinish e o a
Allows e m w a (Split units) = CanSplit units a
Allows e m w a (Join v) = (v ≢ w) × ((b : Account) × IsThere m.accounts v b)
Allows e m w a (Load q) = Unit {0}
Allows e m w a (LoadLink q) = (h : Head) × (i : ℕ) × ((look_of a q).head ≡ Some h) × (h.index ≡ Some i)
Allows e m w a (StoreLink i l) = Contains a.held i
Allows e m w a (Pop q) = CanPop (m.head q) (look_of a q) × IsBusy a
Allows e m w a (Push q i items) =
    CanExchange (m.head q) (look_of a q) × CanGive e q i items a × (m.link i ≡ (m.head q).index) × (q ≡ Full → IsBusy a)
Allows e m w a (Fail q) = (h : Head) × ((look_of a q).head ≡ Some h) × (m.head q ≢ h)
Allows e m w a IdleUp = CanIdle a
Allows e m w a IdleDown = CanWake a
Allows e m w a LoadIdle = Unit {0}

-- a word plus one, and a word minus one: both wrap
abbrev pub word_up : ℕ → ℕ
word_up n = (n + 1) % 2 ^ 64

abbrev pub word_down : ℕ → ℕ
word_down n = (n + (2 ^ 64 - 1)) % 2 ^ 64

-- the link of the buffer with this index; None if there is no index
abbrev pub link_from : (ℕ → Option ℕ) → Option ℕ → Option ℕ
link_from link None = None
link_from link (Some i) = link i

-- the link of the buffer that the last loaded head names; None if there is no such head or buffer
abbrev pub last_link : (ℕ → Option ℕ) → Option Head → Option ℕ
last_link link None = None
last_link link (Some h) = link_from link h.index

-- the marking after the account `a`, which has the number `w`, popped the buffer `i`, the first of the stack `q`. The
-- account loaded the link of `i` as `l`. Without a buffer or a link nothing changes
abbrev pub stack_popped : Marking → ℕ → Account → Which → Option ℕ → Option (Option ℕ) → Marking
stack_popped m w a q (Some i) (Some l) =
    record m {
      head = put_which q (after (m.head q) l) m.head;
      slots = slice_set m.slots i None;
      accounts = slice_set m.accounts w (after_pop i (items_of (slice_index_or m.slots i None)) a);
    }
stack_popped m w a q None l = m
stack_popped m w a q (Some i) None = m

-- the marking after a step of the account `a`, which has the number `w`
abbrev pub effect : Marking → ℕ → Account → Kind → Marking
effect m w a (Claim o) =
    record m { mark = put o (max (m.mark o) 1) m.mark; accounts = slice_set m.accounts w (after_claim o (m.mark o) a) }
effect m w a (Finish o) = record m { mark = put o 2 m.mark; accounts = slice_set m.accounts w (after_finish o a) }
effect m w a (Split units) = record m { accounts = slice_set m.accounts w (after_split units a) ++ part units ∷ [] }
effect m w a (Join v) =
    record m { accounts = slice_set (slice_set m.accounts w (after_join a (account_at m.accounts v))) v no_share }
effect m w a (Load q) = record m { accounts = slice_set m.accounts w (after_load q (m.head q) a) }
effect m w a (LoadLink q) =
    record m { accounts = slice_set m.accounts w (after_load_link q (last_link m.link (look_of a q).head) a) }
effect m w a (StoreLink i l) = record m { link = put i l m.link }
effect m w a (Pop q) = stack_popped m w a q (m.head q).index (look_of a q).link
effect m w a (Push q i items) =
    record m {
      head = put_which q (after (m.head q) (Some i)) m.head;
      slots = slice_set m.slots i (Some items);
      accounts = slice_set m.accounts w (after_push q i items a);
    }
effect m w a (Fail q) = m
effect m w a IdleUp = record m { idle = word_up m.idle; accounts = slice_set m.accounts w (after_idle_up a) }
effect m w a IdleDown = record m { idle = word_down m.idle; accounts = slice_set m.accounts w (after_idle_down a) }
effect m w a LoadIdle = record m { accounts = slice_set m.accounts w (after_load_idle m.idle a) }

-- an event is possible if its account exists and may take this step
abbrev pub IsPossible : Setup → Marking → Event → Type 0
IsPossible e m event = (a : Account) × IsThere m.accounts event.worker a × Allows e m event.worker a event.kind

-- the marking after an event
abbrev pub happens : Marking → Event → Marking
happens m event = effect m event.worker (account_at m.accounts event.worker) event.kind
