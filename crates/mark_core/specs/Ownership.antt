-- Ownership: each buffer is on one of the two stacks or held by one account, and what an account last loaded of a stack
-- is current, or the tag shows that it is outdated. While the full stack has a buffer, some account has an open push.
use Rattle.std.specs.Prelude.{◌≡◌, ◌⊎◌, ℕ, ◌+◌, ◌<◌, nat_lt, true, List, [], ◌∷◌, length, Option, Some, None}
use Rattle.tagged_index.specs.Head.{Head}
use Rattle.mark_core.specs.declared.which.Which.{Which}
use Rattle.mark_core.specs.declared.which.Which.TheVariants.{Full, Empty}
use Rattle.mark_core.specs.Lists.{StandsAt, sum_of, times, one_where}
use Rattle.mark_core.specs.Account.{Account, Look, look_of}

-- the list begins with the buffer `index`, each later buffer is the link of the one before, and the last has no link;
-- the list is empty if `index` is None
abbrev pub Chain : (ℕ → Option ℕ) → Option ℕ → List ℕ → Type 0
Chain link index [] = index ≡ None
Chain link index (i ∷ is) = (index ≡ Some i) × Chain link (link i) is

-- what was loaded of a stack is outdated or recent: the tag of the stack's head `now` is larger than the loaded one, or
-- `now` is the loaded head and the link of its buffer, if it was loaded, has not changed
abbrev pub IsRecent : (ℕ → Option ℕ) → Head → Look → Type 0
IsRecent link now look =
    (h : Head) → look.head ≡ Some h
    → (h.tag < now.tag)
    ⊎ ((now ≡ h) × ((i : ℕ) (l : Option ℕ) → h.index ≡ Some i → look.link ≡ Some l → link i ≡ l))

-- how often the accounts hold the buffer b
abbrev pub held_times : ℕ → List Account → ℕ
held_times b accounts = sum_of (λ a. times b a.held) accounts

-- some account has an open push
abbrev pub HasOpenPush : List Account → Type 0
HasOpenPush accounts = (w : ℕ) × (a : Account) × StandsAt accounts w a × (a.open_push ≡ true)

-- `stack` has the list of each stack, the buffer on top first
pub record IsOwned
    (buffers : ℕ) (head : Which → Head) (link : ℕ → Option ℕ) (accounts : List Account) (stack : Which → List ℕ)
    : Type 0 where
  pub chain : (q : Which) → Chain link (head q).index (stack q)
  -- each buffer is exactly once in both stacks and all held lists together, and no other number is in them
  pub once :
      (b : ℕ) → times b (stack Full) + times b (stack Empty) + held_times b accounts ≡ one_where (nat_lt b buffers)
  pub recent : (q : Which) (w : ℕ) (a : Account) → StandsAt accounts w a → IsRecent link (head q) (look_of a q)
  -- while a buffer is on the full stack, some account has an open push
  pub owed : (stack Full ≡ []) ⊎ HasOpenPush accounts

-- the items of a buffer are in its slot exactly while it is stacked, and on the empty stack it has none
pub record AreInSlots (buffers : ℕ) (slots : List (Option (List ℕ))) (stack : Which → List ℕ) : Type 0 where
  pub places : length slots ≡ buffers
  pub stacked : (q : Which) (b : ℕ) → 0 < times b (stack q) → (items : List ℕ) × StandsAt slots b (Some items)
  pub bare : (b : ℕ) → 0 < times b (stack Empty) → StandsAt slots b (Some [])
  pub away : (b : ℕ) → b < buffers → times b (stack Full) ≡ 0 → times b (stack Empty) ≡ 0 → StandsAt slots b None
