-- The world of a marking: two stacks of buffers, a mark for each object, the idle word, and an account for each worker.
use Rattle.std.specs.Prelude.{ℕ, ◌==◌, ◌<◌, if◌then◌else◌, List, [], Option, unwrap_or, slice_index_or}
use Rattle.tagged_index.specs.Head.{Head}
use Rattle.mark_core.specs.declared.which.Which.{Which}
use Rattle.mark_core.specs.declared.which.Which.TheVariants.{Full, Empty}
use Rattle.mark_core.specs.Lists.{StandsAt}
use Rattle.mark_core.specs.Account.{Account, no_share}

-- what no event changes: the number of objects, the number of buffers, the most items of a buffer, the first tag of
-- both heads, the roots, and the pairs of an object and a successor
pub record Setup : Type 0 where
  pub objects : ℕ
  pub buffers : ℕ
  pub size : ℕ
  pub first_tag : ℕ
  pub roots : List ℕ
  pub pairs : List (ℕ × ℕ)

-- what events change
pub record Marking : Type 0 where
  -- the head of each stack
  pub head : Which → Head
  -- for each buffer the next one, if any
  pub link : ℕ → Option ℕ
  -- for each object 0 for white, 1 for claimed, 2 for finished
  pub mark : ℕ → ℕ
  -- for each buffer its items, and None while an account holds it
  pub slots : List (Option (List ℕ))
  -- the idle word: the sum of the idle numbers, modulo 2^64
  pub idle : ℕ
  pub accounts : List Account

-- the items in a slot
abbrev pub items_of : Option (List ℕ) → List ℕ
items_of slot = unwrap_or slot []

-- the account w; an account without a share if w is no account's number
abbrev pub account_at : List Account → ℕ → Account
account_at accounts w = slice_index_or accounts w no_share

-- the account w is a, and has a share
abbrev pub IsThere : List Account → ℕ → Account → Type 0
IsThere accounts w a = StandsAt accounts w a × (0 < a.share)

-- the function f, but x at i
abbrev pub put : {X : Type 0} → ℕ → X → (ℕ → X) → ℕ → X
put i x f j = if j == i then x else f j

-- the function f of the two stacks, but x at one of them
abbrev pub put_which : {X : Type 0} → Which → X → (Which → X) → Which → X
put_which Full x f Full = x
put_which Full x f Empty = f Empty
put_which Empty x f Full = f Full
put_which Empty x f Empty = x
