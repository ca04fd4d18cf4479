-- A book: the account of one worker, the setup of its pool, and counts of its steps. Then the effect of each step on a
-- book.
use Rattle.std.specs.Prelude.{ℕ, ◌+◌, List, [], Option}
use Rattle.mark_core.specs.declared.which.Which.{Which}
use Rattle.mark_core.specs.declared.which.Which.TheVariants.{Full, Empty}
use Rattle.tagged_index.specs.Head.{Head}
use Rattle.mark_core.specs.Account.{Account, part, no_share, after_claim, after_finish, after_split, after_join}
use Rattle.mark_core.specs.Account.{after_load, after_load_link, after_pop, after_push, after_idle_up, after_idle_down}
use Rattle.mark_core.specs.Account.{after_load_idle}
use Rattle.mark_core.specs.World.{Setup}
use Rattle.mark_core.specs.Counts.{Counts, none_found}

pub record Book : Type 0 where
  pub setup : Setup
  pub account : Account
  -- loads of a head, and of the idle word
  pub loads : ℕ
  -- loads of the full head, and of the empty one, that found no buffer
  pub full_empties : ℕ
  pub empty_empties : ℕ
  -- exchanges of a head that failed
  pub failures : ℕ

abbrev pub empties_of : Book → Which → ℕ
empties_of b Full = b.full_empties
empties_of b Empty = b.empty_empties

-- a book with the setup `e`, some units and nothing else
abbrev pub new_book : Setup → ℕ → Book
new_book e units =
    record { setup = e; account = part units; loads = 0; full_empties = 0; empty_empties = 0; failures = 0 }

-- the counts of a book
abbrev pub counts_of : Book → Counts
counts_of b =
    record {
      loads = b.loads;
      full_empties = b.full_empties;
      empty_empties = b.empty_empties;
      failures = b.failures;
    }

-- the head of a stack was loaded
abbrev pub loaded : Which → Head → Book → Book
loaded Full h b =
    record b {
      account = after_load Full h b.account;
      loads = b.loads + 1;
      full_empties = b.full_empties + none_found h;
    }
loaded Empty h b =
    record b {
      account = after_load Empty h b.account;
      loads = b.loads + 1;
      empty_empties = b.empty_empties + none_found h;
    }

-- the link of the last head's buffer was loaded
abbrev pub link_loaded : Which → Option ℕ → Book → Book
link_loaded q l b = record b { account = after_load_link q l b.account }

-- the worker went idle; below, it came back
abbrev pub idled : Book → Book
idled b = record b { account = after_idle_up b.account }

abbrev pub woken : Book → Book
woken b = record b { account = after_idle_down b.account }

-- the idle word was loaded
abbrev pub idle_loaded : ℕ → Book → Book
idle_loaded n b = record b { account = after_load_idle n b.account; loads = b.loads + 1 }

-- an exchange failed
abbrev pub failed : Book → Book
failed b = record b { failures = b.failures + 1 }

-- the buffer i was popped, with its items
abbrev pub popped : ℕ → List ℕ → Book → Book
popped i items b = record b { account = after_pop i items b.account }

-- the buffer i was pushed, with its items
abbrev pub pushed : Which → ℕ → List ℕ → Book → Book
pushed q i items b = record b { account = after_push q i items b.account }

-- the object o, whose mark was `found`, was claimed
abbrev pub claimed : ℕ → ℕ → Book → Book
claimed o found b = record b { account = after_claim o found b.account }

-- the object o was finished
abbrev pub finished : ℕ → Book → Book
finished o b = record b { account = after_finish o b.account }

-- units went to another book
abbrev pub parted : ℕ → Book → Book
parted units b = record b { account = after_split units b.account }

-- two books joined: lists, shares and counts are added, and the first book's setup stays
abbrev pub joined : Book → Book → Book
joined a b =
    record {
      setup = a.setup;
      account = after_join a.account b.account;
      loads = a.loads + b.loads;
      full_empties = a.full_empties + b.full_empties;
      empty_empties = a.empty_empties + b.empty_empties;
      failures = a.failures + b.failures;
    }

-- a setup with nothing
abbrev pub no_setup : Setup
no_setup = record { objects = 0; buffers = 0; size = 0; first_tag = 0; roots = []; pairs = [] }

-- what is left of a book that was joined to another
abbrev pub no_share_book : Book
no_share_book =
    record { setup = no_setup; account = no_share; loads = 0; full_empties = 0; empty_empties = 0; failures = 0 }
