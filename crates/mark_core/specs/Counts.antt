-- The counts of each account in a run, and the marking and counts that a list of events leads to.
use Rattle.std.specs.Prelude.{◌≡◌, ℕ, ◌+◌, if◌then◌else◌, List, [], ◌∷◌, ◌++◌, is_none, slice_set, slice_index_or}
use Rattle.tagged_index.specs.Head.{Head}
use Rattle.mark_core.specs.declared.which.Which.{Which}
use Rattle.mark_core.specs.declared.which.Which.TheVariants.{Full, Empty}
use Rattle.mark_core.specs.World.{Setup, Marking}
use Rattle.mark_core.specs.Events.{Kind, Split, Join, Load, Fail, LoadIdle, Event, happens}
use Rattle.mark_core.specs.Runs.{opening, Run}

pub record Counts : Type 0 where
  -- loads of a head, and of the idle word
  pub loads : ℕ
  -- loads of the head of the full stack, and of the empty stack, that found no buffer
  pub full_empties : ℕ
  pub empty_empties : ℕ
  -- exchanges of a head that failed
  pub failures : ℕ

abbrev pub no_counts : Counts
no_counts = record { loads = 0; full_empties = 0; empty_empties = 0; failures = 0 }

-- 1 for a head without a buffer, and 0 otherwise
abbrev pub none_found : Head → ℕ
none_found h = if is_none h.index then 1 else 0

-- the head of a stack was loaded
abbrev pub count_load : Which → Head → Counts → Counts
count_load Full h c = record c { loads = c.loads + 1; full_empties = c.full_empties + none_found h }
count_load Empty h c = record c { loads = c.loads + 1; empty_empties = c.empty_empties + none_found h }

-- the idle word was loaded
abbrev pub count_load_idle : Counts → Counts
count_load_idle c = record c { loads = c.loads + 1 }

-- an exchange failed
abbrev pub count_failure : Counts → Counts
count_failure c = record c { failures = c.failures + 1 }

-- the sum of two counts
abbrev pub add_counts : Counts → Counts → Counts
add_counts a b =
    record {
      loads = a.loads + b.loads;
      full_empties = a.full_empties + b.full_empties;
      empty_empties = a.empty_empties + b.empty_empties;
      failures = a.failures + b.failures;
    }

-- the counts of the account w; zeros if there is none
abbrev pub counts_at : List Counts → ℕ → Counts
counts_at counts w = slice_index_or counts w no_counts

-- the counts of all accounts after a step of the account w. The marking before the step is m
abbrev pub counted : Marking → List Counts → ℕ → Kind → List Counts
counted m counts w (Load q) = slice_set counts w (count_load q (m.head q) (counts_at counts w))
counted m counts w (Fail q) = slice_set counts w (count_failure (counts_at counts w))
counted m counts w (Split units) = counts ++ no_counts ∷ []
counted m counts w (Join v) =
    slice_set (slice_set counts w (add_counts (counts_at counts w) (counts_at counts v))) v no_counts
counted m counts w LoadIdle = slice_set counts w (count_load_idle (counts_at counts w))
counted m counts w kind = counts

-- the counts of all accounts after the events, the first of which happens to the marking m
abbrev pub all_counted : Marking → List Counts → List Event → List Counts
all_counted m counts [] = counts
all_counted m counts (event ∷ events) = all_counted (happens m event) (counted m counts event.worker event.kind) events

-- the events lead from the opening to the marking m, and `each` has the counts of all accounts after them
pub record LeadTo (e : Setup) (events : List Event) (m : Marking) (each : List Counts) : Type 0 where
  pub run : Run e (opening e e.first_tag) events m
  pub counts : each ≡ all_counted (opening e e.first_tag) (no_counts ∷ []) events
