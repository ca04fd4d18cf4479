-- A worker's tally: it counts what the worker finished.
use Rattle.std.specs.Prelude.{All, List, [], ℕ}
use Rattle.buffer_pool.specs.Calls.{Owner}
use Rattle.drain.specs.declared.tally.Tally.{Tally}
use Rattle.drain.specs.working.Tallies.{IsSmall, IsTallyOf, Measure}

abbrev pub Tallies : {A : Type 0} → Measure → List ℕ → Tally A → Type 0
Tallies m objects t = IsTallyOf m objects t.rows.items t.unresolved

abbrev pub HasSmallSums : {A : Type 0} → Tally A → Type 0
HasSmallSums t = IsSmall t.rows.items t.unresolved

-- `t` is the tally of the objects that `w` finished
abbrev pub HasTallied : {A : Type 0} → Measure → Owner → Tally A → Type 0
HasTallied m w t = Tallies m w.book.account.finished t

-- each of `tallies` is of no object
abbrev pub AreTalliesOfNone : {A : Type 0} → Measure → List (Tally A) → Type 0
AreTalliesOfNone m tallies = All (Tallies m []) tallies
