-- Quiet: the idle word is the number of units that account 0, the opening one, gave away, and account 0 has pushed
-- nothing on the full stack since it first gave any. Then nothing is left for the other accounts to do.
use Rattle.std.specs.Prelude.{◌≡◌, ℕ, ◌+◌, ◌<◌, false, List, []}
use Rattle.mark_core.specs.declared.which.Which.TheVariants.{Full}
use Rattle.mark_core.specs.Lists.{StandsAt}
use Rattle.mark_core.specs.Account.{Account}
use Rattle.mark_core.specs.World.{Setup, Marking}
use Rattle.mark_core.specs.Events.{IsBusy}
use Rattle.mark_core.specs.Shares.{whole}
use Rattle.mark_core.specs.Runs.{IsListOf, IsRun}

-- the opening account a is not idle, gave n units away, and has pushed nothing on full since it first gave any
pub record HasGivenUnits (n : ℕ) (a : Account) : Type 0 where
  pub busy : IsBusy a
  pub units : a.share + n ≡ whole
  pub pushed : a.pushed ≡ false

-- the marking is quiet for n, which is at least 1: the idle word is n, no account was joined, and the opening account
-- meets `HasGivenUnits`
pub record IsQuiet (m : Marking) (n : ℕ) : Type 0 where
  pub least : 0 < n
  pub word : m.idle ≡ n
  pub apart : (w : ℕ) (a : Account) → StandsAt m.accounts w a → a.joined ≡ false
  pub opening : (a : Account) → StandsAt m.accounts 0 a → HasGivenUnits n a

-- nothing is left for the workers: no buffer is on the full stack, and only the opening account may have anything in
-- its charge
pub record IsDone (m : Marking) : Type 0 where
  pub emptied : (full : List ℕ) → IsListOf m Full full → full ≡ []
  pub others : (w : ℕ) (a : Account) → 0 < w → StandsAt m.accounts w a → a.charge ≡ []

-- quiet means done: in every run, nothing is left when the marking is quiet
abbrev pub QuietIsDone : Type 0
QuietIsDone = (e : Setup) (m : Marking) (n : ℕ) → IsRun e m → IsQuiet m n → IsDone m
