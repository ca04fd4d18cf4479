-- Shares: they add up to the whole, and an account without a share has nothing.
use Rattle.std.specs.Prelude.{◌≡◌, ℕ, List, [], false}
use Rattle.mark_core.specs.Lists.{StandsAt, sum_of}
use Rattle.mark_core.specs.Account.{Account}

-- all units together
abbrev pub whole : ℕ
whole = 65536

abbrev pub shares : List Account → ℕ
shares accounts = sum_of (λ a. a.share) accounts

-- the account a holds no buffer, has no object in its charge, finished none, and has no open push
pub record HasNothing (a : Account) : Type 0 where
  pub held : a.held ≡ []
  pub charge : a.charge ≡ []
  pub finished : a.finished ≡ []
  pub open_push : a.open_push ≡ false

pub record IsShared (accounts : List Account) : Type 0 where
  pub sum : shares accounts ≡ whole
  pub no_share : (w : ℕ) (a : Account) → StandsAt accounts w a → a.share ≡ 0 → HasNothing a
