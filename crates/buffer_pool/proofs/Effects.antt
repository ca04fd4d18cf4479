-- What an event does to the accounts: at most one changes, and in addition one may be added or joined to another.
use Rattle.buffer_pool.proofs.Words.{Account, Claim, Fail, Finish, IdleDown, IdleUp, Join, Kind, List, Load, LoadIdle}
use Rattle.buffer_pool.proofs.Words.{LoadLink, Marking, None, Option, Pop, Push, Some, Split, StoreLink, Which, []}
use Rattle.buffer_pool.proofs.Words.{effect, look_of, no_share, part, set, stack_popped, ℕ, ◌++◌, ◌∷◌}

module _ (P : List Account → Type 0) (m : Marking) (w : ℕ) (a : Account) (same : P m.accounts)
    (one : (b : Account) → P (set m.accounts w b))
    (more : (b : Account) (units : ℕ) → P (set m.accounts w b ++ part units ∷ []))
    (less : (b : Account) (v : ℕ) → P (set (set m.accounts w b) v no_share)) where
  popped_by : (q : Which) (index : Option ℕ) (link : Option (Option ℕ)) → P (stack_popped m w a q index link).accounts
  popped_by q None link = same
  popped_by q (Some i) None = same
  popped_by q (Some i) (Some l) = one _

  pub effect_by : (kind : Kind) → P (effect m w a kind).accounts
  effect_by (Claim o) = one _
  effect_by (Finish o) = one _
  effect_by (Split units) = more _ units
  effect_by (Join v) = less _ v
  effect_by (Load q) = one _
  effect_by (LoadLink q) = one _
  effect_by (StoreLink i l) = same
  effect_by (Pop q) = popped_by q (m.head q).index (look_of a q).link
  effect_by (Push q i items) = one _
  effect_by (Fail q) = same
  effect_by IdleUp = one _
  effect_by IdleDown = one _
  effect_by LoadIdle = one _
