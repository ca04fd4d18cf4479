-- The cause of a refusal that only a part of the run can have found.
use Rattle.std.specs.Prelude.{List, codes, ℕ, ◌≡◌}
use Rattle.command_line.specs.Line.{GivesNumber}
use Rattle.front_end.specs.declared.refusal.Refusal.{Refusal}

-- What is known of the causes that were found. A function that takes any `Causes` (causes.rt) knows nothing of these
-- facts. It learns one only from a call that it makes with the token of the cause.
pub record KnownCauses : Type 1 where
  -- A worker of a pool whose heads began with this tag loaded a stack's last tag when an exchange was due.
  pub spent_tag : ℕ → Type 0
  -- A worker's thread could not be started.
  pub refused_thread : Type 0

-- The refusal has its cause, if its code is one that only a token shows. `first_tag` is that of the run's options.
pub record HasCause (causes : KnownCauses) (first_tag : ℕ) (refusal : Refusal) : Type 0 where
  pub spent_tag : refusal.code ≡ 16 → causes.spent_tag first_tag
  pub refused_thread : refusal.code ≡ 18 → causes.refused_thread

-- The same, where the first tag is that which `words` give, or its default.
pub record HasCauseFor (causes : KnownCauses) (words : List (List ℕ)) (refusal : Refusal) : Type 0 where
  pub spent_tag : refusal.code ≡ 16
      → (tag : ℕ) × GivesNumber (codes "first-tag") words tag × causes.spent_tag tag
  pub refused_thread : refusal.code ≡ 18 → causes.refused_thread
