-- The extents that were passed do not have the identifier.
use Rattle.id_index.proofs.Words.{HasBearer, extent_in, ℕ, ◌<◌}
use Rattle.id_index.proofs.extent_look_up.number_from.Given as goal

abbrev pub invariant-loop-at : goal.invariant-loop-at
invariant-loop-at l = (k : ℕ) → k < l.at → HasBearer (extent_in l.extents k) l.id → ⊥
