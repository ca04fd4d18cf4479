-- The slots made so far each have a buffer without items.
use Rattle.std.proofs.Common.{◌≡◌, Some, [], replicate}
use Rattle.mark_core.proofs.state.opening.slots_of.Given as goal

abbrev pub invariant-loop : goal.invariant-loop
invariant-loop g l = l.slots.items ≡ replicate l.counter (Some [])
