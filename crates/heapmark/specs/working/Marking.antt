-- The refusals of a marking other than out of memory.
use Rattle.std.specs.Prelude.{◌≡◌, ◌⊎◌}
use Rattle.heapmark.specs.RefusalCodes.{tag_spent, worker_refused}
use Rattle.front_end.specs.declared.refusal.Refusal.{Refusal}

-- the tags of a stack are spent, or a worker's thread could not be started
abbrev pub IsOfMarking : Refusal → Type 0
IsOfMarking refusal = (refusal ≡ tag_spent) ⊎ (refusal ≡ worker_refused)
