-- A pair's buffers, as the positions that a contract sees.
use Rattle.work_pair.specs.PairState.{PairState}
use Rattle.work_pair.specs.declared.buffers.Buffers.{Buffers}
use Rattle.work_pair.specs.working.Steps.{positions}

-- the buffers as a pair that spilled nothing
abbrev pub as_pair : {A : Type 0} → Buffers A → PairState
as_pair b = positions b.first b.second b.third
