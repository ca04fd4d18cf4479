-- The fault of a marking for each stop of a pair's call, that of a refused thread, and the first tag of a spent one.
use Rattle.std.specs.Prelude.{ℕ, ◌≡◌}
use Rattle.buffer_pool.specs.Calls.{first_tag_of}
use Rattle.work_pair.specs.declared.stop.Stop.{Stop}
use Rattle.work_pair.specs.declared.stop.Stop.TheVariants as stop
use Rattle.drain.specs.declared.marked.RunFault.{RunFault}
use Rattle.drain.specs.declared.marked.RunFault.TheVariants as fault

abbrev pub stopped : Stop → RunFault
stopped (stop.TagSpent token) = fault.TagSpent token
stopped stop.OutOfMemory = fault.OutOfMemory

-- a worker's thread could not be started
abbrev pub IsRefusedThread : RunFault → Type 0
IsRefusedThread (fault.WorkerRefused token) = Unit
IsRefusedThread (fault.TagSpent token) = ⊥
IsRefusedThread fault.OutOfMemory = ⊥

-- if the fault has the token of a spent tag, it is of a pool whose heads had the tag `first` at first
abbrev pub IsFaultFrom : ℕ → RunFault → Type 0
IsFaultFrom first (fault.TagSpent token) = first_tag_of token ≡ first
IsFaultFrom first (fault.WorkerRefused token) = Unit
IsFaultFrom first fault.OutOfMemory = Unit
