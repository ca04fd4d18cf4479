-- The refusal of a run for that of its marking.
use Rattle.std.specs.Prelude.{None}
use Rattle.drain.specs.declared.marked.RunFault.{RunFault}
use Rattle.drain.specs.declared.marked.RunFault.TheVariants as marking
use Rattle.front_end.specs.RunRefusals.{out_of_memory}
use Rattle.front_end.specs.declared.refusal.Refusal.{Refusal}

-- the last tag of a stack was loaded, or the system started no thread for a worker
abbrev pub tag_spent : Refusal
tag_spent = record { code = 16; offset = None }

abbrev pub worker_refused : Refusal
worker_refused = record { code = 18; offset = None }

abbrev pub run_refusal : RunFault → Refusal
run_refusal marking.OutOfMemory = out_of_memory
run_refusal (marking.TagSpent token) = tag_spent
run_refusal (marking.WorkerRefused token) = worker_refused
