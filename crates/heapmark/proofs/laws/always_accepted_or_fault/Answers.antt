-- `hprof_grammar`: a text has a fault of its form or spells a dump. `heap_graph`: a dump is linked or has a fault.
use Rattle.heapmark.proofs.Faults.{by_form}
use Rattle.heapmark.proofs.laws.always_accepted_or_fault.Goals as goal

pub returns : goal.returns
returns c = λ text bytes. by_form c.always_linked_or_fault.ensures text (c.always_dump_or_fault.ensures text bytes)
