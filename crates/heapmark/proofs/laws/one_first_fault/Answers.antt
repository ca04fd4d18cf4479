-- A text has at most one first fault of its form and at most one of its links, and no text has both.
use Rattle.heapmark.proofs.Faults.{fault_determined}
use Rattle.heapmark.proofs.laws.one_first_fault.Goals as goal

pub returns : goal.returns
returns c = fault_determined c.dump_or_fault.ensures c.one_fault.ensures c.one_list_of_records.ensures
