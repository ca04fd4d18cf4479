-- An accepted text has no fault: a dump has no fault of its form, and its one list of records is linked.
use Rattle.heapmark.proofs.Faults.{accepted_excludes}
use Rattle.heapmark.proofs.laws.accepted_or_fault.Goals as goal

pub returns : goal.returns
returns c = accepted_excludes c.dump_or_fault.ensures c.one_list_of_records.ensures
