-- Why there is no table.
use Rattle.retained.specs.declared.no_table.NoTable.{NoTable}
use Rattle.retained.specs.declared.no_table.NoTable.TheVariants as none
use Rattle.retention.specs.declared.fault.Fault.{Fault}
use Rattle.retention.specs.declared.fault.Fault.TheVariants as faults

-- the fault whose refusal is printed
abbrev pub fault_of : NoTable → Fault
fault_of (none.DumpNotOpened error) = faults.ReadFault
fault_of (none.LabelsNotOpened error) = faults.ReadFault
fault_of (none.Stopped fault) = fault
