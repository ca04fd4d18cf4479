-- The fault of a run that each part's refusal becomes.
use Rattle.heap_graph.specs.declared.refusal.LinkRefusal.{LinkRefusal}
use Rattle.heap_graph.specs.declared.refusal.LinkRefusal.TheVariants as links
use Rattle.histogram.specs.declared.read_to_limit.ReaderRefusal.{ReaderRefusal}
use Rattle.histogram.specs.declared.read_to_limit.ReaderRefusal.TheVariants as readers
use Rattle.histogram.specs.declared.report_writing.WriteRefusal.{WriteRefusal}
use Rattle.histogram.specs.declared.report_writing.WriteRefusal.TheVariants as writers
use Rattle.hprof_grammar.specs.declared.flaw.ReadRefusal.{ReadRefusal}
use Rattle.hprof_grammar.specs.declared.flaw.ReadRefusal.TheVariants as forms
use Rattle.label_list.specs.declared.refusal.ListRefusal.{ListRefusal}
use Rattle.label_list.specs.declared.refusal.ListRefusal.TheVariants as lists
use Rattle.retention.specs.declared.fault.Fault.{Fault}
use Rattle.retention.specs.declared.fault.Fault.TheVariants as faults

abbrev pub list_fault : ListRefusal → Fault
list_fault (lists.BadLine n) = faults.BadLabels n
list_fault lists.OutOfMemory = faults.OutOfMemory

abbrev pub reader_fault : ReaderRefusal → Fault
reader_fault readers.ReadFault = faults.ReadFault
reader_fault readers.OutOfMemory = faults.OutOfMemory

abbrev pub form_fault : ReadRefusal → Fault
form_fault (forms.Fault f) = faults.Dump f.code f.offset
form_fault forms.OutOfMemory = faults.OutOfMemory

abbrev pub link_fault : LinkRefusal → Fault
link_fault (links.Fault f) = faults.Dump f.code f.offset
link_fault links.OutOfMemory = faults.OutOfMemory

abbrev pub write_fault : WriteRefusal → Fault
write_fault writers.WriteFault = faults.WriteFault
write_fault writers.OutOfMemory = faults.OutOfMemory
