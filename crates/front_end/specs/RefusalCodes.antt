-- The refusal of a run for the refusal of each of its parts.
use Rattle.std.specs.Prelude.{None}
use Rattle.front_end.specs.RunRefusals.{fault_refusal, out_of_memory, read_fault}
use Rattle.front_end.specs.declared.refusal.Refusal.{Refusal}
use Rattle.heap_graph.specs.declared.refusal.LinkRefusal.{LinkRefusal}
use Rattle.heap_graph.specs.declared.refusal.LinkRefusal.TheVariants as link
use Rattle.heap_graph.specs.declared.skip.refusal.SkipRefusal.{SkipRefusal}
use Rattle.heap_graph.specs.declared.skip.refusal.SkipRefusal.TheVariants as skipping
use Rattle.histogram.specs.declared.read_to_limit.ReaderRefusal.{ReaderRefusal}
use Rattle.histogram.specs.declared.read_to_limit.ReaderRefusal.TheVariants as reading
use Rattle.histogram.specs.declared.report_writing.WriteRefusal.{WriteRefusal}
use Rattle.histogram.specs.declared.report_writing.WriteRefusal.TheVariants as writing
use Rattle.hprof_grammar.specs.declared.flaw.ReadRefusal.{ReadRefusal}
use Rattle.hprof_grammar.specs.declared.flaw.ReadRefusal.TheVariants as form

-- of reading: the first fault of the form, at its place
abbrev pub form_refusal : ReadRefusal → Refusal
form_refusal (form.Fault f) = fault_refusal f.code f.offset
form_refusal form.OutOfMemory = out_of_memory

-- of linking: the first fault of the links, at its place
abbrev pub link_refusal : LinkRefusal → Refusal
link_refusal (link.Fault f) = fault_refusal f.code f.offset
link_refusal link.OutOfMemory = out_of_memory

-- of the reader
abbrev pub reader_refusal : ReaderRefusal → Refusal
reader_refusal reading.ReadFault = read_fault
reader_refusal reading.OutOfMemory = out_of_memory

-- of the writer
abbrev pub write_fault : Refusal
write_fault = record { code = 20; offset = None }

abbrev pub write_refusal : WriteRefusal → Refusal
write_refusal writing.WriteFault = write_fault
write_refusal writing.OutOfMemory = out_of_memory

-- of the options: heapmark's are out of range, or a text of them is no list
abbrev pub bad_options_refusal : Refusal
bad_options_refusal = record { code = 21; offset = None }

abbrev pub skip_refusal : SkipRefusal → Refusal
skip_refusal skipping.BadOptions = bad_options_refusal
skip_refusal skipping.OutOfMemory = out_of_memory
