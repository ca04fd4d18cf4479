-- The bytes are the records so far, which have joined, and then the rest. The rest gets shorter.
use Rattle.hprof_grammar.proofs.Words.{AddsRecordsFrom, length}
use Rattle.hprof_grammar.proofs.record_list.note_records.Given as goal

abbrev pub invariant-loop-reader : goal.invariant-loop-reader
invariant-loop-reader g l = AddsRecordsFrom l.at l.fn.order l.bytes l.reader.rest.now l.order l.fn.dump l.dump

abbrev pub decreases-loop-reader : goal.decreases-loop-reader
decreases-loop-reader g l = length l.reader.rest.now
