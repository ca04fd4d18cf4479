-- The body is the sub-records so far, whose places have joined, and then the rest. The rest gets shorter.
use Rattle.hprof_grammar.proofs.Words.{AddsSubs, length}
use Rattle.hprof_grammar.proofs.sub_record_list.note_subs.Given as goal

abbrev pub invariant-loop-reader : goal.invariant-loop-reader
invariant-loop-reader g l = AddsSubs l.at l.body l.reader.rest.now l.fn.dump l.dump

abbrev pub decreases-loop-reader : goal.decreases-loop-reader
decreases-loop-reader g l = length l.reader.rest.now
