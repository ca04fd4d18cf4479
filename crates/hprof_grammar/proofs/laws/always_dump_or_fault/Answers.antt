-- The parser's steps, taken on lists: for any bytes they end with a dump that is spelled, or with the first fault.
use Rattle.hprof_grammar.proofs.DumpOrFault.{all_told}
use Rattle.hprof_grammar.proofs.laws.always_dump_or_fault.Goals as goal

pub returns : goal.returns
returns c = all_told
