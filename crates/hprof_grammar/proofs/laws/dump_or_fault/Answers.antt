-- If a text spells a dump, its size and its header are right and its records are the longest list, so it has no fault.
use Rattle.hprof_grammar.proofs.OneFault.{dump_or_fault}
use Rattle.hprof_grammar.proofs.laws.dump_or_fault.Goals as goal

pub returns : goal.returns
returns c = dump_or_fault
