-- Faults of size and header exclude each other. After the header there is one longest list, and one fault at its end.
use Rattle.hprof_grammar.proofs.OneFault.{one_fault}
use Rattle.hprof_grammar.proofs.laws.one_fault.Goals as goal

pub returns : goal.returns
returns c = one_fault
