-- The header says the size of identifiers, and no record's spelling begins another's: the lists agree record by record.
use Rattle.hprof_grammar.proofs.OneDump.{one_list}
use Rattle.hprof_grammar.proofs.laws.one_list_of_records.Goals as goal

pub returns : goal.returns
returns c = one_list
