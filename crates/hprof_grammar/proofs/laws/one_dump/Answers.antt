-- A text spells at most one list of records, and this list determines the places of the dump.
use Rattle.hprof_grammar.proofs.OneDump.{one_dump}
use Rattle.hprof_grammar.proofs.laws.one_dump.Goals as goal

pub returns : goal.returns
returns c = one_dump
