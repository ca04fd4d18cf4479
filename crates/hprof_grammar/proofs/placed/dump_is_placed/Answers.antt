-- Each part begins where the spellings before it end, and the places of a dump are these sums, picked out by kind.
use Rattle.hprof_grammar.proofs.Stands.{all_placed}
use Rattle.hprof_grammar.proofs.placed.dump_is_placed.Goals as goal

pub returns : goal.returns
returns c = all_placed
