-- A text spells at most one list: it is cut at its commas in one way, and an entry at its last dot.
use Rattle.heap_graph.proofs.SkipLaws.{one_skip_list}
use Rattle.heap_graph.proofs.laws.one_skip_list.Goals as goal

pub returns : goal.returns
returns c = one_skip_list
