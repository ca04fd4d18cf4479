-- The records after the header and before the last seam have joined, and the remaining results are parts.
use Rattle.std.proofs.Common.{All}
use Rattle.std.specs.Vec.Iter.{into_iter_items}
use Rattle.hprof_grammar.specs.working.Parts.{MayBePart}
use Rattle.hprof_grammar.proofs.PartsJoin.{Reaches}
use Rattle.hprof_grammar.proofs.parts.join_parts.Given as goal

abbrev pub invariant-loop-part : goal.invariant-loop-part
invariant-loop-part g l =
    Reaches l.bytes l.id_size l.reached l.dump × All (MayBePart l.bytes l.id_size) (into_iter_items l.part-iterator)
