-- The bytes after the remaining values are those after all values, and the rest has room for the remaining ones.
use Rattle.hprof_grammar.proofs.Words.{HasValues, behind_counted_values, behind_values, ◌≡◌}
use Rattle.hprof_grammar.proofs.view.values.after_values.Given as goal

abbrev pub invariant-loop-left : goal.invariant-loop-left
invariant-loop-left l = record {
  room : HasValues l.id_size l.front l.left l.rest;
  end : behind_values l.id_size l.front l.left l.rest ≡ behind_counted_values l.id_size l.front l.bytes;
}

abbrev pub decreases-loop-left : goal.decreases-loop-left
decreases-loop-left l = l.left
