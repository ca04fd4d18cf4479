-- The references of the identifiers that remain are those that the walk has not yielded.
use Rattle.std.proofs.Common.{length, ◌≡◌}
use Rattle.heap_graph.specs.Walks.{named_in}
use Rattle.labelled_graph.specs.working.Kept.{kept, mark_of}
use Rattle.labelled_graph.specs.working.MarkMaps.{IsFrom}
use Rattle.labelled_graph.proofs.references.LabelledReferencesReferenceSource.next_reference.Given as goal

abbrev pub invariant-loop-named : goal.invariant-loop-named
invariant-loop-named g l = record {
  left : kept (mark_of l.self-inside.marks) l.self-inside.marks.index (named_in l.self-inside.named)
      ≡ kept (mark_of l.initial.self-inside.marks) l.initial.self-inside.marks.index
      (named_in l.initial.self-inside.named);
  from : IsFrom l.self-inside.marks.index l.self-inside.marks.class.now;
}

abbrev pub decreases-loop-named : goal.decreases-loop-named
decreases-loop-named g l = length l.self-inside.named
