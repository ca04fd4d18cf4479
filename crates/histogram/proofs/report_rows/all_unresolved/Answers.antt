-- All objects are marked or unmarked. What both miss and what the roots miss add up to the graph's number.
use Rattle.std.proofs.Common.{Bool, List, arith, false, slice_index_or, ℕ, ◌+◌, ◌^◌, ◌≡◌, ◌≤◌}
use Rattle.std.proofs.lemmas.List.FromFn.{length-range_with_len}
use Rattle.std.proofs.lemmas.List.Sums.{sum_by-le}
use Rattle.std.specs.List.{range_with_len}
use Rattle.heap_graph.specs.ObjectGraph.{ObjectGraph, object_count}
use Rattle.heap_graph.specs.Whole.{IsWhole, unresolved_at, unresolved_among}
use Rattle.histogram.specs.Histogram.{marked_objects, unmarked_objects}
use Rattle.drain.proofs.Passing.{both_parts}
use Rattle.histogram.proofs.report_rows.all_unresolved.Goals as goal

module _ (graph : ObjectGraph) (marks : List Bool) where
  abbrev all : List ℕ
  all = range_with_len 0 (object_count graph)

  parts : unresolved_among graph (marked_objects graph marks) + unresolved_among graph (unmarked_objects graph marks)
      ≡ unresolved_among graph all
  parts = both_parts (unresolved_at graph) (λ o. slice_index_or marks o false) all

  few : IsWhole graph → unresolved_among graph all ≤ 2 ^ 57
  few whole =
      omega (
        arith,
        sum_by-le (unresolved_at graph) (2 ^ 33) all (λ k d h. whole.few_unresolved _),
        length-range_with_len 0 (object_count graph),
        whole.few_objects,
      )

pub overflow_add-result : goal.overflow_add-result
overflow_add-result g c =
    let graph = c.args.graph.now in
    let marks = c.args.marks.now.marks in
    omega (
      arith,
      c.unresolved.ensures,
      c.requires.marking.unresolved_is,
      c.requires.unmarked,
      parts graph marks,
      few graph marks c.len-objects.ensures.whole,
    )

pub overflow_add-result-2 : goal.overflow_add-result-2
overflow_add-result-2 g c =
    let graph = c.args.graph.now in
    let marks = c.args.marks.now.marks in
    omega (
      arith,
      c.unresolved.ensures,
      c.requires.marking.unresolved_is,
      c.requires.unmarked,
      c.unresolved-2.ensures.within,
      parts graph marks,
      few graph marks c.len-objects.ensures.whole,
    )

pub returns : goal.returns
returns g c =
    let graph = c.args.graph.now in
    let marks = c.args.marks.now.marks in
    omega (
      arith,
      c.unresolved.ensures,
      c.requires.marking.unresolved_is,
      c.requires.unmarked,
      c.unresolved-2.ensures.value,
      parts graph marks,
      c.len-objects.ensures.whole.both_parts,
    )
