-- The marked objects of the rows below one more number are those so far and those of that row; no sum overflows.
use Rattle.std.proofs.Common.{ap, arith, length, sum_by, ◌∙◌, ◌≡◌}
use Rattle.heap_graph.specs.ObjectGraph.{bytes_at}
use Rattle.heap_graph.specs.RowNumbers.{row_count}
use Rattle.histogram.specs.Histogram.{marked_objects}
use Rattle.histogram.proofs.RowLemmas.{below_all, few_summed, none_summed, row_summed}
use Rattle.histogram.proofs.reachable.reachable.Goals as goal

pub loop-number-init : goal.loop-number-init
loop-number-init g c = none_summed c.args.graph.now c.len-objects.ensures.whole c.args.marks.now.marks

pub overflow_add-count : goal.overflow_add-count
overflow_add-count g c =
    let few = few_summed _ c.len-objects.ensures.whole _ c.requires _ _ c.loop-number.invariant c.numbered.ensures
    c.tally-row_count.ensures (omega (arith, c.loop-number-test.true, c.row_count-number-end.ensures.value)) in
    omega (arith, few.0)

pub overflow_add-bytes : goal.overflow_add-bytes
overflow_add-bytes g c =
    let few = few_summed _ c.len-objects.ensures.whole _ c.requires _ _ c.loop-number.invariant c.numbered.ensures
    c.tally-row_count.ensures (omega (arith, c.loop-number-test.true, c.row_count-number-end.ensures.value)) in
    omega (arith, few.1)

pub loop-number-preserved : goal.loop-number-preserved
loop-number-preserved g c =
    row_summed _ c.len-objects.ensures.whole _ c.requires _ _ c.loop-number.invariant c.numbered.ensures
    c.tally-row_count.ensures (omega (arith, c.loop-number-test.true, c.row_count-number-end.ensures.value))

pub returns : goal.returns
returns g c =
    let graph = c.args.graph.now in
    let end : c.loop-number.number ≡ row_count graph =
    omega (arith, c.loop-number-test.false, c.loop-number.auto.number-end, c.row_count-number-end.ensures.value) in
    let all = below_all graph c.len-objects.ensures.whole c.loop-number.number
    (marked_objects graph c.args.marks.now.marks) end in
    let count = c.loop-number.invariant.count_is ∙ ap length all in
    let bytes = c.loop-number.invariant.bytes_is ∙ ap (sum_by (bytes_at graph)) all in
    λ k. (count k, bytes k)
