-- A batch has the next ones of the objects that are not marked.
use Rattle.std.proofs.Common.{◌≡◌, ◌++◌, ◌∙◌, ap, arith, length, rules, sym}
use Rattle.histogram.specs.working.Unmarked.{unmarked_from}
use Rattle.histogram.proofs.UnmarkedLaws.{counted_more, more_add_up, next_are_objects, unmarked_are_objects}
use Rattle.histogram.proofs.unmarked.count_in_batches.Goals as goal
use Rattle.histogram.proofs.unmarked.count_in_batches.Goals.{After-as_slice}

-- the objects that remained are the batch and those that still remain
next_batch : (g : _) (c : After-as_slice g) → c.loop-first.numbers ≡ c.as_slice.result.now ++ c.batch_from.new.self
next_batch g c =
    c.in-Some.ensures.steps
    ∙ c.in_ok-batch.ensures.numbers
    ∙ ap (λ b. b ++ c.batch_from.new.self) (sym c.as_slice.ensures.value)

pub count_in_parts-requires : goal.count_in_parts-requires
count_in_parts-requires g c =
    let graph = c.args.graph.now in
    let marks = c.args.marks.now.marks in
    let are =
    next_are_objects graph (unmarked_from marks 0) c.loop-first.numbers c.as_slice.result.now c.batch_from.new.self
    c.loop-first.left c.loop-first.invariant.2 (next_batch g c) (unmarked_are_objects marks graph c.requires)
    in
    search rules

pub and-left-requires : goal.and-left-requires
and-left-requires g c =
    let graph = c.args.graph.now in
    let marks = c.args.marks.now.marks in
    more_add_up graph (unmarked_from marks 0) c.loop-first.numbers c.as_slice.result.now c.batch_from.new.self
    c.loop-first.left c.in_ok-counted.counted c.loop-first.invariant.2
    (next_batch g (goal.at.and-left-requires g c).After-as_slice)
    c.in_ok-counted.ensures c.len-objects.ensures.whole (unmarked_are_objects marks graph c.requires)

pub loop-first-smaller : goal.loop-first-smaller
loop-first-smaller g c = omega (arith, ap length c.in-Some.ensures.steps, c.in_ok-batch.ensures.fewer)

pub loop-first-preserved : goal.loop-first-preserved
loop-first-preserved g c = (
  tt,
  tt,
  counted_more c.args.graph.now (unmarked_from c.args.marks.now.marks 0) c.loop-first.numbers c.as_slice.result.now
      c.batch_from.new.self c.loop-first.left c.in_ok-counted.counted c.loop-first.invariant.2
      (next_batch g (goal.at.loop-first-preserved g c).After-as_slice) c.in_ok-counted.ensures c.and-left.result c.and-left.ensures,
)
