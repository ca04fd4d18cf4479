-- One more object is the next one of those that are not marked.
use Rattle.std.proofs.Common.{ℕ, ◌<◌, [], ◌∷◌}
use Rattle.std.proofs.lemmas.List.Elements.{All-head}
use Rattle.heap_graph.specs.ObjectGraph.{object_count}
use Rattle.histogram.specs.working.Unmarked.{unmarked_from}
use Rattle.histogram.proofs.UnmarkedLaws.{counted_more, more_add_up, next_are_objects, unmarked_are_objects}
use Rattle.histogram.proofs.unmarked.count_in_turn.Goals as goal

pub of-requires : goal.of-requires
of-requires g c =
    let graph = c.args.graph.now in
    let marks = c.args.marks.now.marks in
    let object = c.in-Some.object in
    let are =
    next_are_objects graph (unmarked_from marks 0) c.loop-object.object-iterator (object ∷ []) c.next.new.self
    c.loop-object.left c.loop-object.invariant.2 c.in-Some.ensures.steps (unmarked_are_objects marks graph c.requires)
    in
    All-head (λ (o : ℕ). o < object_count graph) object [] are.within

pub and-left-requires : goal.and-left-requires
and-left-requires g c =
    let graph = c.args.graph.now in
    let marks = c.args.marks.now.marks in
    more_add_up graph (unmarked_from marks 0) c.loop-object.object-iterator (c.in-Some.object ∷ []) c.next.new.self
    c.loop-object.left c.of.result c.loop-object.invariant.2 c.in-Some.ensures.steps c.of.ensures
    c.len-objects.ensures.whole (unmarked_are_objects marks graph c.requires)

pub loop-object-preserved : goal.loop-object-preserved
loop-object-preserved g c =
    let all = unmarked_from c.args.marks.now.marks 0 in (
      tt,
      tt,
      counted_more c.args.graph.now all c.loop-object.object-iterator (c.in-Some.object ∷ []) c.next.new.self
          c.loop-object.left c.of.result c.loop-object.invariant.2 c.in-Some.ensures.steps c.of.ensures c.and-left.result
          c.and-left.ensures,
    )
