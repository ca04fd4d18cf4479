-- Each class's list is appended to those of the classes before.
use Rattle.std.proofs.Common.{List, [], ap, arith, subst, ℕ, ◌+◌, ◌<◌, ◌∙◌}
use Rattle.std.proofs.lemmas.List.{get_or-map, length_push}
use Rattle.heap_graph.specs.ObjectGraph.{class_at}
use Rattle.labelled_graph.proofs.ListsOfClasses.{pushed}
use Rattle.labelled_graph.specs.declared.mark.PlacedMark.{PlacedMark}
use Rattle.labelled_graph.specs.working.MarkMaps.{IsFrom, IsListOf}
use Rattle.labelled_graph.proofs.class_marks.ClassMarks.of.Goals as goal

pub loop-class-preserved : goal.loop-class-preserved
loop-class-preserved g c =
    let items = c.in_ok-push.ensures.items in
    rw items (record {
      many = length_push c.loop-class.lists.items c.in_ok-list.list ∙ ap (λ (n : ℕ). n + 1) c.loop-class.invariant.many;
      each = pushed (λ list. list.items)
          (λ n list. IsListOf c.args.marks.now.marks (class_at c.args.graph.now n).id list) c.loop-class.lists.items
          c.in_ok-list.list c.loop-class.class c.loop-class.invariant.many c.loop-class.invariant.each
          (rw c.class_id.ensures at c.in_ok-list.ensures);
    })

pub invariant_of-result : goal.invariant_of-result
invariant_of-result g c = λ k d l.
    let inside : k < c.loop-class.class = omega (arith, l, c.loop-class.invariant.many) in
    let at = get_or-map (λ list. list.items) c.loop-class.lists.items k d [] l in
    subst (λ (list : List PlacedMark). IsFrom 0 list) at (c.loop-class.invariant.each k inside).ascends
