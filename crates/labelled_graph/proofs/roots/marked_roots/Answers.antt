-- Each root that is kept is the next one.
use Rattle.std.proofs.Common.{append-nil, get_or, sym, ◌∙◌, ◌≡◌}
use Rattle.heap_graph.specs.Walks.{target_in}
use Rattle.labelled_graph.proofs.Keeping.{roots_more}
use Rattle.labelled_graph.specs.working.Kept.{reference_of, root_mark}
use Rattle.labelled_graph.proofs.roots.marked_roots.Goals as goal
use Rattle.labelled_graph.proofs.roots.marked_roots.Goals.{in-Some+in_ok-push, in_default}

pub loop-index-preserved : goal.loop-index-preserved
loop-index-preserved g c =
    let names = c.args.root_names.now in
    let i = c.loop-index.index in
    let old = c.loop-index.roots.items in
    let named = c.find-named.ensures.value in
    let marked = c.mark_of_root.ensures in
    let both : reference_of c.find-named.result c.mark_of_root.result
    ≡ reference_of (target_in c.args.graph.now.ids (get_or names i 0)) (root_mark c.args.marks.now.marks i) =
    λ j. reference_of (named j) (marked j) in
    elim c.match-reference.branch [
      | in-Some+in_ok-push w ↦ rw w.roots-is (roots_more (root_mark c.args.marks.now.marks)
          (target_in c.args.graph.now.ids)
          names i old w.push.new.self.items _ c.loop-index-test.true (w.in-Some.ensures
          ∙ both) w.in_ok-push.ensures.items
          c.loop-index.invariant)
      | in_default w ↦ rw w.roots-is (roots_more (root_mark c.args.marks.now.marks) (target_in c.args.graph.now.ids)
          names i old old _ c.loop-index-test.true (w.in_default.ensures ∙ both) (sym (append-nil old))
          c.loop-index.invariant)
    ]
