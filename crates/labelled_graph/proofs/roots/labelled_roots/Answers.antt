-- Each root that an entry adds comes after the others.
use Rattle.std.proofs.Common.{append-nil, sym}
use Rattle.labelled_graph.proofs.Keeping.{roots_added}
use Rattle.labelled_graph.proofs.roots.labelled_roots.Goals as goal
use Rattle.labelled_graph.proofs.roots.labelled_roots.Goals.{in-Some+in_ok-push, in_default}

pub loop-entry-preserved : goal.loop-entry-preserved
loop-entry-preserved g c =
    let ids = c.args.graph.now.ids in
    let entries = c.args.entries.now in
    let i = c.loop-entry.entry-index in
    let old = c.loop-entry.roots.items in
    let first = c.in_ok-roots.roots.items in
    elim c.match-root_of.branch [
      | in-Some+in_ok-push w ↦ rw w.roots-is (roots_added ids entries i _ first old w.push.new.self.items _
          c.loop-entry-test.true w.in-Some.ensures w.in_ok-push.ensures.items c.loop-entry.invariant)
      | in_default w ↦ rw w.roots-is (roots_added ids entries i _ first old old _
          c.loop-entry-test.true w.in_default.ensures (sym (append-nil old)) c.loop-entry.invariant)
    ]
