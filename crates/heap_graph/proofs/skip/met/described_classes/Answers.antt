-- An object that is read as a class is a class dump, and is described. Any other object is none.
use Rattle.heap_graph.proofs.Words.{Class, List, SubRecord, ap, arith, as_class, class_dump, described, filter_map}
use Rattle.heap_graph.proofs.Words.{heap_of, map, objects, take_all, ℕ, ◌∙◌}
use Rattle.heap_graph.proofs.MetLaws.{no_class_more, one_class_more}
use Rattle.heap_graph.proofs.Standings.{IsDumpBy, is_class_dump, no_class_dump, stands_there}
use Rattle.heap_graph.proofs.Wholeness.{same_classes}
use Rattle.heap_graph.proofs.skip.met.described_classes.Goals.{in-Class+in_ok-push-in-Class, in_default}
use Rattle.heap_graph.proofs.skip.met.described_classes.Goals as goal

pub kind-requires : goal.kind-requires
kind-requires g c =
    let it = stands_there _ _ c.requires.stand.0 _ c.requires.stand.1 c.loop-at-test.true in
    (it.object, it.stands, it.describes)

pub at-requires-clause-class : goal.at-requires-clause-class
at-requires-clause-class g c =
    let it = stands_there _ _ c.requires.stand.0 _ c.requires.stand.1 c.loop-at-test.true in
    let dump : IsDumpBy class_dump it.object =
    is_class_dump it.object (c.in-Class.ensures it.object it.stands it.describes) in
    (dump.what, rw dump.same at it.stands)

pub loop-at-preserved : goal.loop-at-preserved
loop-at-preserved g c = λ records names stand.
    let os = objects (heap_of records) in
    let n : ℕ = c.loop-at.at-index in
    let old = c.loop-at.classes.items in
    let it = stands_there _ _ (heap_of records) n stand c.loop-at-test.true in
    let before = c.loop-at.invariant records names stand in
    elim c.match-kind.branch [
      | in-Class+in_ok-push-in-Class w ↦
          let dump : IsDumpBy class_dump it.object =
          is_class_dump it.object (w.in-Class.ensures it.object it.stands it.describes) in
          rw w.classes-is
          (one_class_more records os n it.object it.is dump.what w.at.result old w.push.new.self.items
          dump.same (w.at.ensures records dump.what names (rw dump.same at it.stands))
          w.in_ok-push-in-Class.ensures.items before)
      | in_default w ↦
          rw w.classes-is
          (no_class_more records os n it.object it.is old
          (no_class_dump it.object c.kind.result (c.kind.ensures it.object it.stands it.describes)
          w.in_default.not-Class)
          before)
    ]

pub returns : goal.returns
returns g c = λ records names stand.
    let heap = heap_of records in
    c.loop-at.invariant records names stand
    ∙ ap (λ (cs : List Class). map (described records) cs)
    (ap (λ (os : List SubRecord). filter_map as_class os)
    (take_all c.loop-at.at-index (objects heap) (omega (arith, stand.count, c.loop-at-test.false))) ∙ same_classes heap)
