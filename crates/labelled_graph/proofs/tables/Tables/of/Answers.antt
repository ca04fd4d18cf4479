-- Each table still says the same in the store that the tables after it have made grow.
use Rattle.std.proofs.Common.{List, [], ap, map, ℕ, ◌++◌, ◌∙◌}
use Rattle.heap_graph.specs.Walks.{target_in}
use Rattle.labelled_graph.proofs.Stores.{extends_on}
use Rattle.labelled_graph.proofs.Tabling.{below_on, marks_on, none_on, reads, reads_root}
use Rattle.labelled_graph.specs.working.Kept.{added_roots, kept, root_mark}
use Rattle.labelled_graph.specs.working.Reads.{class_of_object}
use Rattle.labelled_graph.specs.working.Saying.{class_place, no_place, object_place}
use Rattle.labelled_graph.proofs.tables.Tables.of.Goals as goal

pub object_marks-requires-clause-labels : goal.object_marks-requires-clause-labels
object_marks-requires-clause-labels g c =
    below_on c.args.store.now c.class_marks.new.store c.args.entries.now c.class_marks.ensures.extends c.requires.labels

pub root_marks-requires : goal.root_marks-requires
root_marks-requires g c =
    below_on c.args.store.now c.object_marks.new.store c.args.entries.now
    (extends_on c.args.store.now c.class_marks.new.store c.object_marks.new.store c.class_marks.ensures.extends
    c.object_marks.ensures.extends) c.requires.labels

pub returns-clause-tables : goal.returns-clause-tables
returns-clause-tables g c =
    let list = c.args.entries.now in
    let graph = c.args.graph.now in
    let begun = c.args.store.now in
    let first = c.class_marks.new.store in
    let second = c.object_marks.new.store in
    let last = c.root_marks.new.store in
    let later = extends_on first second last c.object_marks.ensures.extends c.root_marks.ensures.extends in
    let all = extends_on begun first last c.class_marks.ensures.extends later in
    let none = none_on begun last all c.len-begun.ensures.within c.requires.none in
    let classes = c.in_ok-marks.marks.marks in
    let own = c.in_ok-objects.objects in
    let own_are = c.in_ok-objects.ensures.marks in
    record {
      reads = reads last graph list classes own.marks.marks own.has.items c.in_ok-classes.classes none
          c.len-objects.ensures.whole
          (marks_on first last [] list no_place class_place classes later c.len-with_classes.ensures.within
          c.in_ok-marks.ensures.marks)
          c.in_ok-classes.ensures
          (record {
            are = marks_on second last list list (class_of_object graph) (object_place graph.ids) own.marks.marks
                c.root_marks.ensures.extends c.len-with_objects.ensures.within own_are.are;
            covered = own_are.covered;
          });
      root_marks = c.in_ok-root_marks.root_marks.marks;
      reads_root = reads_root last list c.in_ok-root_marks.root_marks.marks none c.in_ok-root_marks.ensures.marks;
      roots_are = c.in_ok-roots.ensures
          ∙ ap (λ (names : List ℕ). kept (root_mark c.in_ok-root_marks.root_marks.marks) 0 (map
          (target_in graph.ids) names)
          ++ added_roots graph.ids list) c.requires.names;
      none = none;
    }

pub returns-clause-extends : goal.returns-clause-extends
returns-clause-extends g c =
    extends_on c.args.store.now c.class_marks.new.store c.root_marks.new.store c.class_marks.ensures.extends
    (extends_on c.class_marks.new.store c.object_marks.new.store c.root_marks.new.store c.object_marks.ensures.extends
    c.root_marks.ensures.extends)
