-- The sets of a pass over the tables' graph hold the labels without which objects would not be reachable.
use Rattle.std.proofs.Common.{Bool, List}
use Rattle.heap_graph.specs.ObjectGraph.{ObjectGraph, object_count}
use Rattle.label_flow.specs.Flow.{Flow, IsFlowOf, set_of}
use Rattle.label_flow.specs.Labelled as flow
use Rattle.label_flow.specs.declared.graph.Reference.{Reference}
use Rattle.label_list.specs.declared.entry.Entry.{Entry}
use Rattle.label_sets.specs.Sets.{Store, labels_of}
use Rattle.labelled_graph.proofs.Reaching.{reach_on}
use Rattle.labelled_graph.proofs.Referring.{refers, refers_by, refers_by_without, refers_without}
use Rattle.labelled_graph.proofs.Referring.{roots_from, roots_from_without, roots_to, roots_to_without}
use Rattle.labelled_graph.specs.Holding.{AreHeld}
use Rattle.labelled_graph.specs.Labels.{IsRoot, IsRootWithout, Refers, RefersWithout}
use Rattle.labelled_graph.specs.declared.mark.PlacedMark.{PlacedMark}
use Rattle.labelled_graph.specs.working.MarkMaps.{MarkMap}
use Rattle.labelled_graph.specs.working.Tabled.{AreTables, labelled_references}

pub are_held : (store : Store) (g : ObjectGraph) (list : List Entry) (classes : List (List PlacedMark))
    (marks : MarkMap)
    (has : List Bool) (roots : List Reference) (f : Flow) → AreTables store g list classes marks has roots
    → IsFlowOf store (object_count g) roots (labelled_references g classes marks has) f
    → AreHeld g list (set_of f) (labels_of f.store)
are_held store g list classes marks has roots f t is =
    let refs = labelled_references g classes marks has in
    record {
      reached = λ o. (
        λ x. reach_on (flow.IsRootOf roots) (IsRoot g list) (flow.RefersBy refs) (Refers g list)
            (roots_to store g list classes marks has roots t) (refers store g list classes marks has roots t) o
            ((is.reached o).0 x),
        λ x. (is.reached o).1
            (reach_on (IsRoot g list) (flow.IsRootOf roots) (Refers g list) (flow.RefersBy refs)
            (roots_from store g list classes marks has roots t) (refers_by store g list classes marks has roots t) o x),
      );
      kept = λ o s l at label x. is.kept o s l at label
          (reach_on (IsRootWithout g list l) (flow.IsRootWithout store l roots) (RefersWithout g list l)
          (flow.RefersWithout store l refs) (roots_from_without store g list classes marks has roots t l)
          (λ a b. refers_by_without store g list classes marks has roots t a l b) o x);
      lost = λ o s l at no_label.
          reach_on (flow.IsRootWithout store l roots) (IsRootWithout g list l) (flow.RefersWithout store l refs)
          (RefersWithout g list l) (roots_to_without store g list classes marks has roots t l)
          (λ a b. refers_without store g list classes marks has roots t a l b) o (is.lost o s l at no_label);
    }
