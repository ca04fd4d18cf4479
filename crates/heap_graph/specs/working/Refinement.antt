-- The parts of a graph, and the graph that they stand for.
use Rattle.std.specs.Prelude.{List, map, option_copied, ℕ, ◌≡◌}
use Rattle.hprof_grammar.specs.Record.{Record}
use Rattle.heap_graph.specs.Heap.{heap_of}
use Rattle.heap_graph.specs.ObjectGraph.{IsGraphOf, NamedClass, ObjectGraph}
use Rattle.heap_graph.specs.Skips.{SkipEntry, is_skipped}
use Rattle.heap_graph.specs.Whole.{IsWhole, unresolved_roots}
use Rattle.heap_graph.specs.working.ClassPlans.{IsPlanOf}
use Rattle.heap_graph.specs.working.ObjectIds.{AreLinkedOf}
use Rattle.heap_graph.specs.working.ClassFates.{HaveFatesOf}
use Rattle.heap_graph.specs.declared.objects.class_entries.ClassEntry.{ClassEntry}
use Rattle.heap_graph.specs.declared.objects.Objects.{Objects}
use Rattle.heap_graph.specs.declared.plan.Plan.{Plan}

abbrev pub named_class : ClassEntry → NamedClass
named_class c = record { id = c.id; text = option_copied c.text }

-- `g` is the graph that these parts of a linked dump stand for: its objects, the plans of their classes, the roots, the
-- classes with their names, the number of unresolved root identifiers, and the fields that are not followed
pub record StandFor {A : Type 0} (objects : Objects A) (plan : Plan A) (roots : List ℕ) (classes : List ClassEntry)
    (unresolved : ℕ) (skip : List SkipEntry) (g : ObjectGraph) : Type 0 where
  pub records : List Record
  pub linked : AreLinkedOf objects (heap_of records)
  pub fates : HaveFatesOf objects (heap_of records)
  pub planned : IsPlanOf (is_skipped records skip) objects (heap_of records) plan
  pub graph : IsGraphOf objects.view.id_size records skip g
  pub whole : IsWhole g
  pub roots_are : g.roots ≡ roots
  pub classes_are : g.classes ≡ map named_class classes
  pub unresolved_is : unresolved_roots g ≡ unresolved
