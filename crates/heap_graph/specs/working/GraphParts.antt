-- The parts of a graph besides its objects.
use Rattle.std.specs.Prelude.{List, count_by, filter, map, ℕ, ◌≡◌}
use Rattle.hprof_grammar.specs.Dump.{is_root}
use Rattle.hprof_grammar.specs.Record.{Record}
use Rattle.hprof_grammar.specs.Standing.{StandInTurn, Stands}
use Rattle.hprof_grammar.specs.SubRecord.{SubRecord}
use Rattle.heap_graph.specs.Heap.{heap_of}
use Rattle.heap_graph.specs.ObjectGraph.{named_classes}
use Rattle.heap_graph.specs.References.{is_unresolved, targets}
use Rattle.heap_graph.specs.Roots.{root_ids}
use Rattle.heap_graph.specs.Skips.{SkipEntry, is_skipped}
use Rattle.heap_graph.specs.declared.objects.class_entries.ClassEntry.{ClassEntry}
use Rattle.heap_graph.specs.declared.graph.classes_and_roots.Parts.{Parts}
use Rattle.heap_graph.specs.declared.names.Names.{Names}
use Rattle.heap_graph.specs.declared.objects.Objects.{Objects}
use Rattle.heap_graph.specs.declared.plan.Plan.{Plan}
use Rattle.heap_graph.specs.working.ClassFates.{HaveFatesOf}
use Rattle.heap_graph.specs.working.ClassPlans.{IsPlanOf}
use Rattle.heap_graph.specs.working.ObjectIds.{AreLinkedOf}
use Rattle.heap_graph.specs.working.PlacedNames.{AreNamesOf}
use Rattle.heap_graph.specs.working.Refinement.{named_class}

-- the classes with the texts that name them, and their plans
pub record AreNamedOf {A : Type 0} (records : List Record) (skip : List SkipEntry) (o : Objects A) (plan : Plan A)
    (classes : List ClassEntry) : Type 0 where
  pub planned : IsPlanOf (is_skipped records skip) o (heap_of records) plan
  pub classes_are : map named_class classes ≡ named_classes records

-- the objects that roots name, and the number of root identifiers that are not 0 and name no object
pub record AreRootsOf (heap : List SubRecord) (roots : List ℕ) (unresolved : ℕ) : Type 0 where
  pub roots_are : roots ≡ targets heap (root_ids heap)
  pub unresolved_is : unresolved ≡ count_by (is_unresolved heap) (root_ids heap)

-- the objects are linked; the objects, `names` and the roots at `root_places` are those of `records`
pub record MayHaveParts {A : Type 0} (records : List Record) (o : Objects A) (names : Names)
    (root_places : List ℕ) : Type 0 where
  pub linked : AreLinkedOf o (heap_of records)
  pub fates : HaveFatesOf o (heap_of records)
  pub names_are : AreNamesOf names records
  pub roots_stand : StandInTurn (Stands o.view) root_places (filter is_root (heap_of records))

-- the parts of the graph of the objects
pub record ArePartsOf {A : Type 0} (records : List Record) (skip : List SkipEntry) (o : Objects A)
    (parts : Parts A) : Type 0 where
  pub named : AreNamedOf records skip o parts.named.plan parts.named.classes.items
  pub rooted : AreRootsOf (heap_of records) parts.rooted.roots.items parts.rooted.unresolved
