-- The classes of a dump in their table, and their fates.
use Rattle.std.specs.Prelude.{List, length, ◌<◌, ◌^◌}
use Rattle.hprof_grammar.specs.Standing.{Sight}
use Rattle.hprof_grammar.specs.SubRecord.{SubRecord}
use Rattle.heap_graph.specs.declared.classes.fate.Fate.{Fate}
use Rattle.heap_graph.specs.declared.objects.Objects.{Objects}
use Rattle.heap_graph.specs.working.Chains.{AreSettled}
use Rattle.heap_graph.specs.working.ClassTable.{AreClasses, TableEntry, ids_of}

pub record HaveFates (v : Sight) (heap : List SubRecord) (entries : List TableEntry) (fates : List Fate) : Type 0 where
  pub classes : AreClasses v heap entries
  pub settled : AreSettled v.id_size heap (ids_of entries) fates
  pub few : length entries < 2 ^ 32

abbrev pub HaveFatesOf : {A : Type 0} → Objects A → List SubRecord → Type 0
HaveFatesOf o heap = HaveFates o.view heap o.classes.table.entries o.fates.items
