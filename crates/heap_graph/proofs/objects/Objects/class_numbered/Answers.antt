-- The class exists, so the table has it. In a linked heap its number in the table is its number among the class dumps.
use Rattle.std.proofs.Common.{refl, sym}
use Rattle.heap_graph.proofs.ClassTableLaws.{not_found}
use Rattle.heap_graph.proofs.EntryLaws.{number_told}
use Rattle.heap_graph.proofs.objects.Objects.class_numbered.Goals as goal

pub returns-in-Some-clause-number : goal.returns-in-Some-clause-number
returns-in-Some-clause-number g c = λ heap linked told.
    number_told _ _ _ _ _ _ _ told c.in-Some.ensures refl linked.linked

pub unreachable-requires : goal.unreachable-requires
unreachable-requires g c = c.requires.3 (not_found _ _ _ _ c.requires.2.classes (sym c.in-None.ensures))
