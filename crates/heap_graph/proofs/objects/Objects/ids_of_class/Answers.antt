-- A class holds what is read of its dump, whose form allows no more than the walk has room for.
use Rattle.heap_graph.proofs.Words.{ap, arith, bounds, length}
use Rattle.heap_graph.proofs.ObjectIdLaws.{class_holds, few_in_class}
use Rattle.heap_graph.proofs.objects.Objects.ids_of_class.Goals as goal

pub invariant_of-result : goal.invariant_of-result
invariant_of-result g c =
    omega (
      arith,
      ap length (c.new-ids.ensures c.requires.dump.0 c.requires.dump.1),
      few_in_class c.args.self.now.view.id_size c.requires.dump.0 (bounds c.requires.dump.1.is.formed),
    )

pub returns : goal.returns
returns g c = λ skips heap d stands.
    class_holds skips c.args.self.now.view.id_size heap d c.new-ids.result (bounds stands.is.formed)
    (c.new-ids.ensures d stands)
