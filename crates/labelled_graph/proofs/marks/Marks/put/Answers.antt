-- An insertion writes at one place.
use Rattle.std.proofs.Common.{arith}
use Rattle.labelled_graph.proofs.Maps.{other_place}
use Rattle.labelled_graph.proofs.marks.Marks.put.Goals as goal

pub returns : goal.returns
returns g c =
    let updates = c.in_ok-insert.ensures.updates in
    record {
      low = omega arith;
      here = updates.1;
      others = λ k i apart. updates.2 (k, i) (other_place c.args.key c.args.index k i apart);
    }
