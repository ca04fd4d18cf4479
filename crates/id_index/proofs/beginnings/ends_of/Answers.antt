-- Pages rise along the extents, so the first is the least and the last one the greatest.
use Rattle.std.proofs.Common.{arith, length, ◌-◌}
use Rattle.id_index.proofs.beginnings.ends_of.Goals as goal

pub returns-in_default-clause-order : goal.returns-in_default-clause-order
returns-in_default-clause-order c =
    c.requires 0 (length c.args.extents.now - 1) (omega arith) (omega arith)

pub returns-in_default-clause-low : goal.returns-in_default-clause-low
returns-in_default-clause-low c = λ k h. c.requires 0 k (omega arith) h

pub returns-in_default-clause-high : goal.returns-in_default-clause-high
returns-in_default-clause-high c =
    λ k h. c.requires k (length c.args.extents.now - 1) (omega arith) (omega arith)
