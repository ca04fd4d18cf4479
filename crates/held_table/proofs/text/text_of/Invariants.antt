-- The texts of the first joints, then those of the first lines.
use Rattle.std.proofs.Common.{flat_map, take, ◌++◌, ◌≡◌}
use Rattle.held_table.specs.TableText.{joint_line, table_line}
use Rattle.held_table.proofs.text.text_of.Given as goal

abbrev pub invariant-loop-joint : goal.invariant-loop-joint
invariant-loop-joint g l = l.text.items ≡ flat_map joint_line (take l.joint-index l.joint-items)

abbrev pub invariant-loop-line : goal.invariant-loop-line
invariant-loop-line g l =
    l.text.items ≡ l.initial.text.items ++ flat_map (table_line l.graph) (take l.line-index l.line-items)
