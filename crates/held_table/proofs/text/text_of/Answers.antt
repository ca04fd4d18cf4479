-- The texts of all joints and of all lines are the text.
use Rattle.std.proofs.Common.{[], ap, flat_map, ◌++◌, ◌∙◌}
use Rattle.held_table.specs.TableText.{joint_line, table_line}
use Rattle.held_table.proofs.TextLaws.{all_appended}
use Rattle.held_table.proofs.text.text_of.Goals as goal

pub returns : goal.returns
returns g c =
    let joints = all_appended joint_line c.loop-joint.joint-index [] c.deref-joint-items.ensures.value
    c.loop-joint-test.false c.loop-joint.invariant in
    all_appended (table_line c.args.graph.now) c.loop-line.line-index c.loop-joint.text.items
    c.deref-line-items.ensures.value c.loop-line-test.false c.loop-line.invariant
    ∙ ap (λ text. text ++ flat_map (table_line c.args.graph.now) c.args.table.now.lines.items) joints
