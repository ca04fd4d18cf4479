-- Seven pieces follow one another.
use Rattle.held_table.proofs.TextLaws.{joint_appended}
use Rattle.held_table.proofs.text.append_joint.Goals as goal

pub returns : goal.returns
returns g c =
    joint_appended c.args.out.now.items c.args.joint c.in_ok-extend_from_slice.ensures.items c.in_ok-append_set.ensures
    c.in_ok-extend_from_slice-2.ensures.items c.in_ok-append_set-2.ensures c.in_ok-extend_from_slice-3.ensures.items
    c.in_ok-append_set-3.ensures c.in_ok-push.ensures.items
