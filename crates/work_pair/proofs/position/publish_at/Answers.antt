-- A position without objects stays as it is. Any other is renewed, after which it has no objects, or no empty buffer
-- was found.
use Rattle.std.proofs.Common.{◌≤◌, length, arith}
use Rattle.work_pair.specs.PairState.{items_at}
use Rattle.work_pair.proofs.Calls.{publish_renewed, some_items}
use Rattle.work_pair.proofs.Renewing.{publish_nothing}
use Rattle.work_pair.proofs.Trading.{none_in}
use Rattle.work_pair.proofs.position.publish_at.Goals as goal

pub returns-then-len_at-eq0-clause-publishes : goal.returns-then-len_at-eq0-clause-publishes
returns-then-len_at-eq0-clause-publishes g c =
    let position = c.args.position.now in
    let none : length (items_at position) ≤ 0 = omega (arith, c.if-len_at-eq0.true, c.len_at.ensures) in
    publish_nothing c.requires (none_in (items_at position) none)

pub returns-clause-publishes : goal.returns-clause-publishes
returns-clause-publishes g c =
    let n = c.renew.new in
    let position = c.args.position.now in
    publish_renewed position c.args.worker.now.book n.position n.third n.worker.book c.in_ok-renew.field-0
    (some_items (items_at position)
    (omega (arith, c.if-len_at-eq0.false, c.len_at.ensures))) c.in_ok-renew.ensures.renews
