-- The second buffer is pushed if it has objects, or else the lower part of the first if that has more than four.
use Rattle.std.proofs.Common.{arith}
use Rattle.std.proofs.lemmas.Result.{err_from_is_err_and}
use Rattle.work_pair.specs.PairState.{items_at}
use Rattle.work_pair.proofs.Calls.{few_left, first_balanced, first_stopped, may_renew_first, may_renew_second}
use Rattle.work_pair.proofs.Calls.{second_balanced, second_stopped, some_items}
use Rattle.work_pair.proofs.Trading.{none_in}
use Rattle.work_pair.proofs.buffers.Buffers.balance.Goals as goal

pub renew-requires : goal.renew-requires
renew-requires g c = may_renew_second c.requires

pub halve-requires : goal.halve-requires
halve-requires g c = may_renew_first c.requires

pub returns-in_err-renew-clause-balances : goal.returns-in_err-renew-clause-balances
returns-in_err-renew-clause-balances g c =
    let n = c.renew.new in
    let p = err_from_is_err_and c.from_residual.result c.from_residual.ensures.1 in
    rw (p.1, p.2)
    (second_stopped c.requires n.position n.third n.worker.book c.in_err-renew.field-0.0 c.in_err-renew.ensures.renews)

pub returns-in_err-halve-clause-balances : goal.returns-in_err-halve-clause-balances
returns-in_err-halve-clause-balances g c =
    let n = c.halve.new in
    let p = err_from_is_err_and c.from_residual-in_err-halve.result c.from_residual-in_err-halve.ensures.1 in
    rw (p.1, p.2)
    (first_stopped c.requires n.position n.third n.worker.book c.in_err-halve.field-0.0 c.in_err-halve.ensures.renews)

pub returns-in_ok-renew-clause-balances : goal.returns-in_ok-renew-clause-balances
returns-in_ok-renew-clause-balances g c =
    let n = c.renew.new in
    second_balanced c.requires n.position n.third n.worker.book c.in_ok-renew.field-0 c.in_ok-renew.ensures.renews
    (some_items (items_at c.args.self.now.second) (omega (arith, c.if-len_at-gt0.true, c.len_at.ensures)))

pub returns-in_ok-halve-clause-balances : goal.returns-in_ok-halve-clause-balances
returns-in_ok-halve-clause-balances g c =
    let n = c.halve.new in
    first_balanced c.requires n.position n.third n.worker.book c.in_ok-halve.field-0 c.in_ok-halve.ensures.renews
    (omega (arith, c.if-len_at-gt-FEW.true, c.len_at-else-len_at-gt0.ensures))
    (none_in (items_at c.args.self.now.second) (omega (arith, c.if-len_at-gt0.false, c.len_at.ensures)))

pub returns-else-len_at-gt-FEW-clause-balances : goal.returns-else-len_at-gt-FEW-clause-balances
returns-else-len_at-gt-FEW-clause-balances g c =
    few_left c.requires (omega (arith, c.if-len_at-gt0.false, c.len_at.ensures))
    (omega (arith, c.if-len_at-gt-FEW.false, c.len_at-else-len_at-gt0.ensures))
