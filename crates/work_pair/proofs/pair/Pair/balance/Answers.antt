-- The effect of a balance on the buffers is one on the pair, whose list is as it was.
use Rattle.std.proofs.Common.{rules, subst}
use Rattle.work_pair.specs.CallEffects.{HasMore}
use Rattle.work_pair.proofs.Pairs.{balances, may_trade}
use Rattle.work_pair.proofs.pair.Pair.balance.Goals as goal

pub balance-result-requires : goal.balance-result-requires
balance-result-requires g c =
    may_trade c.self.inside c.self.view_is c.requires.pool c.requires.going c.requires.backed c.requires.busy

pub returns-clause-balances : goal.returns-clause-balances
returns-clause-balances g c =
    (balances c.self.inside c.self.view_is c.args.worker.now.book c.balance-result.new.self
    c.balance-result.new.worker.book c.requires.backed c.balance-result.result c.is_err-self-inside.ensures.value
    c.balance-result.ensures.balances).0

pub returns-clause-few : goal.returns-clause-few
returns-clause-few g c few =
    let same = c.balance-result.ensures.few (λ more. few (subst HasMore c.self.view_is more)) in
    search (rules, same, c.self.view_is)

pub returns-clause-spent : goal.returns-clause-spent
returns-clause-spent g c =
    (balances c.self.inside c.self.view_is c.args.worker.now.book c.balance-result.new.self
    c.balance-result.new.worker.book c.requires.backed c.balance-result.result c.is_err-self-inside.ensures.value
    c.balance-result.ensures.balances).1
