-- The effect of a publication on the buffers is one on the pair, whose list is as it was.
use Rattle.std.proofs.lemmas.Result.{on_ok_weaker}
use Rattle.work_pair.proofs.Pairs.{may_trade, publishes}
use Rattle.work_pair.proofs.pair.Pair.publish.Goals as goal

pub publish-result-requires : goal.publish-result-requires
publish-result-requires g c =
    may_trade c.self.inside c.self.view_is c.requires.pool c.requires.going c.requires.backed c.requires.busy

pub returns-clause-published : goal.returns-clause-published
returns-clause-published g c =
    on_ok_weaker c.publish-result.result (λ both. both.0)
    (publishes c.self.inside c.self.view_is c.args.worker.now.book c.publish-result.new.self
    c.publish-result.new.worker.book c.requires.backed c.publish-result.result c.is_err-self-inside.ensures.value
    c.publish-result.ensures.publishes).0

pub returns-clause-publishes : goal.returns-clause-publishes
returns-clause-publishes g c =
    (publishes c.self.inside c.self.view_is c.args.worker.now.book c.publish-result.new.self
    c.publish-result.new.worker.book c.requires.backed c.publish-result.result c.is_err-self-inside.ensures.value
    c.publish-result.ensures.publishes).0

pub returns-clause-spent : goal.returns-clause-spent
returns-clause-spent g c =
    (publishes c.self.inside c.self.view_is c.args.worker.now.book c.publish-result.new.self
    c.publish-result.new.worker.book c.requires.backed c.publish-result.result c.is_err-self-inside.ensures.value
    c.publish-result.ensures.publishes).1
