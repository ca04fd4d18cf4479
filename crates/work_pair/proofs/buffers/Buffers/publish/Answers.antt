-- The first position is renewed if it has objects, and then the second, which the book still backs.
use Rattle.std.proofs.Common.{refl, ◌∙◌}
use Rattle.std.proofs.lemmas.Result.{err_from_is_err_and}
use Rattle.work_pair.specs.working.Steps.{positions}
use Rattle.work_pair.proofs.Calls.{both_published, may_publish_second, may_renew_first, none_at, publish_stopped}
use Rattle.work_pair.proofs.buffers.Buffers.publish.Goals as goal

pub publish_at-requires : goal.publish_at-requires
publish_at-requires g c = may_renew_first c.requires

pub returns-in_err-publish_at-clause-publishes : goal.returns-in_err-publish_at-clause-publishes
returns-in_err-publish_at-clause-publishes g c =
    let one = c.publish_at.new in
    let p = err_from_is_err_and c.from_residual.result c.from_residual.ensures.1 in
    rw (p.1, p.2)
    (publish_stopped c.requires one.position one.third one.worker.book c.in_err-publish_at.field-0.0
    c.in_err-publish_at.ensures.publishes)

pub publish_at-requires-2 : goal.publish_at-requires-2
publish_at-requires-2 g c =
    let one = c.publish_at.new in
    may_publish_second c.requires one.position one.third one.worker.book c.in_ok-publish_at.field-0
    c.in_ok-publish_at.ensures.publishes one.worker c.publish_at.ensures.pool refl

pub returns-clause-publishes : goal.returns-clause-publishes
returns-clause-publishes g c =
    let one = c.publish_at.new in
    let two = c.publish_at-2.new in
    both_published c.requires one.position one.third one.worker.book c.in_ok-publish_at.field-0
    c.in_ok-publish_at.ensures.publishes two.position two.third two.worker.book c.publish_at-2.result
    c.publish_at-2.ensures.publishes

pub returns-clause-nothing : goal.returns-clause-nothing
returns-clause-nothing g c none =
    let m = c.args.self.now in
    let empty = none_at m.first m.second m.third none in
    let first = c.in_ok-publish_at.ensures.none empty.0 in
    let second = c.publish_at-2.ensures.none empty.1 in
    (λ k. positions (first.0 k) (second.0 k) ((second.1 ∙ first.1) k), second.2 ∙ first.2, second.3)
