-- The next worker is still back for the leader, which joins it; the others are as before.
use Rattle.drain.proofs.Words.{IsMeasureOf, Setup, arith, get_or, into_iter_items, into_iter_len, subst, sym, ◌∙◌}
use Rattle.drain.proofs.Duties.{Back, back_still}
use Rattle.drain.proofs.Each.{first_holds, others_hold}
use Rattle.drain.proofs.Leading.{leads_again, leads_at_all}
use Rattle.drain.proofs.joins.join_shares.Goals as goal

pub loop-other-init : goal.loop-other-init
loop-other-init g c =
    let given = c.into_iter-other-iterator.ensures.into_iter_gives in
    let begun = c.args.leader.worker in
    let m = g.V.Measured.measure c.args.graph.now in (
      leads_at_all begun,
      c.requires.free,
      omega (arith, given.1),
      λ k d below. subst (λ xs. Back m begun (get_or xs k d)) (sym given.0)
          (c.requires.back k d (omega (arith, below, given.1))),
      c.requires.tally,
    )

pub join_share-leader-requires-clause-pool : goal.join_share-leader-requires-clause-pool
join_share-leader-requires-clause-pool g c = c.loop-other.invariant.0.pool ∙ c.requires.pool

pub join_share-leader-requires-clause-back : goal.join_share-leader-requires-clause-back
join_share-leader-requires-clause-back g c =
    let was = c.loop-other.invariant in
    let step = c.in-Some.ensures.steps in
    let m = g.V.Measured.measure c.args.graph.now in
    let begun = c.args.leader.worker in
    let now = c.loop-other.other-iterator in
    let back =
    first_holds (Back m begun) (into_iter_len now) (into_iter_items now) (into_iter_items c.next.new.self)
    c.in-Some.other step.0 was.3 (omega (arith, step.1)) in
    back_still c.loop-other.leader.worker was.0.pool was.0.setup back

pub join_share-leader-requires-clause-measure : goal.join_share-leader-requires-clause-measure
join_share-leader-requires-clause-measure g c =
    let m = g.V.Measured.measure c.args.graph.now in
    subst (λ (e : Setup). IsMeasureOf e.objects m) (sym c.loop-other.invariant.0.setup) c.requires.measure

pub loop-other-preserved : goal.loop-other-preserved
loop-other-preserved g c =
    let was = c.loop-other.invariant in
    let step = c.in-Some.ensures.steps in
    let begun = c.args.leader.worker in
    let m = g.V.Measured.measure c.args.graph.now in
    let now = c.loop-other.other-iterator in
    let took = c.join_share-leader in (
      leads_again was.0 took.ensures.leads,
      took.ensures.free,
      omega (arith, took.ensures.share, was.2, step.1),
      others_hold (Back m begun) (into_iter_len now) (into_iter_items now) (into_iter_items c.next.new.self)
          c.in-Some.other step.0 was.3 (into_iter_len c.next.new.self) step.1,
      took.ensures.tally,
    )
