-- A number that is in the list is removed. One that is missing shows that the numbers are no part of the list.
use Rattle.std.proofs.Common.{refl, arith}
use Rattle.mark_core.proofs.Taking.{takes_more, takes_stop, false_is_not_true}
use Rattle.mark_core.proofs.numbers.Numbers.take_all.Goals as goal

pub returns-then-not-take_one-clause-part : goal.returns-then-not-take_one-clause-part
returns-then-not-take_one-clause-part g c =
    let away = takes_stop _ _ _ c.loop-number.number-index (omega arith) c.loop-number.invariant
    (λ here. false_is_not_true (c.if-not-take_one.ensures.there.1 here)) in
    (λ no. absurd (false_is_not_true no), λ part. absurd (away part))

pub loop-number-preserved : goal.loop-number-preserved
loop-number-preserved g c =
    rw c.take_one.ensures.left (takes_more _ _ _ c.loop-number.number-index (omega arith) c.loop-number.invariant
    (c.if-not-take_one.ensures.there.0 refl))
