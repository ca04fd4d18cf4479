-- At most one request is refused if `refused_request` has a number: the quota's `alone` is true then, so the clause
-- `one` of `Quota::refused` applies.
use Rattle.std.proofs.Common.{◌≡◌, ℕ, Bool, true, false, Some, refl}
use Rattle.std.proofs.lemmas.Option.{none-some}
use Rattle.limited_heap.specs.Limit.{alone_of}
use Rattle.limited_heap.proofs.heap.LimitedHeap.refusals.Goals as goal

is_alone : (b : Bool) (m n : ℕ) → alone_of b m ≡ Some n → b ≡ true
is_alone true m n e = refl
is_alone false m n e = absurd (none-some n e)

pub returns-clause-one : goal.returns-clause-one
returns-clause-one g c n e =
    let quota = c.args.self.now.quota in
    c.refused.ensures.one (is_alone quota.alone quota.granted n e)
