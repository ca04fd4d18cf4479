-- The leader took in the joined workers and is free, and its tally is of all that it has finished. The others are still
-- back.
use Rattle.drain.proofs.Words.{HasTallied, IsFree, Leads, get_or, into_iter_items, into_iter_len, vec_len, ℕ, ◌+◌, ◌<◌}
use Rattle.drain.proofs.Words.{◌≡◌}
use Rattle.drain.proofs.Duties.{Back}
use Rattle.drain.proofs.joins.join_shares.Given as goal

abbrev pub invariant-loop-other : goal.invariant-loop-other
invariant-loop-other g l =
    let rest = l.other-iterator in
    let begun = l.initial.leader.worker in
    let m = g.V.Measured.measure l.graph in
    Leads begun l.leader.worker
    × IsFree l.leader.worker
    × (l.leader.worker.book.account.share + into_iter_len rest ≡ begun.book.account.share + vec_len l.fn.back)
    × ((k : ℕ) (d : _) → k < into_iter_len rest → Back m begun (get_or (into_iter_items rest) k d))
    × HasTallied m l.leader.worker l.leader.tally
