-- The joined workers are back for each leader to which all threads have a duty, the other threads still have theirs,
-- and there is room.
use Rattle.drain.proofs.Words.{AreBackUnder, Owner, IsDutyUnder, get_or, into_iter_items, into_iter_len, vec_capacity}
use Rattle.drain.proofs.Words.{vec_len, ℕ, ◌+◌, ◌<◌, ◌≡◌, ◌≤◌}
use Rattle.drain.proofs.worker_threads.join_all.Given as goal

abbrev pub invariant-loop-thread : goal.invariant-loop-thread
invariant-loop-thread g l =
    let rest = l.thread-iterator in
    let all = l.fn.threads in
    (vec_len l.back + into_iter_len rest ≡ vec_len all)
    × (vec_len all ≤ vec_capacity l.back)
    × ((graph : _) (leader : Owner) → ((k : ℕ) (t : _) → k < vec_len all
    → IsDutyUnder graph leader (get_or all.items k t).promise)
    → ((k : ℕ) (t : _) → k < into_iter_len rest → IsDutyUnder graph leader (get_or (into_iter_items rest) k t).promise)
    × AreBackUnder (g.V.Measured.measure graph) leader l.back.items)
