-- The links of the buffers before the current one are laid.
use Rattle.buffer_pool.proofs.Words.{HasFirstWords, ◌<◌}
use Rattle.buffer_pool.proofs.pool.opening.first_words.Given as goal

abbrev pub invariant-loop-next : goal.invariant-loop-next
invariant-loop-next g l = record { words : HasFirstWords l.count l.first_tag l.next l.words.items; some : 0 < l.next }
