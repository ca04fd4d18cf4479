-- The buffers before the current one have their links.
use Rattle.std.proofs.Common.{◌≡◌, ℕ, ◌<◌, None, vec_len, get_or}
use Rattle.mark_core.specs.Runs.{first_link}
use Rattle.mark_core.proofs.state.opening.links_of.Given as goal

abbrev pub invariant-loop-buffer : goal.invariant-loop-buffer
invariant-loop-buffer g l = (vec_len l.links ≡ l.buffer)
    × ((i : ℕ) → i < l.buffer → get_or l.links.items i None ≡ first_link l.buffers i)
