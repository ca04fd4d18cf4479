-- The extent before it is of a smaller page, or there is none. So no extent before it is of its page.
use Rattle.id_index.proofs.Words.{arith, page_in, ℕ, ◌-◌, ◌/◌, ◌<◌, ◌≤◌}
use Rattle.id_index.proofs.Bearers.{bearer_at}
use Rattle.id_index.proofs.extent_look_up.number_at.Goals as goal
use Rattle.id_index.proofs.extent_look_up.number_at.Goals.{else-at-gt0-via-else-at-gt0}
use Rattle.id_index.proofs.extent_look_up.number_at.Goals.{else-at-gt0-via-then-at-gt0+else-extents-at-2}

pub returns-clause-some : goal.returns-clause-some
returns-clause-some c =
    let extents = c.args.extents.now in
    let at = c.args.at in
    let below : (k : ℕ) → k < at → page_in extents k < c.args.id / 64 =
    λ k less. elim c.else-at-gt0.branch [
      | else-at-gt0-via-then-at-gt0+else-extents-at-2 w ↦
          let rise : page_in extents k ≤ page_in extents (at - 1) =
          c.requires.rise k (at - 1) (omega (arith, less)) (omega (arith, less, c.if-at-extents.false)) in
          omega (arith, rise, w.if-extents-at-2.false)
      | else-at-gt0-via-else-at-gt0 w ↦ absurd (omega (arith, less, w.if-at-gt0.false))
    ] in
    bearer_at extents c.args.id at (omega (arith, c.if-at-extents.false)) c.if-extents-at.false below
    c.number_at_granule.result c.number_at_granule.ensures
