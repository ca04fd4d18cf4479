-- The way down ends at the last extent of a smaller page or at the low end, the way up at the first extent of no
-- smaller page.
use Rattle.id_index.proofs.Words.{arith, page_in, ◌-◌, ◌≤◌}
use Rattle.id_index.proofs.Halving.{first_in_turn}
use Rattle.id_index.proofs.page_search.first_from.Goals as goal
use Rattle.id_index.proofs.page_search.first_from.Goals.{else-loop-at-test, then-loop-at-test+else-page}
use Rattle.id_index.proofs.page_search.first_from.Goals.{else-loop-at-2-test, then-loop-at-2-test+else-page-2}

pub loop-at-2-init : goal.loop-at-2-init
loop-at-2-init c =
    let around = c.loop-at.invariant.0 in (
      around,
      c.loop-at.invariant.2,
      elim c.loop-at-test.branch [
        | then-loop-at-test+else-page w ↦ λ k h.
            let rise : page_in c.args.extents.now k ≤ page_in c.args.extents.now (c.loop-at.at - 1) =
            c.requires.rise k (c.loop-at.at - 1) (omega (arith, h))
            (omega (arith, h, c.loop-at.invariant.2, around.within)) in
            omega (arith, rise, w.if-page.false)
        | else-loop-at-test w ↦ λ k h. around.before k (omega (arith, h, w.loop-at-test.false))
      ],
      elim c.loop-at-test.branch [
        | then-loop-at-test+else-page w ↦ rw w.probes-is (omega (arith, c.loop-at.invariant))
        | else-loop-at-test w ↦ rw w.probes-is (omega (arith, c.loop-at.invariant))
      ],
    )

pub returns-clause-first : goal.returns-clause-first
returns-clause-first c =
    let around = c.loop-at-2.invariant.0 in
    elim c.loop-at-2-test.branch [
      | then-loop-at-2-test+else-page-2 w ↦
          first_in_turn c.args.extents.now c.args.page c.loop-at-2.at c.requires.rise
          (omega (arith, w.loop-at-2-test.true, around.within)) c.loop-at-2.invariant.2
          (omega (arith, w.if-page-2.false))
      | else-loop-at-2-test w ↦ record {
        within = omega (arith, c.loop-at-2.invariant.1, around.within);
        below = c.loop-at-2.invariant.2;
        above = λ k from inside. around.behind k (omega (arith, from, w.loop-at-2-test.false)) inside;
      }
    ]
