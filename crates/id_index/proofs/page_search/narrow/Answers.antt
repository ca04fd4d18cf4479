-- Each probe halves the range, and after 58 halvings at most 64 of fewer than 2^64 extents are left.
use Rattle.id_index.proofs.Words.{arith, inl, inr, pow_mono, ◌-◌, ◌/◌, ◌^◌, ◌≤◌}
use Rattle.id_index.proofs.Halving.{half_left, probe_left}
use Rattle.id_index.proofs.page_search.narrow.Goals as goal

pub loop-high-init : goal.loop-high-init
loop-high-init c =
    let left : 58 ≤ c.after_probe-2.new.probes.left = omega arith in
    let all : 2 ^ 58 ≤ 2 ^ c.after_probe-2.new.probes.left = pow_mono left in
    (c.after_probe-2.ensures.around, omega (arith, all, c.after_probe.ensures.within, c.after_probe-2.ensures.within))

pub after_probe-requires-in-loop-high-clause-probe : goal.after_probe-requires-in-loop-high-clause-probe
after_probe-requires-in-loop-high-clause-probe c =
    probe_left c.loop-high.probes.left (c.loop-high.high - c.loop-high.low) c.loop-high-test.true
    c.loop-high.invariant.1

pub loop-high-preserved : goal.loop-high-preserved
loop-high-preserved c =
    let answer = c.after_probe-in-loop-high in
    let many = c.loop-high.high - c.loop-high.low in
    let halved : answer.result.1 - answer.result.0 ≤ many / 2 =
    elim (answer.ensures.past (omega arith) (omega (arith, c.loop-high-test.true))) [
      | inl before ↦ omega (arith, before, answer.ensures.within)
      | inr behind ↦ omega (arith, behind, answer.ensures.within)
    ] in (
      answer.ensures.around,
      half_left c.loop-high.probes.left answer.new.probes.left many (answer.result.1 - answer.result.0)
          c.loop-high.invariant.1 answer.ensures.probe halved,
    )

pub loop-high-smaller : goal.loop-high-smaller
loop-high-smaller c =
    let answer = c.after_probe-in-loop-high in
    elim (answer.ensures.past (omega arith) (omega (arith, c.loop-high-test.true))) [
      | inl before ↦ omega (arith, before, answer.ensures.within, c.loop-high-test.true)
      | inr behind ↦ omega (arith, behind, answer.ensures.within, c.loop-high-test.true)
    ]
