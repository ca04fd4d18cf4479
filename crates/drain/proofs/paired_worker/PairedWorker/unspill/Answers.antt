-- Each object that is put again makes the spill list shorter, or is the last that is put.
use Rattle.drain.proofs.Words.{arith, cases_lt, false≢true, length, sym, ⊎_elim, ◌∙◌}
use Rattle.drain.specs.working.Giving.Unspills.{last, more, none}
use Rattle.drain.proofs.AtHand.{goes_on_again}
use Rattle.drain.proofs.Giving.{none_of}
use Rattle.drain.proofs.paired_worker.PairedWorker.unspill.Goals as goal

pub loop-self-preserved : goal.loop-self-preserved
loop-self-preserved g c =
    let was = c.loop-self.invariant in
    let old = c.loop-self.self in
    let mid = c.unspill_one.new.self in
    let one = c.in_ok-unspill_one.ensures in
    let fewer = one.fewer.0 c.if-not-branch.false in (
      goes_on_again was.0 one.goes_on,
      one.at_work,
      λ new after rest. was.2 new after
          (more old.pair old.worker.book mid.pair mid.worker.book new after one.again fewer rest),
    )

pub returns-then-not-branch-clause-unspills : goal.returns-then-not-branch-clause-unspills
returns-then-not-branch-clause-unspills g c =
    let old = c.loop-self.self in
    let new = c.unspill_one.new.self in
    let one = c.in_ok-unspill_one.ensures in
    let same = ⊎_elim (λ fewer. absurd (false≢true (sym c.if-not-branch.true ∙ one.fewer.1 fewer))) (λ h. h)
    (cases_lt (length new.pair.spill) (length old.pair.spill)) in
    c.loop-self.invariant.2 new.pair new.worker.book
    (last old.pair old.worker.book new.pair new.worker.book one.again same)

pub returns-clause-unspills : goal.returns-clause-unspills
returns-clause-unspills g c =
    let end = c.loop-self.self in
    let empty = none_of end.pair.spill (omega (arith, c.spilled.ensures, c.loop-self-test.false)) in
    c.loop-self.invariant.2 end.pair end.worker.book (none end.pair end.worker.book empty)
