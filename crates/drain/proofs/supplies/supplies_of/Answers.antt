-- Each tally has a row for each row of the graph's measure, so each is of no object.
use Rattle.drain.proofs.Words.{arith, sym}
use Rattle.drain.proofs.supplies.supplies_of.Goals as goal

pub returns-clause-tallies : goal.returns-clause-tallies
returns-clause-tallies g c =
    let m = g.V.Measured.measure c.args.job.now.graph.now in
    (omega (arith, c.in_ok-tallies.ensures.count), c.in_ok-tallies.ensures.none m (sym c.rows-rows.ensures))

pub returns-clause-tally : goal.returns-clause-tally
returns-clause-tally g c =
    c.in_ok-tally.ensures (g.V.Measured.measure c.args.job.now.graph.now) (sym c.rows-rows.ensures)
