-- The extent at `at` shows on which side of it the first extent of a page is.
use Rattle.std.proofs.Common.{arith}
use Rattle.id_index.proofs.Halving.{lower_half, upper_half}
use Rattle.id_index.proofs.page_search.after_probe.Goals as goal

pub returns-then-page-clause-around : goal.returns-then-page-clause-around
returns-then-page-clause-around c =
    upper_half c.args.extents.now c.requires.rise c.args.page c.args.low c.args.high c.args.at c.requires.around
    (omega (arith, c.if-at-low.false)) (omega (arith, c.if-at-high.false))
    (omega (arith, c.page.ensures.page, c.if-page.true))

pub returns-else-page-clause-around : goal.returns-else-page-clause-around
returns-else-page-clause-around c =
    lower_half c.args.extents.now c.requires.rise c.args.page c.args.low c.args.high c.args.at c.requires.around
    (omega (arith, c.if-at-low.false)) (omega (arith, c.if-at-high.false))
    (omega (arith, c.page.ensures.page, c.if-page.false))
