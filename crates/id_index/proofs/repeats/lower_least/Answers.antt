-- The lowest granule that was seen before has the least number of them all.
use Rattle.id_index.proofs.Words.{ap, arith, bit_and, min, trailing_zeros, w64, ℕ, ◌+◌, ◌∙◌}
use Rattle.id_index.proofs.Repeating.{lowered_by, none_lowered}
use Rattle.id_index.proofs.Pruned.{before_end}
use Rattle.id_index.proofs.repeats.lower_least.Goals as goal

pub returns-then-again-eq0 : goal.returns-then-again-eq0
returns-then-again-eq0 c = none_lowered c.args.extent c.args.before c.args.least c.if-again-eq0.true

pub overflow_add-extent : goal.overflow_add-extent
overflow_add-extent c =
    let granule : ℕ = trailing_zeros w64 (bit_and c.args.extent.granules c.args.before) in
    omega (arith, c.requires, c.rank_in.ensures, before_end c.args.extent granule)

pub returns : goal.returns
returns c =
    lowered_by c.args.extent c.args.before c.args.least c.min.result c.ranges.before.fits c.if-again-eq0.false
    (c.min.ensures ∙ ap (λ (r : ℕ). min c.args.least (c.args.extent.first + r)) c.rank_in.ensures)
