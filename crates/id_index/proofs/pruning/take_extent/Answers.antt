-- Bits of two words fit a word.
use Rattle.std.proofs.lemmas.Nat.{or_lt}
use Rattle.id_index.proofs.pruning.take_extent.Goals as goal

pub returns-then-granules-seen-clause-fits : goal.returns-then-granules-seen-clause-fits
returns-then-granules-seen-clause-fits g c =
    or_lt 64 c.args.seen c.args.granules c.ranges.seen.fits c.ranges.granules.fits

pub returns-clause-fits : goal.returns-clause-fits
returns-clause-fits g c = or_lt 64 c.args.seen c.args.granules c.ranges.seen.fits c.ranges.granules.fits
