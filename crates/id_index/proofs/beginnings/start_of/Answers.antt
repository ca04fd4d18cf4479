-- Buckets rise with pages, so after an extent that is in no earlier bucket no extent is in one.
use Rattle.id_index.proofs.Words.{arith, bucket_of, page_in, ℕ, ◌≤◌}
use Rattle.id_index.proofs.Buckets.{buckets_rise}
use Rattle.id_index.proofs.beginnings.start_of.Goals as goal

pub returns-then-extents-at : goal.returns-then-extents-at
returns-then-extents-at c = record {
  within = omega arith;
  before = c.loop-at.invariant;
  behind = λ k from below.
      let bucket = λ (k : ℕ). bucket_of c.args.least c.args.shift (page_in c.args.extents.now k) in
      let rise : bucket c.loop-at.at ≤ bucket k =
      buckets_rise c.args.extents.now c.args.least c.args.shift c.loop-at.at k c.requires.rise from below in
      omega (arith, rise);
}
