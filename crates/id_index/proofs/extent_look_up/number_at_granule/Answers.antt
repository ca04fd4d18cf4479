-- The highest bit is that of the granule, and the bits below it are those below the granule.
use Rattle.id_index.proofs.Words.{arith, bit_at, ◌≡◌}
use Rattle.id_index.proofs.Ones.{ones_up_to, rank_less_than_all, top_bit, top_bit_not}
use Rattle.id_index.proofs.extent_look_up.number_at_granule.Goals as goal

pub returns-then-up_to : goal.returns-then-up_to
returns-then-up_to c = top_bit_not c.args.extent.granules c.args.granule c.requires.granule c.if-up_to.true

pub overflow_sub-result : goal.overflow_sub-result
overflow_sub-result c =
    let set : bit_at c.args.extent.granules c.args.granule ≡ 1 =
    top_bit c.args.extent.granules c.args.granule c.requires.granule c.if-up_to.false in
    omega (arith, set, ones_up_to c.args.extent.granules c.args.granule c.requires.granule)

pub overflow_add-result : goal.overflow_add-result
overflow_add-result c =
    let set : bit_at c.args.extent.granules c.args.granule ≡ 1 =
    top_bit c.args.extent.granules c.args.granule c.requires.granule c.if-up_to.false in
    omega (
      arith,
      set,
      ones_up_to c.args.extent.granules c.args.granule c.requires.granule,
      rank_less_than_all c.args.extent.granules c.args.granule set,
    )

pub returns : goal.returns
returns c =
    let set : bit_at c.args.extent.granules c.args.granule ≡ 1 =
    top_bit c.args.extent.granules c.args.granule c.requires.granule c.if-up_to.false in
    record {
      set = set;
      number_is =
          omega (arith, set, ones_up_to c.args.extent.granules c.args.granule c.requires.granule);
    }
