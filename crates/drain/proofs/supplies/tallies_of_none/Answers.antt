-- There is room for each tally, and each new one is of no object, like those before it.
use Rattle.drain.proofs.Words.{All, Tallies, [], arith, subst, sym}
use Rattle.drain.proofs.Each.{more_hold}
use Rattle.drain.proofs.supplies.tallies_of_none.Goals as goal

pub loop-alloc-preserved : goal.loop-alloc-preserved
loop-alloc-preserved g c = (
  omega (arith, c.push_reserved.ensures.capacity, c.loop-alloc.invariant.0),
  omega (arith, c.push_reserved.ensures.len, c.loop-alloc-test.true),
  λ m rows. subst (All (Tallies m [])) (sym c.push_reserved.ensures.items)
      (more_hold (Tallies m []) c.loop-alloc.tallies.items c.in_ok-new.field-0 (c.loop-alloc.invariant.2 m rows)
      (c.in_ok-new.ensures m rows)),
)
