-- The list has room for all slots from the start, and each pushed slot has a new buffer of the required size.
use Rattle.buffer_pool.proofs.Words.{All, IsFirstSlot, arith, buffer_reading, subst, sym, ◌∙◌}
use Rattle.buffer_pool.proofs.Starts.{slot_pushed}
use Rattle.buffer_pool.proofs.pool.slots.first_slots.Goals as goal

pub loop-alloc-preserved : goal.loop-alloc-preserved
loop-alloc-preserved g c =
    record {
      room = c.push_reserved.ensures.capacity ∙ c.loop-alloc.invariant.room;
      within = omega (arith, c.push_reserved.ensures.len, c.loop-alloc-test.true);
      slots =
          subst (All (IsFirstSlot buffer_reading c.args.size)) (sym c.push_reserved.ensures.items)
          (slot_pushed buffer_reading c.args.size c.loop-alloc.slots.items c.in_ok-new.field-0
          c.loop-alloc.invariant.slots c.in_ok-new.ensures.0 c.in_ok-new.ensures.1);
    }
