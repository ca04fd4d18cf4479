-- A turn adds one slot with a buffer without items after those already made.
use Rattle.std.proofs.Common.{Some, [], ◌∷◌, ◌++◌, ap, ◌∙◌}
use Rattle.mark_core.proofs.Begins.{one_more}
use Rattle.mark_core.proofs.state.opening.slots_of.Goals as goal

pub loop-preserved : goal.loop-preserved
loop-preserved g c = one_more c.loop.slots.items c.push.new.self.items c.loop.counter (Some []) c.loop.invariant
    (c.in_ok-push.ensures.items ∙ ap (λ x. c.loop.slots.items ++ Some x ∷ []) c.new.ensures)
