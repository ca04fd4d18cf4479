-- The opening meets the law, and its tables are as long as the setup says: so it is a world.
use Rattle.std.proofs.Common.{ap, sym, arith, ◌∙◌}
use Rattle.mark_core.proofs.Words.{Setup, opening}
use Rattle.mark_core.proofs.Begins.{lawful_opening}
use Rattle.mark_core.proofs.world.World.new.Goals as goal

pub invariant_of-result : goal.invariant_of-result
invariant_of-result g c =
    let made = c.in_ok-state.ensures in
    lawful_opening _ _ c.args.first_tag made.marking made.setup made.links made.slots made.marks
    (omega arith) c.requires.buffers.1 c.requires.rooted c.requires.paired

pub returns-clause-opening : goal.returns-clause-opening
returns-clause-opening g c = c.in_ok-state.ensures.marking
    ∙ sym (ap (λ (e : Setup). opening e e.first_tag) c.in_ok-state.ensures.setup)
