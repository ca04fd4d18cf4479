-- The object comes from the first buffer, or from the second after the two exchanged positions.
use Rattle.std.proofs.Common.{◌∙◌}
use Rattle.work_pair.proofs.Locals.{taken_first, taken_second}
use Rattle.work_pair.proofs.buffers.Buffers.take.Goals as goal

pub returns-in-Some : goal.returns-in-Some
returns-in-Some g c =
    let m = c.args.self.now in
    taken_first m.first m.second m.third c.take_at.new.position c.in-Some.object c.in-Some.ensures

pub returns : goal.returns
returns g c =
    let m = c.args.self.now in
    let none = c.in_default.ensures in
    taken_second m.first m.second m.third c.swap.new.x c.swap.new.y c.take_at-2.new.position c.swap.ensures.x_after
    (c.swap.ensures.y_after ∙ none.1) none.0 c.take_at-2.result c.take_at-2.ensures
