-- The word of an object exists, and has the marks of the 32 objects that share it.
use Rattle.std.proofs.Common.{◌/◌, ap, sym, ◌∙◌, arith, List, ℕ, slice_index}
use Rattle.std.specs.Slots.{slots_items, slots_small}
use Rattle.buffer_pool.proofs.Closes.{mark_there, object_below}
use Rattle.buffer_pool.proofs.pool.closed_marks.Marks.word_of.Goals as goal

pub overflow_add-self-inside : goal.overflow_add-self-inside
overflow_add-self-inside g c =
    let m = c.self.inside in
    let words = slots_items m.closed.words in
    let below = object_below words m.first_mark m.objects c.args.object c.args.self.now c.self.view_is c.requires in
    omega (arith, below, c.self.invariant.2, slots_small m.closed.words)

pub word-requires : goal.word-requires
word-requires g c =
    let m = c.self.inside in
    let words = slots_items m.closed.words in
    let below = object_below words m.first_mark m.objects c.args.object c.args.self.now c.self.view_is c.requires in
    (omega (arith, below, c.self.invariant.2), c.self.invariant.0)

pub returns : goal.returns
returns g c o same inside =
    let m = c.self.inside in
    let words = slots_items m.closed.words in
    let below = object_below words m.first_mark m.objects o c.args.self.now c.self.view_is inside in
    sym (ap (λ (ms : List ℕ). slice_index ms o) c.self.view_is)
    ∙ mark_there words m.first_mark m.objects o (c.args.object / 32) c.word.result below same c.word.ensures
