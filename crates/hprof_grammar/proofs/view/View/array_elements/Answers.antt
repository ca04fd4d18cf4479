-- The count is the number of elements, and the array lies in the bytes, so there is room for all elements.
use Rattle.std.proofs.Common.{length, subst, sym, ℕ, ◌*◌, ◌+◌, ◌∙◌, ◌≤◌}
use Rattle.hprof_grammar.proofs.FieldsStand.{array_count, array_elements, array_room}
use Rattle.hprof_grammar.proofs.view.View.array_elements.Goals as goal

pub u32_at-count-requires : goal.u32_at-count-requires
u32_at-count-requires c = (array_count c.self.view_is c.requires.1).room

pub new-requires-clause-room : goal.new-requires-clause-room
new-requires-clause-room c =
    let count = array_count c.self.view_is c.requires.1 in
    let s = c.self.inside.id_size in
    subst (λ (n : ℕ). c.args.at + 9 + 2 * s + n * s ≤ length c.self.inside.bytes.now)
    (sym (c.u32_at-count.ensures ∙ count.value)) (array_room c.self.view_is c.requires.1)

pub returns : goal.returns
returns c = λ a h.
    let count = array_count c.self.view_is h in
    cc (c.u32_at-count.ensures, count.value, c.new.ensures, array_elements c.self.view_is h)
