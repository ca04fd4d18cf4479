-- The number after the class is the length of the values, so that number of bytes after it are the values.
use Rattle.std.proofs.Common.{arith, ◌*◌, ◌+◌}
use Rattle.hprof_grammar.proofs.FieldsStand.{instance_count, instance_values}
use Rattle.hprof_grammar.proofs.Places.{raw_read}
use Rattle.hprof_grammar.proofs.view.View.instance_values.Goals as goal

pub u32_at-count-requires : goal.u32_at-count-requires
u32_at-count-requires c = (instance_count c.self.view_is c.requires.1).room

pub bytes_at-requires : goal.bytes_at-requires
bytes_at-requires c =
    let count = instance_count c.self.view_is c.requires.1 in
    let there = instance_values c.self.view_is c.requires.1 in
    omega (arith, c.u32_at-count.ensures, count.value, there.inside)

pub returns : goal.returns
returns c = λ i h.
    let count = instance_count c.self.view_is h in
    let values = raw_read c.self.inside.bytes.now (c.args.at + 9 + 2 * c.self.inside.id_size) i.values
    (instance_values c.self.view_is h) in
    cc (c.u32_at-count.ensures, count.value, c.bytes_at.ensures, values)
