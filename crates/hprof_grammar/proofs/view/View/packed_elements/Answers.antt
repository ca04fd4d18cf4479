-- The count times the size of an element is the length of the values, which follow the type code.
use Rattle.hprof_grammar.proofs.Words.{◌+◌}
use Rattle.hprof_grammar.proofs.FieldsStand.{packed_elements, packed_size}
use Rattle.hprof_grammar.proofs.Places.{raw_read}
use Rattle.hprof_grammar.proofs.view.View.packed_elements.Goals as goal

pub bytes_at-requires : goal.bytes_at-requires
bytes_at-requires c =
    let a = c.requires.0 in
    let h = c.requires.1 in
    let total = packed_size h (c.element_count-count.ensures a h) (c.element_type.ensures a h) c.size_of-size.ensures in
    rw total (packed_elements c.self.view_is h).inside

pub returns : goal.returns
returns c = λ a h.
    let total = packed_size h (c.element_count-count.ensures a h) (c.element_type.ensures a h) c.size_of-size.ensures in
    let same = raw_read c.self.inside.bytes.now (c.args.at + 10 + c.self.inside.id_size) a.values
    (packed_elements c.self.view_is h) in
    cc (c.bytes_at.ensures, total, same)
