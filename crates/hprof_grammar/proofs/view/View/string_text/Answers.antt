-- The body of a string is an identifier and the text, so the text is as long as the body without an identifier.
use Rattle.std.proofs.Common.{arith, length, ◌+◌, ◌-◌, ◌≡◌}
use Rattle.hprof_grammar.proofs.RecordsStand.{string_length, string_text}
use Rattle.hprof_grammar.proofs.Places.{raw_read}
use Rattle.hprof_grammar.proofs.view.View.string_text.Goals as goal

pub u32_at-length-requires : goal.u32_at-length-requires
u32_at-length-requires c = (string_length c.self.view_is c.requires.3).room

pub overflow_sub-length : goal.overflow_sub-length
overflow_sub-length c =
    let whole = string_length c.self.view_is c.requires.3 in
    omega (arith, c.u32_at-length.ensures, whole.value)

pub bytes_at-requires : goal.bytes_at-requires
bytes_at-requires c =
    let whole = string_length c.self.view_is c.requires.3 in
    let there = string_text c.self.view_is c.requires.3 in
    omega (arith, c.u32_at-length.ensures, whole.value, there.inside)

pub returns : goal.returns
returns c = λ time id text h.
    let whole = string_length c.self.view_is h in
    let count : c.u32_at-length.result - c.self.inside.id_size ≡ length text =
    omega (arith, c.u32_at-length.ensures, whole.value) in
    let same = raw_read c.self.inside.bytes.now (c.args.at + 9 + c.self.inside.id_size) text
    (string_text c.self.view_is h) in
    cc (c.bytes_at.ensures, count, same)
