-- The header, the string and the loaded class are in both dumps, by computation.
use Rattle.std.proofs.Common.{[], lit<, refl, ◌∷◌}
use Rattle.hprof_grammar.specs.Record.{is_length_of}
use Rattle.grammar_tests.proofs.Computed.{record_seen}
use Rattle.grammar_tests.proofs.TestDumps.{header_seen}
use Rattle.grammar_tests.proofs.fields.records.Goals as goal

pub has_records-requires-clause-header : goal.has_records-requires-clause-header
has_records-requires-clause-header g c =
    -- the time stamp of the header: 1 in the high word, 2 in the low word
    (4294967298, header_seen c.new.result c.new.ensures.bytes c.new.ensures.size (lit< tt) refl)

pub has_records-requires-clause-string : goal.has_records-requires-clause-string
unfolding is_length_of
has_records-requires-clause-string g c =
    (21, 1, 0x41 ∷ [], record_seen c.new.result c.new.ensures.bytes c.new.ensures.size refl refl)

pub has_records-requires-clause-loaded : goal.has_records-requires-clause-loaded
unfolding is_length_of
has_records-requires-clause-loaded g c =
    (22, 7, 0x100, 8, 1, record_seen c.new.result c.new.ensures.bytes c.new.ensures.size refl refl)

pub has_records-requires-2-clause-header : goal.has_records-requires-2-clause-header
has_records-requires-2-clause-header g c =
    -- the time stamp of the header: 1 in the high word, 2 in the low word
    (4294967298, header_seen c.new-2.result c.new-2.ensures.bytes c.new-2.ensures.size (lit< tt) refl)

pub has_records-requires-2-clause-string : goal.has_records-requires-2-clause-string
unfolding is_length_of
has_records-requires-2-clause-string g c =
    (21, 1, 0x41 ∷ [], record_seen c.new-2.result c.new-2.ensures.bytes c.new-2.ensures.size refl refl)

pub has_records-requires-2-clause-loaded : goal.has_records-requires-2-clause-loaded
unfolding is_length_of
has_records-requires-2-clause-loaded g c =
    (22, 7, 0x100, 8, 1, record_seen c.new-2.result c.new-2.ensures.bytes c.new-2.ensures.size refl refl)
