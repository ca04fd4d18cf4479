-- Reading the remaining members ends as reading all of them does: in the same bytes, or in the same flaw.
use Rattle.hprof_grammar.proofs.Words.{behind, list_at, member_at, ◌-◌, ◌≡◌}
use Rattle.hprof_grammar.proofs.sub_records.members.Given as goal

abbrev pub invariant-loop-i : goal.invariant-loop-i
invariant-loop-i l = behind (list_at (member_at l.id_size) (l.count - l._i) l.reader.rest.now)
    ≡ behind (list_at (member_at l.id_size) l.count l.initial.reader.rest.now)
