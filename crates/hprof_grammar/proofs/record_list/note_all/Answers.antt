-- If all records were read and the snapshot is not done, the rest of it is missing at the end of the bytes.
use Rattle.std.proofs.Common.{refl, sym, ◌∙◌}
use Rattle.hprof_grammar.proofs.Wholes.{fault_at_end}
use Rattle.hprof_grammar.proofs.record_list.note_all.Goals as goal

pub returns-then-not-is_done-clause-fault : goal.returns-then-not-is_done-clause-fault
returns-then-not-is_done-clause-fault g c =
    rw c.fault.ensures (fault_at_end c.in_ok-order.ensures.adds (sym c.is_done.ensures ∙ c.if-not-is_done.true) refl)
