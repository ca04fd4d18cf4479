-- Each turn takes a sub-record off the rest and notes its place. A flaw comes after the longest list of whole
-- sub-records.
use Rattle.hprof_grammar.proofs.Words.{arith, length, nat_tests, refl, ◌<◌}
use Rattle.hprof_grammar.proofs.Bytes.{in_bytes}
use Rattle.hprof_grammar.proofs.Heaps.{sub_shorter, subs_fault, subs_step}
use Rattle.hprof_grammar.proofs.sub_record_list.note_subs.Goals as goal

pub loop-reader-smaller : goal.loop-reader-smaller
loop-reader-smaller g c =
    let body = in_bytes c.args.body.now c.type_inv.body in
    sub_shorter c.loop-reader.invariant body (rw c.id_size-id_size.ensures at c.in-Ok.ensures.passes)

pub loop-reader-preserved : goal.loop-reader-preserved
loop-reader-preserved g c =
    let body = in_bytes c.args.body.now c.type_inv.body in
    let read = rw c.id_size-id_size.ensures at c.in-Ok.ensures.passes in
    rw c.in_ok-note-in-Ok.ensures.ok (subs_step c.loop-reader.invariant body read c.in-Ok.ensures.kind)

pub returns-in-Err-clause-fault : goal.returns-in-Err-clause-fault
returns-in-Err-clause-fault g c =
    let body = in_bytes c.args.body.now c.type_inv.body in
    let some : 0 < length c.loop-reader.reader.rest.now = grind (arith, nat_tests) in
    let read = rw c.id_size-id_size.ensures at c.in-Err.ensures.passes in
    rw c.fault.ensures (subs_fault c.loop-reader.invariant body some read c.code-code.ensures refl)
