-- Each turn takes a frame off the rest and joins its record. A fault that stops the loop comes after the longest list
-- of records.
use Rattle.hprof_grammar.proofs.Words.{Before, FrameFault, HasRecordFault, SnapshotState, ap, arith, length, nat_tests}
use Rattle.hprof_grammar.proofs.Words.{refl, ℕ, ◌+◌, ◌-◌, ◌<◌, ◌≡◌}
use Rattle.std.proofs.lemmas.Result.{err_from_is_err_and}
use Rattle.hprof_grammar.proofs.Refusals.{fault_passes}
use Rattle.hprof_grammar.proofs.Bytes.{in_bytes}
use Rattle.hprof_grammar.proofs.Frames.{cut_record, frame_takes}
use Rattle.hprof_grammar.proofs.RecordSteps.{one_record, records_join}
use Rattle.hprof_grammar.proofs.Wholes.{bytes_left, fault_in_record, fault_where_cut, frame_room, from_header}
use Rattle.hprof_grammar.proofs.Wholes.{left_within}
use Rattle.hprof_grammar.proofs.record_list.note_records.Goals as goal

pub returns-in_default-clause-fault : goal.returns-in_default-clause-fault
returns-in_default-clause-fault g c =
    let adds = c.loop-reader.invariant in
    let left = bytes_left adds (in_bytes c.args.bytes.now c.type_inv.bytes) in
    let some : 0 < length c.loop-reader.reader.rest.now = grind (arith, nat_tests) in
    let size = length c.args.bytes.now - length c.loop-reader.reader.rest.now in
    rw c.fault.ensures
    (λ place order. fault_where_cut (from_header adds place order) some (cut_record some left c.in_default.ensures)
    (ap (λ (n : ℕ). n + size) place) refl)

pub note_record-requires-clause-room : goal.note_record-requires-clause-room
note_record-requires-clause-room g c =
    let adds = c.loop-reader.invariant in
    let left = bytes_left adds (in_bytes c.args.bytes.now c.type_inv.bytes) in
    omega (arith, frame_room (frame_takes left c.in-Ok.ensures), left_within adds)

pub returns-in_err-order-clause-fault : goal.returns-in_err-order-clause-fault
returns-in_err-order-clause-fault g c =
    let adds = c.loop-reader.invariant in
    let left = bytes_left adds (in_bytes c.args.bytes.now c.type_inv.bytes) in
    let size = length c.args.bytes.now - length c.loop-reader.reader.rest.now in
    let frame = frame_takes left c.in-Ok.ensures in
    let exit = err_from_is_err_and c.from_residual.result c.from_residual.ensures.1 in
    fault_passes SnapshotState
    (FrameFault c.loop-reader.dump.id_size (c.args.at + size) c.in-Ok.frame.tag c.in-Ok.frame.body.now
    c.loop-reader.order)
    (λ fault. c.args.at ≡ 31 → c.args.order ≡ Before
    → HasRecordFault c.args.dump.now.id_size c.args.bytes.now fault) exit
    (λ fault wrong place order. fault_in_record (from_header adds place order) frame (ap (λ (n : ℕ). n + size) place)
    wrong)
    c.in_err-order.ensures.fault

pub loop-reader-smaller : goal.loop-reader-smaller
loop-reader-smaller g c =
    let left = bytes_left c.loop-reader.invariant (in_bytes c.args.bytes.now c.type_inv.bytes) in
    omega (arith, frame_room (frame_takes left c.in-Ok.ensures))

pub loop-reader-preserved : goal.loop-reader-preserved
loop-reader-preserved g c =
    let left = bytes_left c.loop-reader.invariant (in_bytes c.args.bytes.now c.type_inv.bytes) in
    let one = one_record (frame_takes left c.in-Ok.ensures) (c.in_ok-order.ensures.adds c.in-Ok.frame.time) in
    records_join c.loop-reader.invariant one refl
