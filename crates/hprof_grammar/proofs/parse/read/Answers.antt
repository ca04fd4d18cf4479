-- The header ends at byte 31: what is known of the bytes from there on holds of the whole text.
use Rattle.hprof_grammar.proofs.Words.{AddsAll, FirstFault, HasRecordFault, List, Places, ap, arith, drop, length}
use Rattle.hprof_grammar.proofs.Words.{subst, take, ℕ, ◌-◌, ◌≡◌}
use Rattle.std.proofs.lemmas.List.{take_rest}
use Rattle.std.proofs.lemmas.Result.{err_from_is_err_and}
use Rattle.hprof_grammar.proofs.Headers.{dump_read, record_fault_read}
use Rattle.hprof_grammar.proofs.Refusals.{fault_passes}
use Rattle.hprof_grammar.proofs.TableLaws.{id_size_high, id_size_low}
use Rattle.hprof_grammar.proofs.parse.read.Goals as goal

pub note_all-requires-clause-low : goal.note_all-requires-clause-low
note_all-requires-clause-low g c =
    let low = id_size_low c.in_ok-id_size.id_size c.in_ok-id_size.ensures.ok.id_size in
    omega (arith, low, ap (λ (p : Places). p.id_size) c.new-dump.ensures)

pub note_all-requires-clause-high : goal.note_all-requires-clause-high
note_all-requires-clause-high g c =
    let high = id_size_high c.in_ok-id_size.id_size c.in_ok-id_size.ensures.ok.id_size in
    omega (arith, high, ap (λ (p : Places). p.id_size) c.new-dump.ensures)

pub returns-in_err-note_all-clause-fault : goal.returns-in_err-note_all-clause-fault
returns-in_err-note_all-clause-fault g c =
    let text = c.args.bytes.now in
    let exit = err_from_is_err_and c.from_residual-in_err-note_all.result
    c.from_residual-in_err-note_all.ensures.1 in
    let size : c.new-dump.result.id_size ≡ c.in_ok-id_size.id_size =
    ap (λ (p : Places). p.id_size) c.new-dump.ensures in
    fault_passes (Unit {0}) (HasRecordFault c.new-dump.result.id_size (take (length text - 31) (drop 31 text)))
    (λ fault. FirstFault c.args.bytes.now fault.code fault.offset) exit
    (λ fault wrong. record_fault_read c.args.bytes.now c.in_ok-id_size.id_size fault c.in_ok-id_size.ensures.ok
    (subst (λ (s : ℕ). HasRecordFault s (drop 31 c.args.bytes.now) fault) size
    (subst (λ (l : List ℕ). HasRecordFault c.new-dump.result.id_size l fault)
    (take_rest c.args.bytes.now 31) wrong)))
    c.in_err-note_all.ensures.fault

pub returns-in-Some-clause-dump : goal.returns-in-Some-clause-dump
returns-in-Some-clause-dump g c =
    dump_read c.args.bytes.now c.in_ok-id_size.id_size c.in-Some.dump c.in_ok-id_size.ensures.ok c.in-Some.ensures

pub returns-clause-dump : goal.returns-clause-dump
returns-clause-dump g c =
    let text = c.args.bytes.now in
    let adds = c.in_ok-note_all.ensures.adds in
    let start : AddsAll (drop 31 c.args.bytes.now) c.new-dump.result c.note_all.new.dump =
    subst (λ (l : List ℕ). AddsAll l c.new-dump.result c.note_all.new.dump)
    (take_rest c.args.bytes.now 31) adds in
    dump_read c.args.bytes.now c.in_ok-id_size.id_size c.note_all.new.dump c.in_ok-id_size.ensures.ok
    (subst (λ (p : Places). AddsAll (drop 31 c.args.bytes.now) p c.note_all.new.dump) c.new-dump.ensures start)
