-- Length and order allow the record, so it adds what the code notes for its tag, and a fault in its body is its fault.
use Rattle.hprof_grammar.proofs.Words.{FrameFault, HasSubFault, arith, false, inl, inr, is_heap_tag, nat_tests, refl}
use Rattle.hprof_grammar.proofs.Words.{true, ℕ, ◌+◌, ◌≡◌, ◌⊎◌}
use Rattle.std.proofs.lemmas.Result.{err_from_is_err_and}
use Rattle.hprof_grammar.proofs.Refusals.{fault_passes}
use Rattle.hprof_grammar.proofs.FrameContents.{IsPlacedFrame, heap_broken, heap_framed, load_framed, other_framed}
use Rattle.hprof_grammar.proofs.FrameContents.{placed_frame, string_framed}
use Rattle.hprof_grammar.proofs.record_list.note_record.Goals as goal

pub returns-in_ok-note_string-in-1-clause-adds : goal.returns-in_ok-note_string-in-1-clause-adds
returns-in_ok-note_string-in-1-clause-adds g c = λ time. string_framed
    (placed_frame c.type_inv.body c.id_size.ensures c.is_length_of.ensures c.if-not-is_length_of.false
    c.in-Some.ensures) c.in-1.is c.in_ok-note_string-in-1.ensures.ok

pub returns-in_ok-note_loaded-in-2-clause-adds : goal.returns-in_ok-note_loaded-in-2-clause-adds
returns-in_ok-note_loaded-in-2-clause-adds g c = λ time. load_framed
    (placed_frame c.type_inv.body c.id_size.ensures c.is_length_of.ensures c.if-not-is_length_of.false
    c.in-Some.ensures) c.in-2.is c.in_ok-note_loaded-in-2.ensures.ok

is_heap : (tag : ℕ) → (tag ≡ 12) ⊎ (tag ≡ 28) → is_heap_tag tag ≡ true
is_heap tag h = elim h [ inl e ↦ rw e refl | inr e ↦ rw e refl ]

pub returns-in_ok-note_subs-in-12-clause-adds : goal.returns-in_ok-note_subs-in-12-clause-adds
returns-in_ok-note_subs-in-12-clause-adds g c = λ time. heap_framed
    (placed_frame c.type_inv.body c.id_size.ensures c.is_length_of.ensures c.if-not-is_length_of.false
    c.in-Some.ensures) (is_heap c.args.tag c.in-12.is) c.in_ok-note_subs-in-12.ensures.adds

pub returns-in_err-note_subs-in-12-clause-fault : goal.returns-in_err-note_subs-in-12-clause-fault
returns-in_err-note_subs-in-12-clause-fault g c =
    let s = c.args.dump.now.id_size in
    let frame : IsPlacedFrame c.args.tag c.args.body.now c.args.order c.in-Some.next c.args.dump.now =
    placed_frame c.type_inv.body c.id_size.ensures c.is_length_of.ensures c.if-not-is_length_of.false
    c.in-Some.ensures in
    let exit = err_from_is_err_and c.from_residual-in_err-note_subs-in-12.result
    c.from_residual-in_err-note_subs-in-12.ensures.1 in
    fault_passes (Unit {0}) (HasSubFault s (c.args.at + 9) c.args.body.now)
    (FrameFault s c.args.at c.args.tag c.args.body.now c.args.order) exit
    (λ fault bad. heap_broken frame (is_heap c.args.tag c.in-12.is) bad) c.in_err-note_subs-in-12.ensures.fault

pub returns-in_default-tag-clause-adds : goal.returns-in_default-tag-clause-adds
returns-in_default-tag-clause-adds g c =
    let no_heap : is_heap_tag c.args.tag ≡ false = grind (arith, nat_tests) in
    λ time. other_framed
    (placed_frame c.type_inv.body c.id_size.ensures c.is_length_of.ensures c.if-not-is_length_of.false
    c.in-Some.ensures) (λ e. omega (arith, e), λ e. omega (arith, e), no_heap)
