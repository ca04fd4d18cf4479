-- The kind is that of the root's origin, and an origin of this kind has the number.
use Rattle.std.proofs.Common.{arith, subst, true, ◌≡◌}
use Rattle.hprof_grammar.specs.RootFields.{frame_of, reference_of, thread_of, trace_of}
use Rattle.hprof_grammar.specs.declared.kinds.RootKind.{RootKind}
use Rattle.grammar_tests.proofs.TestDumps.{frame_there, has_frame, has_thread, reference_there, said, thread_there}
use Rattle.grammar_tests.proofs.TestDumps.{trace_there}
use Rattle.grammar_tests.proofs.fields.root_numbers.Goals as goal

pub root_reference-requires : goal.root_reference-requires
root_reference-requires c =
    let r = c.requires.0 in
    let h = c.requires.1 in
    said r reference_of h (reference_there r.origin (cc (c.root_kind-kind.ensures r h)))

pub root_thread-requires : goal.root_thread-requires
root_thread-requires c =
    let r = c.requires.0 in
    let h = c.requires.1 in
    let has : has_thread c.root_kind-kind.result ≡ true = grind arith in
    said r thread_of h
    (thread_there r.origin (subst (λ (k : RootKind). has_thread k ≡ true) (c.root_kind-kind.ensures r h) has))

pub root_frame-requires : goal.root_frame-requires
root_frame-requires c =
    let r = c.requires.0 in
    let h = c.requires.1 in
    let has : has_frame c.root_kind-kind.result ≡ true = grind arith in
    said r frame_of h
    (frame_there r.origin (subst (λ (k : RootKind). has_frame k ≡ true) (c.root_kind-kind.ensures r h) has))

pub root_stack_trace-requires : goal.root_stack_trace-requires
root_stack_trace-requires c =
    let r = c.requires.0 in
    let h = c.requires.1 in
    said r trace_of h (trace_there r.origin (cc (c.root_kind-kind.ensures r h)))
