-- The fields of roots, each at its place. In these lemmas w is what the fields of a view show, and v is the view.
use Rattle.hprof_grammar.proofs.Words.{Field, List, Root, RootOrigin, RootSays, Sight, Some, SubRecordStandsAt, [], ap}
use Rattle.hprof_grammar.proofs.Words.{arith, frame_of, java_frame, jni_global, jni_local, native_stack, number}
use Rattle.hprof_grammar.proofs.Words.{origin_fields, reference_of, root, thread_block, thread_object, thread_of}
use Rattle.hprof_grammar.proofs.Words.{trace_of, ℕ, ◌+◌, ◌∷◌, ◌≡◌}
use Rattle.hprof_grammar.proofs.Places.{NumberAt, in_sight, number_in}

-- the first and the second number after the object
behind_object : {s at w n : ℕ} {bytes : List ℕ} {r : Root} {more : List Field} → SubRecordStandsAt s bytes at (root r)
    → origin_fields s r.origin ≡ number w n ∷ more → NumberAt bytes (at + 1 + s) w n
behind_object {s} {r = r} h e =
    number_in (number s r.object ∷ []) _ h (ap (λ (fields : List Field). number s r.object ∷ fields) e) (omega arith)

behind_thread : {s at m n : ℕ} {bytes : List ℕ} {r : Root} → SubRecordStandsAt s bytes at (root r)
    → origin_fields s r.origin ≡ number 4 m ∷ number 4 n ∷ [] → NumberAt bytes (at + 5 + s) 4 n
behind_thread {s} {m = m} {r = r} h e =
    let front = number s r.object ∷ number 4 m ∷ [] in
    number_in front _ h (ap (λ (fields : List Field). number s r.object ∷ fields) e) (omega arith)

-- the reference, thread, frame or stack trace of a root is the first or the second number after its object
reference_first : (s : ℕ) (o : RootOrigin) (n : ℕ) → reference_of o ≡ Some n → origin_fields s o ≡ number s n ∷ []
reference_first s (jni_global reference) n e = cc
reference_first s o n e = absurd (cc)

thread_first : (s : ℕ) (o : RootOrigin) (n : ℕ) → thread_of o ≡ Some n
    → (more : List Field) × (origin_fields s o ≡ number 4 n ∷ more)
thread_first s (jni_local thread frame) n e = (number 4 frame ∷ [], cc)
thread_first s (java_frame thread frame) n e = (number 4 frame ∷ [], cc)
thread_first s (native_stack thread) n e = ([], cc)
thread_first s (thread_block thread) n e = ([], cc)
thread_first s (thread_object thread stack) n e = (number 4 stack ∷ [], cc)
thread_first s o n e = absurd (cc)

frame_second : (s : ℕ) (o : RootOrigin) (n : ℕ) → frame_of o ≡ Some n
    → (thread : ℕ) × (origin_fields s o ≡ number 4 thread ∷ number 4 n ∷ [])
frame_second s (jni_local thread frame) n e = (thread, cc)
frame_second s (java_frame thread frame) n e = (thread, cc)
frame_second s o n e = absurd (cc)

trace_second : (s : ℕ) (o : RootOrigin) (n : ℕ) → trace_of o ≡ Some n
    → (thread : ℕ) × (origin_fields s o ≡ number 4 thread ∷ number 4 n ∷ [])
trace_second s (thread_object thread stack) n e = (thread, cc)
trace_second s o n e = absurd (cc)

module _ {v w : Sight} {at n : ℕ} (e : w ≡ v) where
  pub root_reference : RootSays v at reference_of n → NumberAt w.bytes (at + 1 + w.id_size) w.id_size n
  root_reference h = behind_object (in_sight e h.stands) (reference_first w.id_size h.root_is.origin n h.says)

  pub root_thread : RootSays v at thread_of n → NumberAt w.bytes (at + 1 + w.id_size) 4 n
  root_thread h = behind_object (in_sight e h.stands) (thread_first w.id_size h.root_is.origin n h.says).1

  pub root_frame : RootSays v at frame_of n → NumberAt w.bytes (at + 5 + w.id_size) 4 n
  root_frame h = behind_thread (in_sight e h.stands) (frame_second w.id_size h.root_is.origin n h.says).1

  pub root_trace : RootSays v at trace_of n → NumberAt w.bytes (at + 5 + w.id_size) 4 n
  root_trace h = behind_thread (in_sight e h.stands) (trace_second w.id_size h.root_is.origin n h.says).1
