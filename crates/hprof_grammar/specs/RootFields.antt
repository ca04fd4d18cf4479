-- The fields of a root after its object. The kind of a root says which of them the root has.
use Rattle.std.specs.Prelude.{None, Option, Some, ℕ, ◌≡◌}
use Rattle.hprof_grammar.specs.Standing.{Sight, Stands}
use Rattle.hprof_grammar.specs.SubRecord.{Root, RootOrigin}
use Rattle.hprof_grammar.specs.SubRecord.RootOrigin.{java_frame, jni_global, jni_local, native_stack, thread_block}
use Rattle.hprof_grammar.specs.SubRecord.RootOrigin.{thread_object}
use Rattle.hprof_grammar.specs.SubRecord.SubRecord.{root}

-- the ID of a JNI global reference
abbrev pub reference_of : RootOrigin → Option ℕ
reference_of (jni_global reference) = Some reference
reference_of origin = None

-- the serial number of a thread
abbrev pub thread_of : RootOrigin → Option ℕ
thread_of (jni_local thread frame) = Some thread
thread_of (java_frame thread frame) = Some thread
thread_of (native_stack thread) = Some thread
thread_of (thread_block thread) = Some thread
thread_of (thread_object thread stack) = Some thread
thread_of origin = None

-- the number of a frame in its stack trace
abbrev pub frame_of : RootOrigin → Option ℕ
frame_of (jni_local thread frame) = Some frame
frame_of (java_frame thread frame) = Some frame
frame_of origin = None

-- the serial number of a thread's stack trace
abbrev pub trace_of : RootOrigin → Option ℕ
trace_of (thread_object thread stack) = Some stack
trace_of origin = None

-- a root is at the place `at`, and its field `field` is `n`
pub record RootSays (v : Sight) (at : ℕ) (field : RootOrigin → Option ℕ) (n : ℕ) : Type 0 where
  pub root_is : Root
  pub stands : Stands v at (root root_is)
  pub says : field root_is.origin ≡ Some n
