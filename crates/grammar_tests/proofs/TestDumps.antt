-- The sub-records of the dump in `src/dumps.rt`, with identifiers of s bytes, and lemmas that a root has the numbers of
-- its kind.
use Rattle.std.proofs.Common.{Bool, List, Option, Some, [], drop, false, refl, true, ℕ, ◌++◌, ◌<◌, ◌^◌}
use Rattle.std.proofs.Common.{◌∷◌, ◌≡◌}
use Rattle.byteorder.specs.Endian.{big_bytes}
use Rattle.hprof_grammar.specs.Dump.{header}
use Rattle.hprof_grammar.specs.Kinds.{origin_kind}
use Rattle.hprof_grammar.specs.RootFields.{RootSays, frame_of, reference_of, thread_of, trace_of}
use Rattle.hprof_grammar.specs.Standing.{HeaderStands, Sight, Stands}
use Rattle.hprof_grammar.specs.SubRecord.{Class, Instance, ObjectArray, PrimitiveArray, Root, RootOrigin}
use Rattle.hprof_grammar.specs.SubRecord.RootOrigin.{java_frame, jni_global, jni_local, monitor_used, native_stack}
use Rattle.hprof_grammar.specs.SubRecord.RootOrigin.{sticky_class, thread_block, thread_object, unknown}
use Rattle.hprof_grammar.specs.SubRecord.SubRecord.{root}
use Rattle.hprof_grammar.specs.declared.kinds.RootKind.{RootKind}
use Rattle.hprof_grammar.specs.declared.kinds.RootKind.TheVariants as roots
use Rattle.grammar_tests.proofs.Computed.{Begin, parted}

pub header_seen : {bytes : List ℕ} {s time : ℕ} (v : Sight) → v.bytes ≡ bytes → v.id_size ≡ s → time < 256 ^ 8
    → Begin bytes 0 (header s time) → HeaderStands v time
header_seen {bytes} {s} {time} v b i fits e =
    rw (b, i) (record { rest = drop 31 bytes; bytes_are = parted bytes 0 (header s time) e; fits = fits })

-- ---- the parts

abbrev pub the_class : ℕ → Class
the_class s = record {
  object = 0x100;
  stack = 9;
  super = 0x200;
  loader = 0x201;
  signers = 0x202;
  domain = 0x203;
  reserved = 0x204;
  reserved_too = 0x205;
  instance_size = 12;
  constants = record { index = 1; type = 5; value = 0 ∷ 0x41 ∷ [] }
      ∷ record { index = 2; type = 2; value = big_bytes s 0x206 } ∷ [];
  statics = record { name = 3; type = 10; value = 0 ∷ 0 ∷ 0 ∷ 7 ∷ [] }
      ∷ record { name = 4; type = 2; value = big_bytes s 0x207 } ∷ [];
  members = record { name = 5; type = 2 } ∷ record { name = 6; type = 4 } ∷ [];
}

abbrev pub the_instance : ℕ → Instance
the_instance s = record { object = 0x301; stack = 10; class = 0x100; values = big_bytes s 0x302 ++ 1 ∷ [] }

abbrev pub the_objects : ObjectArray
the_objects = record { object = 0x302; stack = 11; class = 0x101; elements = 0x301 ∷ 0 ∷ [] }

abbrev pub the_shorts : PrimitiveArray
the_shorts = record { object = 0x303; stack = 12; count = 3; type = 9; values = 0 ∷ 1 ∷ 0 ∷ 2 ∷ 0 ∷ 3 ∷ [] }

abbrev of_the_instance : RootOrigin → Root
of_the_instance origin = record { object = 0x301; origin = origin }

-- the dump's roots, if they are at the places a to i
abbrev pub the_roots : (a b c d e f g h i : ℕ) → List (ℕ × Root)
the_roots a b c d e f g h i =
    (a, record { object = 0x100; origin = unknown }) ∷ (b, of_the_instance (jni_global 0x401))
    ∷ (c, of_the_instance (jni_local 13 14)) ∷ (d, of_the_instance (java_frame 15 16))
    ∷ (e, of_the_instance (native_stack 17)) ∷ (f, of_the_instance sticky_class)
    ∷ (g, of_the_instance (thread_block 18)) ∷ (h, of_the_instance monitor_used)
    ∷ (i, of_the_instance (thread_object 19 20)) ∷ []

-- ---- a root has the numbers that its kind has

pub said : {v : Sight} {at : ℕ} (r : Root) (field : RootOrigin → Option ℕ) → Stands v at (root r)
    → (n : ℕ) × (field r.origin ≡ Some n) → (n : ℕ) × RootSays v at field n
said r field h number = (number.0, record { root_is = r; stands = h; says = number.1 })

pub reference_there : (o : RootOrigin) → origin_kind o ≡ roots.JniGlobal → (n : ℕ) × (reference_of o ≡ Some n)
reference_there (jni_global reference) e = (reference, refl)
reference_there o e = absurd (cc)

-- the kinds that have a thread, and those that have a frame
abbrev pub has_thread : RootKind → Bool
has_thread roots.JniLocal = true
has_thread roots.JavaFrame = true
has_thread roots.NativeStack = true
has_thread roots.ThreadBlock = true
has_thread roots.ThreadObject = true
has_thread kind = false

abbrev pub has_frame : RootKind → Bool
has_frame roots.JniLocal = true
has_frame roots.JavaFrame = true
has_frame kind = false

pub thread_there : (o : RootOrigin) → has_thread (origin_kind o) ≡ true → (n : ℕ) × (thread_of o ≡ Some n)
thread_there (jni_local thread frame) e = (thread, refl)
thread_there (java_frame thread frame) e = (thread, refl)
thread_there (native_stack thread) e = (thread, refl)
thread_there (thread_block thread) e = (thread, refl)
thread_there (thread_object thread stack) e = (thread, refl)
thread_there o e = absurd (cc)

pub frame_there : (o : RootOrigin) → has_frame (origin_kind o) ≡ true → (n : ℕ) × (frame_of o ≡ Some n)
frame_there (jni_local thread frame) e = (frame, refl)
frame_there (java_frame thread frame) e = (frame, refl)
frame_there o e = absurd (cc)

pub trace_there : (o : RootOrigin) → origin_kind o ≡ roots.ThreadObject → (n : ℕ) × (trace_of o ≡ Some n)
trace_there (thread_object thread stack) e = (stack, refl)
trace_there o e = absurd (cc)
