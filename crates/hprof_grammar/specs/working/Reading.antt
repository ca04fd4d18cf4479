-- Reading from left to right, up to the first flaw. The contracts of the parser's functions cite these definitions.
use Rattle.std.specs.Prelude.{Err, List, None, Ok, Option, Result, Some, [], drop, if◌then◌else◌, length, nat_lt, suc}
use Rattle.std.specs.Prelude.{take, zero, ℕ, ◌*◌, ◌∷◌, ◌≡◌}
use Rattle.byteorder.specs.Endian.{big_number}
use Rattle.hprof_grammar.specs.TagsAndTypes.{is_type_at, size_of}
use Rattle.hprof_grammar.specs.Kinds.{kind_of}
use Rattle.hprof_grammar.specs.SubRecord.{Class, Constant, Instance, Member, ObjectArray, PrimitiveArray, RootOrigin}
use Rattle.hprof_grammar.specs.SubRecord.{Static, SubRecord}
use Rattle.hprof_grammar.specs.SubRecord.RootOrigin.{java_frame, jni_global, jni_local, monitor_used, native_stack}
use Rattle.hprof_grammar.specs.SubRecord.RootOrigin.{sticky_class, thread_block, thread_object, unknown}
use Rattle.hprof_grammar.specs.SubRecord.SubRecord.{class_dump, instance_dump, object_array_dump, primitive_array_dump}
use Rattle.hprof_grammar.specs.SubRecord.SubRecord.{root}
use Rattle.hprof_grammar.specs.declared.kinds.Kind.{Kind}
use Rattle.hprof_grammar.specs.declared.kinds.Kind.TheVariants as kinds
use Rattle.hprof_grammar.specs.declared.kinds.ObjectKind.TheVariants as objects
use Rattle.hprof_grammar.specs.declared.kinds.RootKind.{RootKind}
use Rattle.hprof_grammar.specs.declared.kinds.RootKind.TheVariants as roots
use Rattle.hprof_grammar.specs.declared.kinds.TypePlace.{TypePlace}
use Rattle.hprof_grammar.specs.declared.kinds.TypePlace.TheVariants.{InArray, InConstant, InMember, InStatic}
use Rattle.hprof_grammar.specs.declared.flaw.Flaw.{Flaw}
use Rattle.hprof_grammar.specs.declared.flaw.Flaw.TheVariants.{Short, UnknownTag, WrongType}

infixl 10 ◌>>=◌
abbrev pub ◌>>=◌ : {A B : Type 0} → Result A Flaw → (A → Result B Flaw) → Result B Flaw
(Ok x) >>= f = f x
(Err e) >>= f = Err e

-- a number of `width` bytes, and the bytes after it
abbrev pub number_at : ℕ → List ℕ → Result (ℕ × List ℕ) Flaw
number_at width bytes = if nat_lt (length bytes) width then Err Short else Ok (big_number width bytes, drop width bytes)

abbrev pub raw_at : ℕ → List ℕ → Result (List ℕ × List ℕ) Flaw
raw_at n bytes = if nat_lt (length bytes) n then Err Short else Ok (take n bytes, drop n bytes)

abbrev pub type_at : TypePlace → List ℕ → Result (ℕ × List ℕ) Flaw
type_at place [] = Err Short
type_at place (t ∷ rest) = if is_type_at place t then Ok (t, rest) else Err WrongType

-- `first` and then `second`, which may depend on the result of `first`
abbrev pub then_at : {A B : Type 0} → (List ℕ → Result (A × List ℕ) Flaw)
    → (A → List ℕ → Result (B × List ℕ) Flaw) → List ℕ → Result ((A × B) × List ℕ) Flaw
then_at first second bytes = first bytes >>= λ x. second x.0 x.1 >>= λ y. Ok ((x.0, y.0), y.1)

-- `one`, n times
abbrev pub list_at : {A : Type 0} → (List ℕ → Result (A × List ℕ) Flaw) → ℕ → List ℕ → Result (List A × List ℕ) Flaw
list_at one zero bytes = Ok ([], bytes)
list_at one (suc n) bytes = one bytes >>= λ x. list_at one n x.1 >>= λ xs. Ok (x.0 ∷ xs.0, xs.1)

-- reads as `read` does, and maps the result by `to`
abbrev pub as_at : {A B : Type 0} → (A → B) → (List ℕ → Result (A × List ℕ) Flaw) → List ℕ → Result (B × List ℕ) Flaw
as_at to read bytes = read bytes >>= λ x. Ok (to x.0, x.1)

-- a count of `width` bytes, and then `one`, that many times
abbrev pub counted_at : {A : Type 0} → ℕ → (List ℕ → Result (A × List ℕ) Flaw) → List ℕ → Result (List A × List ℕ) Flaw
counted_at width one bytes = as_at (λ p. p.1) (then_at (number_at width) (λ n. list_at one n)) bytes

-- drops the result, and keeps the bytes after it
abbrev pub behind : {A : Type 0} → Result (A × List ℕ) Flaw → Result (List ℕ) Flaw
behind (Ok x) = Ok x.1
behind (Err e) = Err e

-- ---- the parts of sub-records, field by field

abbrev pub constant_at : ℕ → List ℕ → Result (Constant × List ℕ) Flaw
constant_at s = as_at (λ p. record { index = p.0; type = p.1.0; value = p.1.1 })
    (then_at (number_at 2) (λ _. then_at (type_at InConstant) (λ t. raw_at (size_of s t))))

abbrev pub static_at : ℕ → List ℕ → Result (Static × List ℕ) Flaw
static_at s = as_at (λ p. record { name = p.0; type = p.1.0; value = p.1.1 })
    (then_at (number_at s) (λ _. then_at (type_at InStatic) (λ t. raw_at (size_of s t))))

abbrev pub member_at : ℕ → List ℕ → Result (Member × List ℕ) Flaw
member_at s = as_at (λ p. record { name = p.0; type = p.1 }) (then_at (number_at s) (λ _. type_at InMember))

unfoldable pub class_dump_at : ℕ → List ℕ → Result (Class × List ℕ) Flaw
class_dump_at s = as_at
    (λ p. record {
      object = p.0;
      stack = p.1.0;
      super = p.1.1.0;
      loader = p.1.1.1.0;
      signers = p.1.1.1.1.0;
      domain = p.1.1.1.1.1.0;
      reserved = p.1.1.1.1.1.1.0;
      reserved_too = p.1.1.1.1.1.1.1.0;
      instance_size = p.1.1.1.1.1.1.1.1.0;
      constants = p.1.1.1.1.1.1.1.1.1.0;
      statics = p.1.1.1.1.1.1.1.1.1.1.0;
      members = p.1.1.1.1.1.1.1.1.1.1.1;
    })
    (then_at (number_at s) (λ _. then_at (number_at 4) (λ _. then_at (number_at s)
    (λ _. then_at (number_at s) (λ _. then_at (number_at s) (λ _. then_at (number_at s)
    (λ _. then_at (number_at s) (λ _. then_at (number_at s) (λ _. then_at (number_at 4)
    (λ _. then_at (counted_at 2 (constant_at s))
    (λ _. then_at (counted_at 2 (static_at s)) (λ _. counted_at 2 (member_at s)))))))))))))

unfoldable pub instance_at : ℕ → List ℕ → Result (Instance × List ℕ) Flaw
instance_at s = as_at (λ p. record { object = p.0; stack = p.1.0; class = p.1.1.0; values = p.1.1.1.1 })
    (then_at (number_at s) (λ _. then_at (number_at 4) (λ _. then_at (number_at s)
    (λ _. then_at (number_at 4) (λ n. raw_at n)))))

unfoldable pub object_array_at : ℕ → List ℕ → Result (ObjectArray × List ℕ) Flaw
object_array_at s = as_at (λ p. record { object = p.0; stack = p.1.0; class = p.1.1.1.0; elements = p.1.1.1.1 })
    (then_at (number_at s) (λ _. then_at (number_at 4)
    (λ _. then_at (number_at 4) (λ n. then_at (number_at s) (λ _. list_at (number_at s) n)))))

unfoldable pub primitive_array_at : ℕ → List ℕ → Result (PrimitiveArray × List ℕ) Flaw
primitive_array_at s = as_at
    (λ p. record { object = p.0; stack = p.1.0; count = p.1.1.0; type = p.1.1.1.0; values = p.1.1.1.1 })
    (then_at (number_at s) (λ _. then_at (number_at 4)
    (λ _. then_at (number_at 4) (λ n. then_at (type_at InArray) (λ t. raw_at (n * size_of s t))))))

-- a root without a field after its object, with one field, and with two
abbrev pub lone_root : RootOrigin → ℕ → SubRecord
lone_root origin object = root (record { object = object; origin = origin })

abbrev pub root_with : (ℕ → RootOrigin) → ℕ × ℕ → SubRecord
root_with origin p = root (record { object = p.0; origin = origin p.1 })

abbrev pub root_with_two : (ℕ → ℕ → RootOrigin) → ℕ × (ℕ × ℕ) → SubRecord
root_with_two origin p = root (record { object = p.0; origin = origin p.1.0 p.1.1 })

abbrev pub numbers_at : ℕ → ℕ → List ℕ → Result ((ℕ × ℕ) × List ℕ) Flaw
numbers_at first second = then_at (number_at first) (λ _. number_at second)

abbrev pub root_at : ℕ → RootKind → List ℕ → Result (SubRecord × List ℕ) Flaw
root_at s roots.Unknown = as_at (lone_root unknown) (number_at s)
root_at s roots.JniGlobal = as_at (root_with jni_global) (numbers_at s s)
root_at s roots.JniLocal = as_at (root_with_two jni_local) (then_at (number_at s) (λ _. numbers_at 4 4))
root_at s roots.JavaFrame = as_at (root_with_two java_frame) (then_at (number_at s) (λ _. numbers_at 4 4))
root_at s roots.NativeStack = as_at (root_with native_stack) (numbers_at s 4)
root_at s roots.StickyClass = as_at (lone_root sticky_class) (number_at s)
root_at s roots.ThreadBlock = as_at (root_with thread_block) (numbers_at s 4)
root_at s roots.MonitorUsed = as_at (lone_root monitor_used) (number_at s)
root_at s roots.ThreadObject = as_at (root_with_two thread_object) (then_at (number_at s) (λ _. numbers_at 4 4))

-- the fields after a tag
abbrev pub body_at : ℕ → Option Kind → List ℕ → Result (SubRecord × List ℕ) Flaw
body_at s None bytes = Err UnknownTag
body_at s (Some (kinds.Root kind)) bytes = root_at s kind bytes
body_at s (Some (kinds.Object objects.Class)) bytes = as_at class_dump (class_dump_at s) bytes
body_at s (Some (kinds.Object objects.Instance)) bytes = as_at instance_dump (instance_at s) bytes
body_at s (Some (kinds.Object objects.ObjectArray)) bytes = as_at object_array_dump (object_array_at s) bytes
body_at s (Some (kinds.Object objects.PrimitiveArray)) bytes = as_at primitive_array_dump (primitive_array_at s) bytes

-- a sub-record, and the bytes after it
unfoldable pub sub_record_at : ℕ → List ℕ → Result (SubRecord × List ℕ) Flaw
sub_record_at s [] = Err Short
sub_record_at s (tag ∷ rest) = body_at s (kind_of tag) rest

-- ---- the effect of a parser's function: it leaves `rest`, the bytes after what `read` reads, or returns its flaw

abbrev pub Reads : {X : Type 0} → Result X Flaw → List ℕ → Result (X × List ℕ) Flaw → Type 0
Reads (Ok x) rest read = read ≡ Ok (x, rest)
Reads (Err e) rest read = read ≡ Err e

abbrev pub Passes : {X Y : Type 0} → Result X Flaw → List ℕ → Result (Y × List ℕ) Flaw → Type 0
Passes (Ok _) rest read = behind read ≡ Ok rest
Passes (Err e) rest read = behind read ≡ Err e

abbrev pub ReadsAs : {X Y : Type 0} → (X → Y) → Result X Flaw → List ℕ → Result (Y × List ℕ) Flaw → Type 0
ReadsAs view (Ok x) rest read = read ≡ Ok (view x, rest)
ReadsAs view (Err e) rest read = read ≡ Err e

-- ---- the frame of a record: a tag, a time, a length and `length` bytes

abbrev pub block_at : List ℕ → Result (List ℕ × List ℕ) Flaw
block_at = as_at (λ p. p.1) (then_at (number_at 4) (λ n. raw_at n))

unfoldable pub frame_at : List ℕ → Result ((ℕ × ℕ × List ℕ) × List ℕ) Flaw
frame_at [] = Err Short
frame_at (tag ∷ bytes) = as_at (λ p. (tag, p.0, p.1)) (then_at (number_at 4) (λ _. block_at)) bytes

-- the code of a flaw
abbrev pub flaw_code : Flaw → ℕ
flaw_code UnknownTag = 5
flaw_code Short = 6
flaw_code WrongType = 7
