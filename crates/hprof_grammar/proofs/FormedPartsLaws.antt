-- A sub-record is formed exactly if it keeps the bounds of `specs/FormedParts.antt`. The proof goes through the fields
-- once, for all others.
use Rattle.hprof_grammar.proofs.Words.{AllByRecursion, Class, Constant, Field, Fits, HasBounds, HasSizes, IsClass}
use Rattle.hprof_grammar.proofs.Words.{IsConstant, IsFormed, IsMember, IsOrigin, IsStatic, List, Member, RootOrigin}
use Rattle.hprof_grammar.proofs.Words.{Static, SubRecord, [], class_dump, class_fields, constant_fields, counted_fields}
use Rattle.hprof_grammar.proofs.Words.{fields_from_constants, fields_from_members, fields_from_statics, fields_of}
use Rattle.hprof_grammar.proofs.Words.{flat_map, instance_dump, is_sub_tag, java_frame, jni_global, jni_local, length}
use Rattle.hprof_grammar.proofs.Words.{map, member_fields, native_stack, number, object_array_dump, origin_fields}
use Rattle.hprof_grammar.proofs.Words.{primitive_array_dump, root, size_of, static_fields, thread_block, thread_object}
use Rattle.hprof_grammar.proofs.Words.{true, ℕ, ◌<◌, ◌^◌, ◌∷◌, ◌≡◌}
use Rattle.hprof_grammar.specs.SubRecord.{tag_of}
use Rattle.hprof_grammar.proofs.Fields.{all_join, all_split, ◌&◌}

-- ---- from the fields to the bounds

constants_bound : (s : ℕ) (ks : List Constant) → AllByRecursion Fits (flat_map constant_fields ks)
    → AllByRecursion (λ k. length k.value ≡ size_of s k.type) ks → AllByRecursion (IsConstant s) ks
constants_bound s [] fit sizes = tt
constants_bound s (k ∷ ks) fit sizes =
    (record { index = fit.0; value = sizes.0 }, constants_bound s ks fit.1.1.1 sizes.1)

statics_bound : (s : ℕ) (fs : List Static) → AllByRecursion Fits (flat_map (static_fields s) fs)
    → AllByRecursion (λ f. length f.value ≡ size_of s f.type) fs → AllByRecursion (IsStatic s) fs
statics_bound s [] fit sizes = tt
statics_bound s (f ∷ fs) fit sizes = (record { name = fit.0; value = sizes.0 }, statics_bound s fs fit.1.1.1 sizes.1)

members_bound : (s : ℕ) (ms : List Member) → AllByRecursion Fits (flat_map (member_fields s) ms)
    → AllByRecursion (IsMember s) ms
members_bound s [] fit = tt
members_bound s (m ∷ ms) fit = (fit.0, members_bound s ms fit.1.1)

elements_bound : (s : ℕ) (es : List ℕ) → AllByRecursion Fits (map (number s) es) → AllByRecursion (λ e. e < 256 ^ s) es
elements_bound s [] fit = tt
elements_bound s (e ∷ es) fit = (fit.0, elements_bound s es fit.1)

class_bound : (s : ℕ) (c : Class) → AllByRecursion Fits (class_fields s c) → HasSizes s (class_dump c) → IsClass s c
class_bound s c fit sizes =
    let constants = counted_fields constant_fields c.constants in
    let statics = counted_fields (static_fields s) c.statics in
    let from_constants = all_split Fits constants (fields_from_statics s c) fit.1.1.1.1.1.1.1.1.1 in
    let from_statics = all_split Fits statics (fields_from_members s c) from_constants.1 in
    record {
      object = fit.0;
      stack = fit.1.0;
      super = fit.1.1.0;
      loader = fit.1.1.1.0;
      signers = fit.1.1.1.1.0;
      domain = fit.1.1.1.1.1.0;
      reserved = fit.1.1.1.1.1.1.0;
      reserved_too = fit.1.1.1.1.1.1.1.0;
      instance_size = fit.1.1.1.1.1.1.1.1.0;
      constant_count = from_constants.0.0;
      constants = constants_bound s c.constants from_constants.0.1 sizes.0;
      static_count = from_statics.0.0;
      statics = statics_bound s c.statics from_statics.0.1 sizes.1;
      member_count = from_statics.1.0;
      members = members_bound s c.members from_statics.1.1;
    }

origin_bound : (s : ℕ) (origin : RootOrigin) → AllByRecursion Fits (origin_fields s origin) → IsOrigin s origin
origin_bound s (jni_global reference) fit = fit.0
origin_bound s (jni_local thread frame) fit = (fit.0, fit.1.0)
origin_bound s (java_frame thread frame) fit = (fit.0, fit.1.0)
origin_bound s (native_stack thread) fit = fit.0
origin_bound s (thread_block thread) fit = fit.0
origin_bound s (thread_object thread stack) fit = (fit.0, fit.1.0)
origin_bound s o fit = tt

bounds_of : (s : ℕ) (sub : SubRecord) → AllByRecursion Fits (fields_of s sub) → HasSizes s sub → HasBounds s sub
bounds_of s (root r) fit sizes = record { object = fit.0; origin = origin_bound s r.origin fit.1 }
bounds_of s (class_dump c) fit sizes = class_bound s c fit sizes
bounds_of s (instance_dump i) fit sizes =
    record { object = fit.0; stack = fit.1.0; class = fit.1.1.0; values = fit.1.1.1.0 }
bounds_of s (object_array_dump a) fit sizes = record {
  object = fit.0;
  stack = fit.1.0;
  class = fit.1.1.1.0;
  count = fit.1.1.0;
  elements = elements_bound s a.elements fit.1.1.1.1;
}
bounds_of s (primitive_array_dump a) fit sizes =
    record { object = fit.0; stack = fit.1.0; count = fit.1.1.0; values = sizes }

pub bounds : {s : ℕ} {sub : SubRecord} → IsFormed s sub → HasBounds s sub
bounds {s} {sub} formed = bounds_of s sub formed.numbers formed.sizes

-- ---- from the bounds to the fields

-- the fields of each element of a list fit
each_fit : {X : Type 0} (fields : X → List Field) (Is : X → Type 0)
    → ((x : X) → Is x → AllByRecursion Fits (fields x)) → (xs : List X) → AllByRecursion Is xs
    → AllByRecursion Fits (flat_map fields xs)
each_fit fields Is fit [] all = tt
each_fit fields Is fit (x ∷ xs) all =
    all_join Fits (fields x) (flat_map fields xs) (fit x all.0) (each_fit fields Is fit xs all.1)

constants_sized : (s : ℕ) (ks : List Constant) → AllByRecursion (IsConstant s) ks
    → AllByRecursion (λ k. length k.value ≡ size_of s k.type) ks
constants_sized s [] bound = tt
constants_sized s (k ∷ ks) bound = (bound.0.value, constants_sized s ks bound.1)

statics_sized : (s : ℕ) (fs : List Static) → AllByRecursion (IsStatic s) fs
    → AllByRecursion (λ f. length f.value ≡ size_of s f.type) fs
statics_sized s [] bound = tt
statics_sized s (f ∷ fs) bound = (bound.0.value, statics_sized s fs bound.1)

elements_fit : (s : ℕ) (es : List ℕ) → AllByRecursion (λ e. e < 256 ^ s) es → AllByRecursion Fits (map (number s) es)
elements_fit s [] bound = tt
elements_fit s (e ∷ es) bound = (bound.0, elements_fit s es bound.1)

counted_parts_fit : (s : ℕ) (c : Class) → IsClass s c → AllByRecursion Fits (fields_from_constants s c)
counted_parts_fit s c bound =
    all_join Fits (counted_fields constant_fields c.constants) (fields_from_statics s c)
    (bound.constant_count
    & each_fit constant_fields (IsConstant s) (λ k h. h.index & tt & tt & tt) c.constants bound.constants)
    (all_join Fits (counted_fields (static_fields s) c.statics) (fields_from_members s c)
    (bound.static_count
    & each_fit (static_fields s) (IsStatic s) (λ f h. h.name & tt & tt & tt) c.statics bound.statics)
    (bound.member_count & each_fit (member_fields s) (IsMember s) (λ m h. h & tt & tt) c.members bound.members))

class_fit : (s : ℕ) (c : Class) → IsClass s c → AllByRecursion Fits (class_fields s c)
class_fit s c bound = bound.object & bound.stack & bound.super & bound.loader & bound.signers & bound.domain
    & bound.reserved & bound.reserved_too & bound.instance_size & counted_parts_fit s c bound

origin_fit : (s : ℕ) (origin : RootOrigin) → IsOrigin s origin → AllByRecursion Fits (origin_fields s origin)
origin_fit s (jni_global reference) bound = (bound, tt)
origin_fit s (jni_local thread frame) bound = (bound.0, (bound.1, tt))
origin_fit s (java_frame thread frame) bound = (bound.0, (bound.1, tt))
origin_fit s (native_stack thread) bound = (bound, tt)
origin_fit s (thread_block thread) bound = (bound, tt)
origin_fit s (thread_object thread stack) bound = (bound.0, (bound.1, tt))
origin_fit s o bound = tt

numbers_fit : (s : ℕ) (sub : SubRecord) → HasBounds s sub → AllByRecursion Fits (fields_of s sub)
numbers_fit s (root r) bound = (bound.object, origin_fit s r.origin bound.origin)
numbers_fit s (class_dump c) bound = class_fit s c bound
numbers_fit s (instance_dump i) bound = (bound.object, (bound.stack, (bound.class, (bound.values, (tt, tt)))))
numbers_fit s (object_array_dump a) bound =
    (bound.object, (bound.stack, (bound.count, (bound.class, elements_fit s a.elements bound.elements))))
numbers_fit s (primitive_array_dump a) bound = (bound.object, (bound.stack, (bound.count, (tt, (tt, tt)))))

sized : (s : ℕ) (sub : SubRecord) → HasBounds s sub → HasSizes s sub
sized s (class_dump c) bound =
    (constants_sized s c.constants bound.constants, statics_sized s c.statics bound.statics)
sized s (primitive_array_dump a) bound = bound.values
sized s sub bound = tt

pub formed_by : {s : ℕ} {sub : SubRecord} → is_sub_tag (tag_of sub) ≡ true → HasBounds s sub → IsFormed s sub
formed_by {s} {sub} tag bound =
    record { tag = tag; numbers = numbers_fit s sub bound; sizes = sized s sub bound }
