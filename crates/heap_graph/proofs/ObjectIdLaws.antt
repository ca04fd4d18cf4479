-- The identifiers that an object holds, one part after another.
use Rattle.heap_graph.proofs.Words.{AllByRecursion, AreIdsOf, Bool, Class, Instance, IsStatic, LabelledValue, List}
use Rattle.heap_graph.proofs.Words.{Member, ObjectArray, Objects, Option, SubRecord, [], ap, arith, big_number}
use Rattle.heap_graph.proofs.Words.{class_dump, declared_fields, eqb-true, false, field_ids, filter, ids_of}
use Rattle.heap_graph.proofs.Words.{if◌then◌else◌, instance_dump, length, length-append, length-map, map}
use Rattle.heap_graph.proofs.Words.{object_array_dump, of_static, primitive_array_dump, refl, size_of, subst, sym, true}
use Rattle.heap_graph.proofs.Words.{values_ids, with_class, ℕ, ◌++◌, ◌+◌, ◌<◌, ◌==◌, ◌^◌, ◌∙◌, ◌∷◌, ◌≡◌, ◌≤◌}
use Rattle.hprof_grammar.specs.FormedParts.{IsClass, IsConstant}
use Rattle.hprof_grammar.specs.SubRecord.{PrimitiveArray}
use Rattle.hprof_grammar.specs.Series.{of_constant}
use Rattle.heap_graph.specs.References.{class_ids, constant_ids, static_ids}
use Rattle.heap_graph.specs.working.ObjectIds.{IsFirstOfInstance, IsLayoutFrom}
use Rattle.heap_graph.specs.working.Values.{AreClassValues, AreIdValues, IsIdValue}
use Rattle.heap_graph.proofs.FieldLaws.{size_of_id_type}
use Rattle.heap_graph.proofs.InstanceLaws.{few_fields}
use Rattle.heap_graph.proofs.LayoutLaws.{size_by_fields}

-- ---- the identifiers of a class

id_value : (s type : ℕ) (value : List ℕ) → 1 ≤ s → s ≤ 8 → length value ≡ size_of s type → IsIdValue type value
id_value s type value low high size is =
    let e : size_of s type ≡ s = size_of_id_type s type is in
    (omega (arith, low, e, size), omega (arith, high, e, size))

one_value : (s type : ℕ) (value : List ℕ) (b : Bool) → (type == 2) ≡ b → length value ≡ size_of s type
    → (if b then big_number (length value) value ∷ [] else []) ≡ (if b then big_number s value ∷ [] else [])
one_value s type value false e size = refl
one_value s type value true e size =
    ap (λ (n : ℕ). big_number n value ∷ []) (size ∙ size_of_id_type s type (eqb-true type 2 e))

kept_first : {X : Type 0} (g : X → ℕ) (x : X) (xs : List X) (b : Bool)
    → (if b then g x ∷ [] else []) ++ map g xs ≡ map g (if b then x ∷ xs else xs)
kept_first g x xs true = refl
kept_first g x xs false = refl

few_kept : {X : Type 0} (g : X → ℕ) (x : X) (xs : List X) (n : ℕ) (b : Bool) → length (map g xs) ≤ n
    → length (map g (if b then x ∷ xs else xs)) ≤ 1 + n
few_kept g x xs n true h = omega (arith, h)
few_kept g x xs n false h = omega (arith, h)

-- the identifiers among the values of a list of constants or static fields
abbrev ids_among : {X : Type 0} → (X → LabelledValue) → ℕ → List X → List ℕ
ids_among taken s xs = map (λ x. big_number s (taken x).value) (filter (λ x. (taken x).type == 2) xs)

few_ids : {X : Type 0} (taken : X → LabelledValue) (s : ℕ) (xs : List X) → length (ids_among taken s xs) ≤ length xs
few_ids taken s [] = omega arith
few_ids taken s (x ∷ xs) =
    let h = few_kept (λ y. big_number s (taken y).value) x (filter (λ y. (taken y).type == 2) xs) (length xs)
    ((taken x).type == 2) (few_ids taken s xs) in omega (arith, h)

-- constants and static fields: each value has the size of its type
module _ {X : Type 0} (taken : X → LabelledValue) (IsFormed : X → Type 0) (s : ℕ)
    (size : (x : X) → IsFormed x → length (taken x).value ≡ size_of s (taken x).type) where
  values_fit : (xs : List X) → 1 ≤ s → s ≤ 8 → AllByRecursion IsFormed xs → AreIdValues (map taken xs)
  values_fit [] low high all = tt
  values_fit (x ∷ xs) low high all =
      (id_value s (taken x).type (taken x).value low high (size x all.0), values_fit xs low high all.1)

  values_are : (xs : List X) → AllByRecursion IsFormed xs → values_ids (map taken xs) ≡ ids_among taken s xs
  values_are [] all = refl
  values_are (x ∷ xs) all =
      ap (λ (ids : List ℕ). ids ++ values_ids (map taken xs))
      (one_value s (taken x).type (taken x).value ((taken x).type == 2) refl (size x all.0))
      ∙ ap (λ (ids : List ℕ). (if (taken x).type == 2 then big_number s (taken x).value ∷ [] else []) ++ ids)
      (values_are xs all.1)
      ∙ kept_first (λ y. big_number s (taken y).value) x (filter (λ y. (taken y).type == 2) xs) ((taken x).type == 2)

  class_values : (xs : List X) (values : List LabelledValue) → 1 ≤ s → s ≤ 8 → AllByRecursion IsFormed xs
      → length xs < 256 ^ 2 → values ≡ map taken xs → AreClassValues values
  class_values xs values low high all few e = record {
    few = omega (arith, ap length e, length-map xs taken, few);
    fit = subst (λ (vs : List LabelledValue). AreIdValues vs) (sym e) (values_fit xs low high all);
  }

pub class_constants : (s : ℕ) (c : Class) (values : List LabelledValue) → 1 ≤ s → s ≤ 8 → IsClass s c
    → values ≡ map of_constant c.constants → AreClassValues values
class_constants s c values low high is e =
    class_values of_constant (IsConstant s) s (λ k formed. formed.value) c.constants values low high is.constants
    is.constant_count e

pub class_statics : (s : ℕ) (c : Class) (values : List LabelledValue) → 1 ≤ s → s ≤ 8 → IsClass s c
    → values ≡ map of_static c.statics → AreClassValues values
class_statics s c values low high is e =
    class_values of_static (IsStatic s) s (λ f formed. formed.value) c.statics values low high is.statics
    is.static_count e

pub class_parts : (s : ℕ) (c : Class) (leading : List ℕ) (constants statics : List LabelledValue) → IsClass s c
    → leading ≡ c.super ∷ c.loader ∷ c.signers ∷ c.domain ∷ [] → constants ≡ map of_constant c.constants
    → statics ≡ map of_static c.statics
    → leading ++ values_ids constants ++ values_ids statics ≡ class_ids s c
class_parts s c leading constants statics is el ek ef =
    ap (λ (xs : List ℕ). xs ++ values_ids constants ++ values_ids statics) el
    ∙ ap (λ (xs : List ℕ). c.super ∷ c.loader ∷ c.signers ∷ c.domain ∷ xs ++ values_ids statics)
    (ap (λ (vs : List LabelledValue). values_ids vs) ek
    ∙ values_are of_constant (IsConstant s) s (λ k formed. formed.value) c.constants is.constants)
    ∙ ap (λ (xs : List ℕ). c.super ∷ c.loader ∷ c.signers ∷ c.domain ∷ constant_ids s c.constants ++ xs)
    (ap (λ (vs : List LabelledValue). values_ids vs) ef
    ∙ values_are of_static (IsStatic s) s (λ f formed. formed.value) c.statics is.statics)

pub few_in_class : (s : ℕ) (c : Class) → IsClass s c → length (class_ids s c) ≤ 2 ^ 32
few_in_class s c is = omega (
  arith,
  length-append (constant_ids s c.constants) (static_ids s c.statics),
  few_ids of_constant s c.constants,
  few_ids of_static s c.statics,
  is.constant_count,
  is.static_count,
)

pub class_holds : (skips : Class → Member → Bool) (s : ℕ) (heap : List SubRecord) (c : Class) (ids : List ℕ)
    → IsClass s c → ids ≡ class_ids s c → AreIdsOf skips s heap (class_dump c) ids
class_holds skips s heap c ids is e = record { are = e; few = omega (arith, ap length e, few_in_class s c is) }

-- ---- the identifiers of the other objects

pub layout_from : {A : Type 0} (o : Objects A) (heap : List SubRecord) (i : Instance) (first : Option ℕ)
    (values : List ℕ) (it : IsFirstOfInstance o.view.id_size heap (ids_of o.classes.table.entries) i first)
    → values ≡ i.values → IsLayoutFrom o heap (declared_fields it.chain) first values
layout_from o heap i first values it e = record {
  begins = it.begins;
  room = omega (arith, size_by_fields o.view.id_size it.chain, it.size_is, ap length e);
}

module _ (skips : Class → Member → Bool) {s : ℕ} {heap : List SubRecord} {ids : List ℕ} {i : Instance}
    {first : Option ℕ} (it : IsFirstOfInstance s heap ids i first) where
  -- an instance has no more identifiers than bytes
  pub few_in_instance : (fields values : List ℕ) → 1 ≤ s → length i.values < 256 ^ 4 → values ≡ i.values
      → fields ≡ field_ids skips s (declared_fields it.chain) values → length fields ≤ 2 ^ 32
  few_in_instance fields values low few ev ef =
      omega (
        arith,
        ap length ef,
        few_fields skips s (declared_fields it.chain) values low,
        size_by_fields s it.chain,
        it.size_is,
        few,
      )

  pub instance_holds : (class : ℕ) (fields values : List ℕ) → 1 ≤ s → length i.values < 256 ^ 4 → class ≡ i.class
      → values ≡ i.values → fields ≡ field_ids skips s (declared_fields it.chain) values
      → AreIdsOf skips s heap (instance_dump i) (class ∷ fields)
  instance_holds class fields values low few ec ev ef = record {
    are = (
      it.chain,
      it.is,
      ap (λ (x : ℕ). x ∷ fields) ec ∙ ap (λ (xs : List ℕ). i.class ∷ xs)
          (ef ∙ ap (λ (vs : List ℕ). field_ids skips s (declared_fields it.chain) vs) ev),
    );
    few = omega (arith, few_in_instance fields values low few ev ef);
  }

pub array_holds : (skips : Class → Member → Bool) (s : ℕ) (heap : List SubRecord) (a : ObjectArray) (class : ℕ)
    (elements : List ℕ) → length a.elements < 256 ^ 4 → class ≡ a.class → elements ≡ a.elements
    → AreIdsOf skips s heap (object_array_dump a) (class ∷ elements)
array_holds skips s heap a class elements few ec ee = record {
  are = ap (λ (x : ℕ). x ∷ elements) ec ∙ ap (λ (xs : List ℕ). a.class ∷ xs) ee;
  few = omega (arith, few, ap length ee);
}

-- the identifiers of an object: `class` and then `ids` if `class_is_known` is true, else `ids` only
pub with_known_class : (skips : Class → Member → Bool) (s : ℕ) (heap : List SubRecord) (o : SubRecord) (class : ℕ)
    (ids : List ℕ) (class_is_known : Bool) → class_is_known ≡ true → AreIdsOf skips s heap o (class ∷ ids)
    → AreIdsOf skips s heap o (with_class class_is_known class ids)
with_known_class skips s heap o class ids class_is_known is are =
    subst (λ (b : Bool). AreIdsOf skips s heap o (with_class b class ids)) (sym is) are

pub with_read_class : (skips : Class → Member → Bool) (s : ℕ) (heap : List SubRecord) (o : SubRecord) (class : ℕ)
    (ids : List ℕ) (class_is_known : Bool) → class_is_known ≡ false → AreIdsOf skips s heap o ids
    → AreIdsOf skips s heap o (with_class class_is_known class ids)
with_read_class skips s heap o class ids class_is_known is are =
    subst (λ (b : Bool). AreIdsOf skips s heap o (with_class b class ids)) (sym is) are

pub no_ids : (skips : Class → Member → Bool) (s : ℕ) (heap : List SubRecord) (a : PrimitiveArray)
    → AreIdsOf skips s heap (primitive_array_dump a) []
no_ids skips s heap a = record { are = refl; few = omega arith }
