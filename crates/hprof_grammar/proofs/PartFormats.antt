-- The formats of the parts of sub-records, one for each kind of part.
use Rattle.hprof_grammar.proofs.Words.{Class, Constant, InArray, InConstant, InMember, InStatic, Instance, IsClass}
use Rattle.hprof_grammar.proofs.Words.{IsConstant, IsInstance, IsMember, IsObjectArray, IsPrimitiveArray, IsStatic}
use Rattle.hprof_grammar.proofs.Words.{Member, ObjectArray, PrimitiveArray, Static, [], class_fields, constant_at}
use Rattle.hprof_grammar.proofs.Words.{constant_fields, flat_map_single, instance_fields, length, member_at}
use Rattle.hprof_grammar.proofs.Words.{member_fields, number, number_at, numbers_at, object_array_fields}
use Rattle.hprof_grammar.proofs.Words.{primitive_array_fields, refl, size_of, static_at, static_fields, then_at, ℕ, ◌*◌}
use Rattle.hprof_grammar.proofs.Words.{◌<◌, ◌^◌, ◌∷◌}
use Rattle.hprof_grammar.specs.working.Reading.{class_dump_at, instance_at, object_array_at, primitive_array_at}
use Rattle.hprof_grammar.proofs.Format.{IsFormat, number_format, raw_format, type_format}
use Rattle.hprof_grammar.proofs.Combined.{as_format, counted_format, list_format, pair_format, ◌⨾◌}
use Rattle.hprof_grammar.proofs.Fields.{◌&◌}

constant_format : (s : ℕ) → IsFormat (IsConstant s) constant_fields (constant_at s)
constant_format s = as_format {from = λ (c : Constant). (c.index, (c.type, c.value))}
    (number_format 2 ⨾ pair_format (type_format InConstant) (λ (t : ℕ). raw_format (size_of s t)))
    (record {
      well_to = λ p h. record { index = h.0; value = h.1.1 };
      well_from = λ c h. (h.index, (tt, h.value));
      fields_to = λ p h. refl;
      fields_from = λ c h. refl;
      back = λ c h. refl;
    })

static_format : (s : ℕ) → IsFormat (IsStatic s) (static_fields s) (static_at s)
static_format s = as_format {from = λ (f : Static). (f.name, (f.type, f.value))}
    (number_format s ⨾ pair_format (type_format InStatic) (λ (t : ℕ). raw_format (size_of s t)))
    (record {
      well_to = λ p h. record { name = h.0; value = h.1.1 };
      well_from = λ f h. (h.name, (tt, h.value));
      fields_to = λ p h. refl;
      fields_from = λ f h. refl;
      back = λ f h. refl;
    })

member_format : (s : ℕ) → IsFormat (IsMember s) (member_fields s) (member_at s)
member_format s = as_format {from = λ (m : Member). (m.name, m.type)}
    (number_format s ⨾ type_format InMember)
    (record {
      well_to = λ p h. h.0;
      well_from = λ m h. (h, tt);
      fields_to = λ p h. refl;
      fields_from = λ m h. refl;
      back = λ m h. refl;
    })

pub class_format : (s : ℕ) → IsFormat (IsClass s) (class_fields s) (class_dump_at s)
unfolding class_dump_at
class_format s = as_format
    {from = λ (c : Class). c.object & c.stack & c.super & c.loader & c.signers & c.domain & c.reserved & c.reserved_too
    & c.instance_size & c.constants & c.statics & c.members}
    (number_format s ⨾ number_format 4 ⨾ number_format s ⨾ number_format s ⨾ number_format s ⨾ number_format s
    ⨾ number_format s ⨾ number_format s ⨾ number_format 4 ⨾ counted_format 2 (constant_format s)
    ⨾ counted_format 2 (static_format s) ⨾ counted_format 2 (member_format s))
    (record {
      well_to = λ p h. record {
        object = h.0;
        stack = h.1.0;
        super = h.1.1.0;
        loader = h.1.1.1.0;
        signers = h.1.1.1.1.0;
        domain = h.1.1.1.1.1.0;
        reserved = h.1.1.1.1.1.1.0;
        reserved_too = h.1.1.1.1.1.1.1.0;
        instance_size = h.1.1.1.1.1.1.1.1.0;
        constant_count = h.1.1.1.1.1.1.1.1.1.0.0;
        constants = h.1.1.1.1.1.1.1.1.1.0.1;
        static_count = h.1.1.1.1.1.1.1.1.1.1.0.0;
        statics = h.1.1.1.1.1.1.1.1.1.1.0.1;
        member_count = h.1.1.1.1.1.1.1.1.1.1.1.0;
        members = h.1.1.1.1.1.1.1.1.1.1.1.1;
      };
      well_from = λ c h. h.object & h.stack & h.super & h.loader & h.signers & h.domain & h.reserved & h.reserved_too
          & h.instance_size & (h.constant_count & h.constants) & (h.static_count & h.statics)
          & (h.member_count & h.members);
      fields_to = λ p h. refl;
      fields_from = λ c h. refl;
      back = λ c h. refl;
    })

pub instance_format : (s : ℕ) → IsFormat (IsInstance s) (instance_fields s) (instance_at s)
unfolding instance_at
instance_format s = as_format {from = λ (i : Instance). (i.object, (i.stack, (i.class, (length i.values, i.values))))}
    (number_format s ⨾ number_format 4 ⨾ number_format s ⨾ pair_format (number_format 4) (λ (n : ℕ). raw_format n))
    (record {
      well_to = λ p h. record { object = h.0; stack = h.1.0; class = h.1.1.0; values = rw (h.1.1.1.1) h.1.1.1.0 };
      well_from = λ i h. (h.object, (h.stack, (h.class, (h.values, refl))));
      fields_to = λ p h. rw (h.1.1.1.1) refl;
      fields_from = λ i h. refl;
      back = λ i h. refl;
    })

pub object_array_format : (s : ℕ) → IsFormat (IsObjectArray s) (object_array_fields s) (object_array_at s)
unfolding object_array_at
object_array_format s = as_format
    {from = λ (a : ObjectArray). (a.object, (a.stack, (length a.elements, (a.class, a.elements))))}
    (number_format s ⨾ number_format 4
    ⨾ pair_format (number_format 4) (λ (n : ℕ). number_format s ⨾ list_format (number_format s) n))
    (record {
      well_to = λ p h. record {
        object = h.0;
        stack = h.1.0;
        class = h.1.1.1.0;
        count = rw (h.1.1.1.1.0) h.1.1.0;
        elements = h.1.1.1.1.1;
      };
      well_from = λ a h. (h.object, (h.stack, (h.count, (h.class, (refl, h.elements)))));
      fields_to = λ p h. rw (h.1.1.1.1.0, flat_map_single (number s) p.1.1.1.1) refl;
      fields_from = λ a h. rw (flat_map_single (number s) a.elements) refl;
      back = λ a h. refl;
    })

pub primitive_array_format : (s : ℕ) → IsFormat (IsPrimitiveArray s) (primitive_array_fields s) (primitive_array_at s)
unfolding primitive_array_at
primitive_array_format s = as_format
    {from = λ (a : PrimitiveArray). (a.object, (a.stack, (a.count, (a.type, a.values))))}
    (number_format s ⨾ number_format 4
    ⨾ pair_format (number_format 4) (λ n. pair_format (type_format InArray) (λ t. raw_format (n * size_of s t))))
    (record {
      well_to = λ p h. record { object = h.0; stack = h.1.0; count = h.1.1.0; values = h.1.1.1.1 };
      well_from = λ a h. (h.object, (h.stack, (h.count, (tt, h.values))));
      fields_to = λ p h. refl;
      fields_from = λ a h. refl;
      back = λ a h. refl;
    })

-- roots: an object; an object and a number; an object and two numbers of 4 bytes

pub two_numbers : (a b : ℕ) → IsFormat (λ (p : ℕ × ℕ). (p.0 < 256 ^ a) × (p.1 < 256 ^ b))
    (λ p. number a p.0 ∷ number b p.1 ∷ []) (numbers_at a b)
two_numbers a b = number_format a ⨾ number_format b

pub three_numbers : (s : ℕ) → IsFormat (λ (p : ℕ × (ℕ × ℕ)). (p.0 < 256 ^ s)
    × ((p.1.0 < 256 ^ 4) × (p.1.1 < 256 ^ 4))) (λ p. number s p.0 ∷ number 4 p.1.0 ∷ number 4 p.1.1 ∷ [])
    (then_at (number_at s) (λ _. numbers_at 4 4))
three_numbers s = number_format s ⨾ two_numbers 4 4
