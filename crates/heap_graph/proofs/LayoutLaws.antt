-- The layout of a class, by that of its superclass.
use Rattle.heap_graph.proofs.Words.{Class, IsChainAt, IsFirst, List, Member, None, Option, Some, SubRecord, [], ap}
use Rattle.heap_graph.proofs.Words.{arith, declared_fields, layout, layout_size, map, min, most_size, own_fields, refl}
use Rattle.heap_graph.proofs.Words.{size_of, size_of_fields, size_together, sum_by-append, sum_by-cons, sym, ℕ, ◌++◌}
use Rattle.heap_graph.proofs.Words.{◌+◌, ◌∙◌, ◌∷◌, ◌≡◌}

-- ---- the sizes of fields, each with the class that declares it

members_size : (s : ℕ) (c : Class) (ms : List Member) → size_of_fields s (map (λ m. (c, m)) ms) ≡ size_together s ms
members_size s c [] = refl
members_size s c (m ∷ ms) =
    sum_by-cons (λ (f : Class × Member). size_of s f.1.type) (c, m) (map (λ m. (c, m)) ms)
    ∙ ap (λ (n : ℕ). size_of s m.type + n) (members_size s c ms)
    ∙ sym (sum_by-cons (λ (x : Member). size_of s x.type) m ms)

pub own_fields_size : (s : ℕ) (c : Class) → size_of_fields s (own_fields c) ≡ size_together s c.members
own_fields_size s c = members_size s c c.members

pub size_more : (s : ℕ) (c : Class) (rest : List Class)
    → layout_size s (c ∷ rest) ≡ size_together s c.members + layout_size s rest
size_more s c rest = sum_by-append (λ (m : Member). size_of s m.type) c.members (layout rest)

pub size_by_fields : (s : ℕ) (chain : List Class) → layout_size s chain ≡ size_of_fields s (declared_fields chain)
size_by_fields s [] = refl
size_by_fields s (c ∷ rest) =
    size_more s c rest ∙ ap (λ (n : ℕ). size_together s c.members + n) (size_by_fields s rest)
    ∙ ap (λ (n : ℕ). n + size_of_fields s (declared_fields rest)) (sym (own_fields_size s c))
    ∙ sym (sum_by-append (λ (f : Class × Member). size_of s f.1.type) (own_fields c) (declared_fields rest))

-- ---- the first class with fields

no_own_fields : (c : Class) (rest : List Class) → c.members ≡ []
    → declared_fields (c ∷ rest) ≡ declared_fields rest
no_own_fields c rest none = ap (λ (ms : List Member). map (λ m. (c, m)) ms ++ declared_fields rest) none

pub first_above : (heap : List SubRecord) (ids : List ℕ) (c : Class) (rest : List Class) (first : Option ℕ)
    → c.members ≡ [] → IsFirst heap ids (declared_fields rest) first
    → IsFirst heap ids (declared_fields (c ∷ rest)) first
first_above heap ids c rest None none is = no_own_fields c rest none ∙ is
first_above heap ids c rest (Some k) none is = record {
  class = is.class;
  rest = is.rest;
  below = is.below;
  named = is.named;
  chain = is.chain;
  some_field = is.some_field;
  fields_are = no_own_fields c rest none ∙ is.fields_are;
}

pub first_here : (heap : List SubRecord) (ids : List ℕ) (k : ℕ) (c : Class) (rest : List Class) → (c.members ≡ [] → ⊥)
    → IsChainAt heap ids k c rest → IsFirst heap ids (declared_fields (c ∷ rest)) (Some k)
first_here heap ids k c rest some at = record {
  class = c;
  rest = rest;
  below = at.below;
  named = at.named;
  chain = at.chain;
  some_field = some;
  fields_are = refl;
}

-- ---- sizes

pub size_told : (own above size told : ℕ) → above ≡ min most_size size → told ≡ min (own + above) most_size
    → told ≡ min most_size (own + size)
size_told own above size told e f = omega (arith, e, f)
