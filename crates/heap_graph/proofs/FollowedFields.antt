-- The identifiers in the fields that are followed. If the list is empty, they are those in all fields.
use Rattle.heap_graph.proofs.Words.{Class, Instance, List, Member, Record, [], ap, big_number, declared_fields, drop}
use Rattle.heap_graph.proofs.Words.{false, field_ids, if◌then◌else◌, is_skipped, layout, map, map-append, own_fields}
use Rattle.heap_graph.proofs.Words.{refl, size_of, take, ℕ, ◌++◌, ◌==◌, ◌∙◌, ◌∷◌, ◌≡◌}
use Rattle.heap_graph.specs.Fields.{all_field_ids}
use Rattle.heap_graph.specs.References.{instance_ids}

own_members : (c : Class) (ms : List Member) → map (λ (f : Class × Member). f.1) (map (λ m. (c, m)) ms) ≡ ms
own_members c [] = refl
own_members c (m ∷ ms) = ap (λ (xs : List Member). m ∷ xs) (own_members c ms)

-- declared fields without their classes are the layout
pub members_of : (chain : List Class) → map (λ (f : Class × Member). f.1) (declared_fields chain) ≡ layout chain
members_of [] = refl
members_of (c ∷ cs) =
    map-append (λ (f : Class × Member). f.1) (own_fields c) (declared_fields cs)
    ∙ ap (λ (xs : List Member). xs ++ map (λ (f : Class × Member). f.1) (declared_fields cs)) (own_members c c.members)
    ∙ ap (λ (xs : List Member). c.members ++ xs) (members_of cs)

all_followed : (s : ℕ) (fs : List (Class × Member)) (values : List ℕ)
    → field_ids (λ c m. false) s fs values ≡ all_field_ids s (map (λ f. f.1) fs) values
all_followed s [] values = refl
all_followed s (f ∷ fs) values =
    ap (λ (xs : List ℕ). (if f.1.type == 2 then big_number s (take s values) ∷ [] else []) ++ xs)
    (all_followed s fs (drop (size_of s f.1.type) values))

pub empty_skips_nothing : (records : List Record) (s : ℕ) (i : Instance) (chain : List Class)
    → instance_ids (is_skipped records []) s i chain ≡ i.class ∷ all_field_ids s (layout chain) i.values
empty_skips_nothing records s i chain =
    ap (λ (ids : List ℕ). i.class ∷ ids)
    (all_followed s (declared_fields chain) i.values
    ∙ ap (λ (ms : List Member). all_field_ids s ms i.values) (members_of chain))
