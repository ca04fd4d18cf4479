-- The layout of an instance, and the chain of its class.
use Rattle.heap_graph.proofs.Words.{Bool, Class, Fate, Instance, InstanceSize, IsBadSuper, IsChain, IsCut, IsFate}
use Rattle.heap_graph.proofs.Words.{IsLine, IsLinked, IsSettled, Layout, List, Member, NeverEnds, Some, SubRecord}
use Rattle.heap_graph.proofs.Words.{SuperChain, [], arith, big_number, cases_eq, class_dump, class_named, drop}
use Rattle.heap_graph.proofs.Words.{eqb-true, false, field_ids, if◌then◌else◌, inl, inr, instance_dump, layout_size}
use Rattle.heap_graph.proofs.Words.{length, length-append, not, objects, refl, size_of, size_of_fields, slice_get}
use Rattle.heap_graph.proofs.Words.{subst, sum_by-cons, sym, take, true, ℕ, ⊎_elim, ◌&&◌, ◌+◌, ◌==◌, ◌∙◌, ◌∷◌, ◌≡◌, ◌≤◌}
use Rattle.heap_graph.specs.declared.classes.fate.Fate.TheVariants as fates
use Rattle.heap_graph.proofs.ChainLaws.{some_inj, some_none}
use Rattle.heap_graph.proofs.FieldLaws.{ids_here, of_id_type, size_of_id_type}
use Rattle.heap_graph.proofs.Linking.{class_there}

-- ---- a whole instance

-- the values of an instance have the size of its layout
pub right_size : (s : ℕ) (heap : List SubRecord) (n : ℕ) (i : Instance) (chain : List Class) → IsLinked s heap
    → slice_get (objects heap) n ≡ Some (instance_dump i) → IsChain heap i.class chain
    → length i.values ≡ layout_size s chain
right_size s heap n i chain linked is chain_is =
    ⊎_elim (λ e. e) (λ other. absurd (linked n InstanceSize (instance_dump i, is, (chain, chain_is, other))))
    (cases_eq (length i.values) (layout_size s chain))

few_if : (s t : ℕ) (values : List ℕ) (b : Bool) → (b ≡ true → t ≡ 2) → 1 ≤ s
    → length (if b then big_number s (take s values) ∷ [] else []) ≤ size_of s t
few_if s t values true e low = omega (arith, low, size_of_id_type s t (e refl))
few_if s t values false e low = omega arith

-- fields have no more identifiers than bytes
pub few_fields : (skips : Class → Member → Bool) (s : ℕ) (fs : List (Class × Member)) (values : List ℕ) → 1 ≤ s
    → length (field_ids skips s fs values) ≤ size_of_fields s fs
few_fields skips s [] values low = omega arith
few_fields skips s (f ∷ fs) values low =
    let skipped = skips f.0 f.1 in
    let typed = f.1.type == 2 in
    omega (
      arith,
      few_if s f.1.type values (not skipped && typed) (λ e. eqb-true f.1.type 2 (of_id_type skipped typed e)) low,
      few_fields skips s fs (drop (size_of s f.1.type) values) low,
      length-append (ids_here skips s f values) (field_ids skips s fs (drop (size_of s f.1.type) values)),
      sum_by-cons (λ (g : Class × Member). size_of s g.1.type) f fs,
    )

-- ---- in a linked heap list each chain is whole

never_up : (heap : List SubRecord) (id : ℕ) (c : Class) → class_named heap id ≡ Some c → NeverEnds heap id
    → NeverEnds heap c.super
never_up heap id c named never n = up (never (n + 1)).0 (never (n + 1)).1 (never (n + 1)).2
  where
    up : (line : List Class) → length line ≡ n + 1 → IsLine heap id line → (classes : List Class)
        × (length classes ≡ n) × IsLine heap c.super classes
    up [] e is = absurd (omega (arith, e))
    up (d ∷ ds) e is =
        (ds, omega (arith, e), subst (λ (x : Class). IsLine heap x.super ds) (some_inj (sym is.0 ∙ named)) is.1)

module _ (s : ℕ) (heap : List SubRecord) where
  bad_not_linked : (id : ℕ) (c : Class) → IsLinked s heap → class_named heap id ≡ Some c → IsBadSuper heap c.super → ⊥
  bad_not_linked id c linked named bad =
      let it = class_there heap id c named in linked it.number SuperChain (class_dump c, it.is, bad)

  cut_not_linked : (id : ℕ) (c : Class) (classes : List Class) → IsLinked s heap → class_named heap id ≡ Some c
      → IsCut heap id classes → ⊥
  cut_not_linked id c [] linked named cut = some_none (sym named ∙ cut.1)
  cut_not_linked id c (d ∷ []) linked named cut = bad_not_linked id d linked cut.0 (inl (cut.1.0, cut.1.1))
  cut_not_linked id c (d ∷ e ∷ rest) linked named cut = cut_not_linked d.super e (e ∷ rest) linked cut.1.0 cut.1

  pub linked_whole : (ids : List ℕ) (id : ℕ) (c : Class) (f : Fate) → IsLinked s heap → class_named heap id ≡ Some c
      → IsSettled f → ((l : Layout) → f ≡ fates.Whole l → ⊥) → IsFate s heap ids id f → ⊥
  linked_whole ids id c (fates.Whole l) linked named settled other fate = other l refl
  linked_whole ids id c fates.Broken linked named settled other fate = cut_not_linked id c fate.0 linked named fate.1
  linked_whole ids id c fates.Endless linked named settled other fate =
      bad_not_linked id c linked named (inr (never_up heap id c named fate))
  linked_whole ids id c f linked named settled other fate = settled
