-- What the fates of classes say of the rules on superclasses and sizes.
use Rattle.heap_graph.proofs.Words.{BreaksOfKind, Class, DuplicateObject, Fate, HasBadChain, HasWrongSize, HaveFates}
use Rattle.heap_graph.proofs.Words.{Instance, InstanceSize, IsBadSuper, IsChain, IsFate, IsRuleOfKind, IsSettled}
use Rattle.heap_graph.proofs.Words.{LacksClass, Layout, LinkRule, List, NeverEnds, None, ObjectArray, Sight, Some}
use Rattle.heap_graph.proofs.Words.{SubRecord, SuperChain, TableEntry, UnknownClass, ZeroObject, [], ap, arith}
use Rattle.heap_graph.proofs.Words.{class_dump, class_named, code_of, get_or, get_or_from_slice_get, ids_of, inl, inr}
use Rattle.heap_graph.proofs.Words.{instance_dump, layout_size, length, object_array_dump, position, refl, slice_get}
use Rattle.heap_graph.proofs.Words.{subst, sym, ℕ, ⊎_elim, ◌<◌, ◌==◌, ◌^◌, ◌∙◌, ◌≡◌, ◌≤◌, ◌⊎◌}
use Rattle.heap_graph.specs.declared.classes.fate.Fate.TheVariants as fates
use Rattle.heap_graph.proofs.ChainLaws.{chain_ends, cut_ends, cut_is_no_chain, one_chain, some_none}
use Rattle.heap_graph.proofs.ClassTableLaws.{found, named_at, numbered, same_count}

-- the fate of the class with the number k
pub record IsFateFound (s : ℕ) (heap : List SubRecord) (ids : List ℕ) (fates : List Fate) (id k : ℕ) : Type 0 where
  pub fate : Fate
  pub is : slice_get fates k ≡ Some fate
  pub settled : IsSettled fate
  pub says : IsFate s heap ids id fate
  pub class : Class
  pub named : class_named heap id ≡ Some class
  pub below : k < length fates

-- one of the other fates is not endless, and one of those that are not whole is not whole

pub not_endless : (f : Fate)
    → (f ≡ fates.Unknown) ⊎ (f ≡ fates.OnPath) ⊎ ((l : Layout) × (f ≡ fates.Whole l)) ⊎ (f ≡ fates.Broken)
    → f ≡ fates.Endless → ⊥
not_endless f (inl is) e = let wrong : fates.Unknown ≡ fates.Endless = sym is ∙ e in cc
not_endless f (inr (inl is)) e = let wrong : fates.OnPath ≡ fates.Endless = sym is ∙ e in cc
not_endless f (inr (inr (inl is))) e = let wrong : fates.Whole is.0 ≡ fates.Endless = sym is.1 ∙ e in cc
not_endless f (inr (inr (inr is))) e = let wrong : fates.Broken ≡ fates.Endless = sym is ∙ e in cc

pub not_whole : (f : Fate)
    → (f ≡ fates.Unknown) ⊎ (f ≡ fates.OnPath) ⊎ (f ≡ fates.Broken) ⊎ (f ≡ fates.Endless)
    → (l : Layout) → f ≡ fates.Whole l → ⊥
not_whole f (inl is) l e = let wrong : fates.Unknown ≡ fates.Whole l = sym is ∙ e in cc
not_whole f (inr (inl is)) l e = let wrong : fates.OnPath ≡ fates.Whole l = sym is ∙ e in cc
not_whole f (inr (inr (inl is))) l e = let wrong : fates.Broken ≡ fates.Whole l = sym is ∙ e in cc
not_whole f (inr (inr (inr is))) l e = let wrong : fates.Endless ≡ fates.Whole l = sym is ∙ e in cc

module _ (s : ℕ) (heap : List SubRecord) (ids : List ℕ) (id : ℕ) where
  -- ---- what a known fate rules out

  pub ends : (f : Fate) → IsSettled f → (f ≡ fates.Endless → ⊥) → IsFate s heap ids id f → NeverEnds heap id → ⊥
  ends (fates.Whole l) settled other fate never = chain_ends heap id fate.0 fate.1 never
  ends fates.Broken settled other fate never = cut_ends heap id fate.0 fate.1 never
  ends fates.Endless settled other fate never = other refl
  ends f settled other fate never = settled

  pub no_chain : (f : Fate) (chain : List Class) → IsSettled f → ((l : Layout) → f ≡ fates.Whole l → ⊥)
      → IsFate s heap ids id f → IsChain heap id chain → ⊥
  no_chain (fates.Whole l) chain settled other fate is = other l refl
  no_chain fates.Broken chain settled other fate is = cut_is_no_chain heap id fate.0 chain fate.1 is
  no_chain fates.Endless chain settled other fate is = chain_ends heap id chain is fate
  no_chain f chain settled other fate is = settled

  -- a size below 2 ^ 32 is that of the layout exactly if the fate says so
  pub size_right : (n : ℕ) (l : Layout) → IsFate s heap ids id (fates.Whole l) → n < 2 ^ 32 → l.size ≡ n
      → (chain : List Class) → IsChain heap id chain → n ≡ layout_size s chain
  size_right n l fate few e chain is =
      let same = one_chain heap id fate.0 chain fate.1 is in
      omega (arith, few, e, fate.2.size_is, ap (layout_size s) same)

  pub size_wrong : (n : ℕ) (l : Layout) (fate : IsFate s heap ids id (fates.Whole l)) → n < 2 ^ 32
      → (l.size ≡ n → ⊥) → n ≡ layout_size s fate.0 → ⊥
  size_wrong n l fate few other e = other (omega (arith, few, e, fate.2.size_is))

  -- the fate of a class that was found and read
  pub record IsFateRead (fate : Fate) : Type 0 where
    pub settled : IsSettled fate
    pub says : IsFate s heap ids id fate
    pub class : Class
    pub named : class_named heap id ≡ Some class

module _ (v : Sight) (heap : List SubRecord) (entries : List TableEntry) (known : List Fate) (id : ℕ) where
  pub fate_found : (k : ℕ) → HaveFates v heap entries known → position (λ x. x == id) (ids_of entries) ≡ Some k
      → IsFateFound v.id_size heap (ids_of entries) known id k
  fate_found k told e =
      let it = found (ids_of entries) id k e in
      let of = told.settled.each_known k it.below in
      let class = numbered v heap entries k told.classes (omega (arith, it.below, same_count entries)) in
      record {
        fate = of.fate;
        is = of.is;
        settled = of.settled;
        says = subst (λ (n : ℕ). IsFate v.id_size heap (ids_of entries) n of.fate) it.is
            (told.settled.fates_are.each k of.fate of.is);
        class = class.holds.class;
        named = ap (class_named heap) (sym it.is) ∙ named_at v heap entries k class;
        below = omega (arith, it.below, told.settled.fates_are.one_each);
      }

  pub fate_read : (class k : ℕ) (read fate : Fate) → HaveFates v heap entries known
      → Some k ≡ position (λ x. x == id) (ids_of entries) → id ≡ class → read ≡ get_or known k read → read ≡ fate
      → IsFateRead v.id_size heap (ids_of entries) class fate
  fate_read class k read fate told e same here is =
      let it = fate_found k told (sym e) in
      let the = sym (get_or_from_slice_get known k it.fate read it.is) ∙ sym here ∙ is in
      record {
        settled = subst IsSettled the it.settled;
        says = subst (IsFate v.id_size heap (ids_of entries) class) the
            (subst (λ (n : ℕ). IsFate v.id_size heap (ids_of entries) n it.fate) same it.says);
        class = it.class;
        named = ap (class_named heap) (sym same) ∙ it.named;
      }

-- ---- superclasses

pub no_super : (heap : List SubRecord) (super : ℕ) → super ≡ 0 → IsBadSuper heap super → ⊥
no_super heap super e bad = ⊎_elim (λ h. h.0 e) (λ never. chain_ends heap super [] e never) bad

pub fine_super : (heap : List SubRecord) (super : ℕ) (c : Class) → class_named heap super ≡ Some c
    → (NeverEnds heap super → ⊥) → IsBadSuper heap super → ⊥
fine_super heap super c named stops bad = ⊎_elim (λ h. some_none (sym named ∙ h.1)) stops bad

pub missing_super : (heap : List SubRecord) (super : ℕ) → (super ≡ 0 → ⊥) → class_named heap super ≡ None
    → IsBadSuper heap super
missing_super heap super other none = inl (other, none)

pub endless_super : (heap : List SubRecord) (super : ℕ) → NeverEnds heap super → IsBadSuper heap super
endless_super heap super never = inr never

module _ (s : ℕ) (heap : List SubRecord) where
  -- an object breaks none of the rules on classes, superclasses and sizes
  pub none_of_kind : (o : SubRecord) → (LacksClass heap o → ⊥) → (HasBadChain heap o → ⊥) → (HasWrongSize s heap o → ⊥)
      → IsRuleOfKind s heap o None
  none_of_kind o class chain size UnknownClass h = class h
  none_of_kind o class chain size SuperChain h = chain h
  none_of_kind o class chain size InstanceSize h = size h
  none_of_kind o class chain size rule h = h

  class_least : (c : Class) (rule : LinkRule) → BreaksOfKind s heap (class_dump c) rule
      → code_of SuperChain ≤ code_of rule
  class_least c SuperChain h = omega arith
  class_least c rule h = absurd h

  pub class_bad : (c : Class) → IsBadSuper heap c.super → IsRuleOfKind s heap (class_dump c) (Some SuperChain)
  class_bad c bad = (bad, class_least c)

  pub class_fine : (c : Class) → (IsBadSuper heap c.super → ⊥) → IsRuleOfKind s heap (class_dump c) None
  class_fine c fine = none_of_kind (class_dump c) (λ h. h) fine (λ h. h)

  -- ---- classes and sizes of instances and arrays

  eleven_least : (o : SubRecord) (rule : LinkRule) → BreaksOfKind s heap o rule → code_of UnknownClass ≤ code_of rule
  eleven_least o ZeroObject h = absurd h
  eleven_least o DuplicateObject h = absurd h
  eleven_least o rule h = omega arith

  pub instance_unknown : (i : Instance) → class_named heap i.class ≡ None
      → IsRuleOfKind s heap (instance_dump i) (Some UnknownClass)
  instance_unknown i e = (e, eleven_least (instance_dump i))

  sized_least : (i : Instance) (c : Class) → class_named heap i.class ≡ Some c → (rule : LinkRule)
      → BreaksOfKind s heap (instance_dump i) rule → code_of InstanceSize ≤ code_of rule
  sized_least i c named UnknownClass h = absurd (some_none (sym named ∙ h))
  sized_least i c named InstanceSize h = omega arith
  sized_least i c named rule h = absurd h

  pub instance_wrong : (i : Instance) (c : Class) (chain : List Class) → class_named heap i.class ≡ Some c
      → IsChain heap i.class chain → (length i.values ≡ layout_size s chain → ⊥)
      → IsRuleOfKind s heap (instance_dump i) (Some InstanceSize)
  instance_wrong i c chain named is wrong = ((chain, is, wrong), sized_least i c named)

  pub instance_fine : (i : Instance) (c : Class) → class_named heap i.class ≡ Some c
      → ((chain : List Class) → IsChain heap i.class chain → length i.values ≡ layout_size s chain)
      → IsRuleOfKind s heap (instance_dump i) None
  instance_fine i c named right =
      none_of_kind (instance_dump i) (λ h. some_none (sym named ∙ h)) (λ h. h) (λ h. h.2 (right h.0 h.1))

  pub array_unknown : (a : ObjectArray) → class_named heap a.class ≡ None
      → IsRuleOfKind s heap (object_array_dump a) (Some UnknownClass)
  array_unknown a e = (e, eleven_least (object_array_dump a))

  pub array_fine : (a : ObjectArray) (c : Class) → class_named heap a.class ≡ Some c
      → IsRuleOfKind s heap (object_array_dump a) None
  array_fine a c named = none_of_kind (object_array_dump a) (λ h. some_none (sym named ∙ h)) (λ h. h) (λ h. h)
