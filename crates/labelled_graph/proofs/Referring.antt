-- The references and roots that the tables give are those of the definitions.
use Rattle.std.proofs.Common.{All, Contains, List, None, Option, Some, [], ap, arith, inl, inr, map, refl, slice_get}
use Rattle.std.proofs.Common.{subst, suc, sym, ℕ, ⊎_elim, ◌++◌, ◌<◌, ◌↔◌, ◌∙◌, ◌∷◌, ◌≡◌, ◌⊎◌, zero-add}
use Rattle.std.proofs.lemmas.List.Elements.{All-cons, All-nil, Contains-append_cases, Contains-append_left}
use Rattle.std.proofs.lemmas.List.Elements.{Contains-append_right}
use Rattle.std.proofs.lemmas.Option.{none-some, same_Some}
use Rattle.std.specs.Option.{option_map}
use Rattle.heap_graph.specs.ObjectGraph.{ObjectGraph, object_count, row_at}
use Rattle.heap_graph.specs.Walks.{named_in, step_in, target_in}
use Rattle.heap_graph.specs.Whole.{IsWhole, id_list_of}
use Rattle.label_flow.specs.Labelled as flow
use Rattle.label_flow.specs.Labelled.{AreFormed, IsFormed}
use Rattle.label_flow.specs.declared.graph.Reference.{Reference}
use Rattle.label_list.specs.declared.entry.Entry.{Entry}
use Rattle.label_list.specs.declared.entry.Entry.TheVariants as entries
use Rattle.label_sets.specs.Sets as sets
use Rattle.label_sets.specs.Sets.{HasLabel, Store}
use Rattle.labelled_graph.proofs.Containing.{contains_cases, found_kept, found_named, kept_found, named_found}
use Rattle.labelled_graph.proofs.Containing.{option_cases, option_first, option_rest}
use Rattle.labelled_graph.proofs.Objects.{target_within}
use Rattle.labelled_graph.proofs.Tabling.{unlabelled}
use Rattle.labelled_graph.specs.Labels.{FollowsAt, HasLabelAt, IsAdded, IsAt, IsAtRoot, IsCut, IsRoot, IsRootAt}
use Rattle.labelled_graph.specs.Labels.{IsRootWithout, Refers, RefersWithout}
use Rattle.labelled_graph.specs.declared.mark.Mark.{Mark}
use Rattle.labelled_graph.specs.declared.mark.Mark.TheVariants.{Cut, Labels}
use Rattle.labelled_graph.specs.declared.mark.PlacedMark.{PlacedMark}
use Rattle.labelled_graph.specs.working.Kept.{added_root, added_roots, kept, object_mark, root_mark}
use Rattle.labelled_graph.specs.working.MarkMaps.{MarkMap}
use Rattle.labelled_graph.specs.working.MarkWords.{HasExactly, Says}
use Rattle.labelled_graph.specs.working.Tabled.{AreTables, labelled_references}
use Rattle.std.proofs.Common.{Bool}

-- ---- identifiers with marks that say what is cut and which labels there are

module _ (store : Store) (f : ℕ → Mark) (h : ℕ → Option ℕ) (xs : List ℕ) (cut : ℕ → Type 0) (has : ℕ → ℕ → Type 0)
    (says : (k : ℕ) → Says store (cut k) (has k) (f k)) where
  -- number `k` of the identifiers names `b`, and is not cut
  pub record IsFollowed (k b : ℕ) : Type 0 where
    pub id : ℕ
    pub at : slice_get xs k ≡ Some id
    pub names : h id ≡ Some b
    pub uncut : cut k → ⊥

  exactly : (k : ℕ) (r : Reference) → f k ≡ Labels r.labels → HasExactly store (cut k) (has k) r.labels.number
  exactly k r is = subst (λ (m : Mark). Says store (cut k) (has k) m) is (says k)

  -- a reference that is kept is that of an identifier that is followed, with its labels
  pub record ComesFrom (r : Reference) : Type 0 where
    pub k : ℕ
    pub followed : IsFollowed k r.object
    pub exact : (l : ℕ) → HasLabel store r.labels.number l ↔ has k l
    pub whole : sets.IsWhole store r.labels.number

  pub comes_from : (r : Reference) → Contains (kept f 0 (map h xs)) r → ComesFrom r
  comes_from r c =
      let found = kept_found f 0 (map h xs) r c in
      let named = named_found h xs found.0 r.object found.1 in
      let says_so = exactly found.0 r (ap f (sym (zero-add found.0)) ∙ found.2) in
      record {
        k = found.0;
        followed = record { id = named.0; at = named.1; names = named.2; uncut = says_so.uncut };
        exact = says_so.exact;
        whole = says_so.whole;
      }

  -- an identifier that is followed has its reference
  pub record LeadsOn (k b : ℕ) : Type 0 where
    pub r : Reference
    pub kept_is : Contains (kept f 0 (map h xs)) r
    pub leads : r.object ≡ b
    pub exact : (l : ℕ) → HasLabel store r.labels.number l ↔ has k l

  leads_by : (k b : ℕ) (m : Mark) → f k ≡ m → IsFollowed k b → LeadsOn k b
  leads_by k b Cut is followed =
      absurd (followed.uncut (subst (λ (m : Mark). Says store (cut k) (has k) m) is (says k)))
  leads_by k b (Labels s) is followed = record {
    r = record { object = b; labels = s };
    kept_is = found_kept f 0 (map h xs) k (record { object = b; labels = s })
        (found_named h xs k followed.id b followed.at followed.names) (ap f (zero-add k) ∙ is);
    leads = refl;
    exact = (exactly k (record { object = b; labels = s }) is).exact;
  }

  pub leads_on : (k b : ℕ) → IsFollowed k b → LeadsOn k b
  leads_on k b followed = leads_by k b (f k) refl followed

-- ---- the roots that entries add

added_parts : (t : Option ℕ) (r : Reference)
    → option_map (λ (o : ℕ). record { object = o; labels = record { number = 0 } }) t ≡ Some r
    → (t ≡ Some r.object) × (r.labels.number ≡ 0)
added_parts None r e = absurd (none-some r e)
added_parts (Some o) r e =
    let same = same_Some (record { object = o; labels = record { number = 0 } }) r e in
    (ap (λ (x : Reference). Some x.object) same, sym (ap (λ (x : Reference). x.labels.number) same))

entry_root : (ids : List ℕ) (e : Entry) (r : Reference) → added_root ids e ≡ Some r
    → (id : ℕ) × (e ≡ entries.Root id) × (target_in ids id ≡ Some r.object) × (r.labels.number ≡ 0)
entry_root ids (entries.Label l p) r is = absurd (none-some r is)
entry_root ids (entries.Cut p) r is = absurd (none-some r is)
entry_root ids (entries.Root id) r is = let parts = added_parts (target_in ids id) r is in (id, refl, parts.0, parts.1)

pub added_found : (ids : List ℕ) (list : List Entry) (r : Reference) → Contains (added_roots ids list) r
    → (id : ℕ) × Contains list (entries.Root id) × (target_in ids id ≡ Some r.object) × (r.labels.number ≡ 0)
added_found ids [] r c = absurd (omega (arith, c.1))
added_found ids (e ∷ es) r c = ⊎_elim
    (λ is. let root = entry_root ids e r is in (root.0, (0, omega arith, root.1), root.2, root.3))
    (λ rest. let root = added_found ids es r rest in (
      root.0,
      (
        suc root.1.0,
        omega
            (arith, root.1.1),
        root.1.2,
      ),
      root.2,
      root.3,
    ))
    (option_cases (added_root ids e) (added_roots ids es) r c)

-- the reference of an added root
abbrev pub plain : ℕ → Reference
plain o = record { object = o; labels = record { number = 0 } }

pub found_added : (ids : List ℕ) (list : List Entry) (id o : ℕ) → Contains list (entries.Root id)
    → target_in ids id ≡ Some o
    → Contains (added_roots ids list) (plain o)
found_added ids [] id o c is = absurd (omega (arith, c.1))
found_added ids (e ∷ es) id o c is = ⊎_elim
    (λ same. option_first (added_root ids e) (added_roots ids es) (plain o)
    (ap (added_root ids) same ∙ ap (option_map (λ (x : ℕ). plain x)) is))
    (λ rest. option_rest (added_root ids e) (added_roots ids es) (plain o) (found_added ids es id o rest is))
    (contains_cases e es (entries.Root id) c)

-- ---- the graph of the tables

pub named_same : (ids xs : List ℕ) → named_in (map (step_in ids) xs) ≡ map (target_in ids) xs
named_same ids [] = refl
named_same ids (x ∷ xs) = ap (λ (ns : List (Option ℕ)). target_in ids x ∷ ns) (named_same ids xs)

module _ (store : Store) (g : ObjectGraph) (list : List Entry) (classes : List (List PlacedMark)) (marks : MarkMap)
    (has : List Bool) (roots : List Reference) (t : AreTables store g list classes marks has roots) where
  abbrev pub references : ℕ → List Reference
  references = labelled_references g classes marks has

  -- the references of `a`
  module _ (a : ℕ) where
    abbrev mark : ℕ → Mark
    mark = object_mark classes marks has (row_at g a) a

    abbrev Cuts : ℕ → Type 0
    Cuts k = IsCut list (IsAt g a k)

    abbrev Labelled : ℕ → ℕ → Type 0
    Labelled k l = HasLabelAt list l (IsAt g a k)

    comes : (r : Reference) → Contains (references a) r
        → ComesFrom store mark (target_in g.ids) (id_list_of g a) Cuts Labelled (t.reads a) r
    comes r c = comes_from store mark (target_in g.ids) (id_list_of g a) Cuts Labelled (t.reads a) r
        (subst (λ (ns : List (Option ℕ)). Contains (kept mark 0 ns) r) (named_same g.ids (id_list_of g a)) c)

    leads : (k b : ℕ) → FollowsAt g list a k b
        → LeadsOn store mark (target_in g.ids) (id_list_of g a) Cuts Labelled (t.reads a) k b
    leads k b at = leads_on store mark (target_in g.ids) (id_list_of g a) Cuts Labelled (t.reads a) k b
        (record { id = at.names.0; at = at.names.1; names = at.names.2; uncut = at.uncut })

    kept_in : (r : Reference) → Contains (kept mark 0 (map (target_in g.ids) (id_list_of g a))) r
        → Contains (references a) r
    kept_in r c = subst (λ (ns : List (Option ℕ)). Contains (kept mark 0 ns) r)
        (sym (named_same g.ids (id_list_of g a))) c

    pub refers : (b : ℕ) → flow.RefersBy references a b → Refers g list a b
    refers b by =
        let from = comes by.0 by.1 in
        let at = from.followed in
        (from.k, record { names = (at.id, at.at, at.names ∙ ap Some by.2); uncut = at.uncut })

    pub refers_by : (b : ℕ) → Refers g list a b → flow.RefersBy references a b
    refers_by b by = let on = leads by.0 b by.1 in (on.r, kept_in on.r on.kept_is, on.leads)

    pub refers_without : (l b : ℕ) → flow.RefersWithout store l references a b → RefersWithout g list l a b
    refers_without l b by =
        let from = comes by.0 by.1 in
        let at = from.followed in (
          from.k,
          record { names = (at.id, at.at, at.names ∙ ap Some by.2); uncut = at.uncut },
          λ x. by.3 ((from.exact l).1 x),
        )

    pub refers_by_without : (l b : ℕ) → RefersWithout g list l a b → flow.RefersWithout store l references a b
    refers_by_without l b by =
        let on = leads by.0 b by.1 in
        (on.r, kept_in on.r on.kept_is, on.leads, λ x. by.2 ((on.exact l).0 x))

  -- ---- the roots

  abbrev Of : Reference → Type 0
  Of r = ComesFrom store (root_mark t.root_marks) (target_in g.ids) g.root_names (λ k. IsCut list (IsAtRoot k))
      (λ k l. HasLabelAt list l (IsAtRoot k)) t.reads_root r

  abbrev marked : List Reference
  marked = kept (root_mark t.root_marks) 0 (map (target_in g.ids) g.root_names)

  -- a root is that of a sub-record, or was added
  root_cases : (r : Reference) → Contains roots r → Of r ⊎ Contains (added_roots g.ids list) r
  root_cases r c =
      let in_both : Contains (marked ++ added_roots g.ids list) r =
      subst (λ (rs : List Reference). Contains rs r) t.roots_are c in
      ⊎_elim
      (λ x. inl (comes_from store (root_mark t.root_marks) (target_in g.ids) g.root_names (λ k. IsCut list (IsAtRoot k))
      (λ k l. HasLabelAt list l (IsAtRoot k)) t.reads_root r x))
      inr (Contains-append_cases marked (added_roots g.ids list) r in_both)

  root_in : (r : Reference) → Contains marked r ⊎ Contains (added_roots g.ids list) r → Contains roots r
  root_in r c = subst (λ (rs : List Reference). Contains rs r) (sym t.roots_are)
      (⊎_elim (Contains-append_left marked (added_roots g.ids list) r)
      (Contains-append_right marked (added_roots g.ids list) r) c)

  root_leads : (k o : ℕ) → IsRootAt g list k o → LeadsOn store (root_mark t.root_marks) (target_in g.ids) g.root_names
      (λ i. IsCut list (IsAtRoot i)) (λ i l. HasLabelAt list l (IsAtRoot i)) t.reads_root k o
  root_leads k o at = leads_on store (root_mark t.root_marks) (target_in g.ids) g.root_names (λ i. IsCut list
      (IsAtRoot i))
      (λ i l. HasLabelAt list l (IsAtRoot i)) t.reads_root k o
      (record { id = at.names.0; at = at.names.1; names = at.names.2; uncut = at.uncut })

  root_of : (r : Reference) (o : ℕ) (from : Of r) → r.object ≡ o → IsRootAt g list from.k o
  root_of r o from e = let at = from.followed in
      record { names = (at.id, at.at, at.names ∙ ap Some e); uncut = at.uncut }

  added_of : (r : Reference) (o : ℕ) → Contains (added_roots g.ids list) r → r.object ≡ o → IsAdded g list o
  added_of r o c e = let found = added_found g.ids list r c in (found.0, found.1, found.2 ∙ ap Some e)

  pub roots_to : (o : ℕ) → flow.IsRootOf roots o → IsRoot g list o
  roots_to o is = ⊎_elim (λ from. inl (from.k, root_of is.0 o from is.2)) (λ c. inr (added_of is.0 o c is.2))
      (root_cases is.0 is.1)

  pub roots_from : (o : ℕ) → IsRoot g list o → flow.IsRootOf roots o
  roots_from o is = ⊎_elim
      (λ at. let on = root_leads at.0 o at.1 in (on.r, root_in on.r (inl on.kept_is), on.leads))
      (λ at. (plain o, root_in (plain o) (inr (found_added g.ids list at.0 o at.1 at.2)), refl)) is

  pub roots_to_without : (l o : ℕ) → flow.IsRootWithout store l roots o → IsRootWithout g list l o
  roots_to_without l o is = ⊎_elim
      (λ from. inl (from.k, root_of is.0 o from is.2, λ x. is.3 ((from.exact l).1 x)))
      (λ c. inr (added_of is.0 o c is.2)) (root_cases is.0 is.1)

  pub roots_from_without : (l o : ℕ) → IsRootWithout g list l o → flow.IsRootWithout store l roots o
  roots_from_without l o is = ⊎_elim
      (λ at. let on = root_leads at.0 o at.1 in
      (on.r, root_in on.r (inl on.kept_is), on.leads, λ x. at.2 ((on.exact l).0 x)))
      (λ at. (
        plain o,
        root_in (plain o) (inr (found_added g.ids list at.0 o at.1 at.2)),
        refl,
        λ x. unlabelled store l t.none x,
      )) is

  -- ---- all are formed

  module _ (whole : IsWhole g) where
    within : (id b : ℕ) → target_in g.ids id ≡ Some b → b < object_count g
    within id b is = omega (arith, target_within g.ids id b is, whole.id_each)

    all_of : (rs : List Reference) → ((r : Reference) → Contains rs r → IsFormed store (object_count g) r)
        → All (IsFormed store (object_count g)) rs
    all_of [] each = All-nil (IsFormed store (object_count g))
    all_of (r ∷ rs) each = All-cons (IsFormed store (object_count g)) r rs (each r (0, omega arith, refl))
        (all_of rs (λ x c. each x (suc c.0, omega (arith, c.1), c.2)))

    added_formed : (r : Reference) → Contains (added_roots g.ids list) r → IsFormed store (object_count g) r
    added_formed r c =
        let found = added_found g.ids list r c in
        record {
          within = within found.0 r.object found.2;
          whole = subst (λ (s : ℕ). sets.IsWhole store s) (sym found.3) t.none.1;
        }

    pub formed : AreFormed store (object_count g) roots references
    formed = record {
      roots_are = all_of roots (λ r c. ⊎_elim
          (λ from. record { within = within from.followed.id r.object from.followed.names; whole = from.whole })
          (added_formed r) (root_cases r c));
      references_are = λ a l. all_of (references a) (λ r c.
          let from = comes a r c in
          record { within = within from.followed.id r.object from.followed.names; whole = from.whole });
    }
