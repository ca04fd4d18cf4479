-- The objects of a linked heap list hold identifiers: a list for each exists, without a call that reads it.
use Rattle.heap_graph.proofs.Words.{AreIdLists, AreIdsOf, AreLinkedOf, Bool, Class, Fate, HaveFates, HaveFatesOf}
use Rattle.heap_graph.proofs.Words.{Instance, IsFate, IsLinked, IsSettled, List, Member, None, Objects, Option, Sight}
use Rattle.heap_graph.proofs.Words.{Some, Stands, SubRecord, TableEntry, [], arith, bounds, class_dump, declared_fields}
use Rattle.heap_graph.proofs.Words.{field_ids, get_or, ids_of, instance_dump, length, object_array_dump, objects}
use Rattle.heap_graph.proofs.Words.{position, primitive_array_dump, refl, root, slice_get, subst, suc, sym, zero, ℕ}
use Rattle.heap_graph.proofs.Words.{◌<◌, ◌==◌, ◌∙◌, ◌∷◌, ◌≡◌, ◌≤◌}
use Rattle.std.proofs.lemmas.Option.{slice_get_within as slice_get_below}
use Rattle.heap_graph.specs.References.{class_ids}
use Rattle.heap_graph.specs.working.ObjectIds.{IsFirstOfInstance}
use Rattle.heap_graph.proofs.ClassTableLaws.{not_found}
use Rattle.heap_graph.proofs.ObjectIdLaws.{array_holds, class_holds, instance_holds, no_ids}
use Rattle.heap_graph.proofs.InstanceLaws.{linked_whole, right_size}
use Rattle.heap_graph.proofs.Linking.{no_unknown}
use Rattle.heap_graph.proofs.RuleLaws.{IsFateFound, fate_found}
use Rattle.heap_graph.proofs.Standings.{IsThere, one_object, there}
use Rattle.heap_graph.specs.declared.classes.fate.Fate.TheVariants as fates

-- ---- the layout of an instance begins at some class

module _ {s : ℕ} {heap : List SubRecord} {ids : List ℕ} {known : List Fate} (n : ℕ) {k : ℕ} {i : Instance}
    (linked : IsLinked s heap) (is : slice_get (objects heap) n ≡ Some (instance_dump i))
    (it : IsFateFound s heap ids known i.class k) where
  first_by : (f : Fate) → it.fate ≡ f → (first : Option ℕ) × IsFirstOfInstance s heap ids i first
  first_by (fates.Whole l) e =
      let says : IsFate s heap ids i.class (fates.Whole l) =
      subst (λ (f : Fate). IsFate s heap ids i.class f) e it.says in (
        l.first,
        record {
          chain = says.0;
          is = says.1;
          begins = says.2.first_is;
          size_is = right_size s heap n i says.0 linked is says.1;
        },
      )
  first_by fates.Unknown e = absurd (subst (λ (f : Fate). IsSettled f) e it.settled)
  first_by fates.OnPath e = absurd (subst (λ (f : Fate). IsSettled f) e it.settled)
  first_by fates.Broken e =
      absurd (linked_whole s heap ids i.class it.class it.fate linked it.named it.settled
      (λ l h. let wrong : fates.Broken ≡ fates.Whole l = sym e ∙ h in cc) it.says)
  first_by fates.Endless e =
      absurd (linked_whole s heap ids i.class it.class it.fate linked it.named it.settled
      (λ l h. let wrong : fates.Endless ≡ fates.Whole l = sym e ∙ h in cc) it.says)

module _ (v : Sight) (heap : List SubRecord) (entries : List TableEntry) (known : List Fate)
    (linked : IsLinked v.id_size heap) (told : HaveFates v heap entries known) where
  first_at : (n : ℕ) (i : Instance) (o : Option ℕ) → slice_get (objects heap) n ≡ Some (instance_dump i)
      → position (λ x. x == i.class) (ids_of entries) ≡ o
      → (first : Option ℕ) × IsFirstOfInstance v.id_size heap (ids_of entries) i first
  first_at n i None is e =
      absurd (no_unknown v.id_size heap n i i.class linked is refl (not_found v heap entries i.class told.classes e))
  first_at n i (Some k) is e =
      let it : IsFateFound v.id_size heap (ids_of entries) known i.class k =
      fate_found v heap entries known i.class k told e in
      first_by n linked is it it.fate refl

  -- an object holds identifiers
  ids_here : (skips : Class → Member → Bool) → 1 ≤ v.id_size → (n at : ℕ) (x : SubRecord)
      → slice_get (objects heap) n ≡ Some x → Stands v at x → (ids : List ℕ) × AreIdsOf skips v.id_size heap x ids
  ids_here skips low n at (root r) is stands = ([], record { are = refl; few = omega arith })
  ids_here skips low n at (class_dump c) is stands =
      (class_ids v.id_size c, class_holds skips v.id_size heap c (class_ids v.id_size c) (bounds stands.is.formed) refl)
  ids_here skips low n at (instance_dump i) is stands =
      let found = first_at n i (position (λ x. x == i.class) (ids_of entries)) is refl in
      let fields : List ℕ = field_ids skips v.id_size (declared_fields found.1.chain) i.values in (
        i.class ∷ fields,
        instance_holds skips found.1 i.class fields i.values low (bounds stands.is.formed).values refl refl refl,
      )
  ids_here skips low n at (object_array_dump a) is stands =
      let few = (bounds stands.is.formed).count in
      (a.class ∷ a.elements, array_holds skips v.id_size heap a a.class a.elements few refl refl)
  ids_here skips low n at (primitive_array_dump a) is stands =
      ([], no_ids skips v.id_size heap a)

-- ---- the identifiers of all objects

-- if something exists for each element of a list, a list of these exists
chosen : {O X : Type 0} (P : O → X → Type 0) (os : List O)
    → ((n : ℕ) (o : O) → slice_get os n ≡ Some o → (x : X) × P o x)
    → (xs : List X) × (length xs ≡ length os) × ((n : ℕ) (o : O) (x : X) → slice_get os n ≡ Some o
    → slice_get xs n ≡ Some x → P o x)
chosen {O} {X} P [] each = ([], refl, λ n o x e h. absurd (let wrong : None ≡ Some o = e in cc))
chosen {O} {X} P (o ∷ os) each = put (each 0 o refl) (chosen P os (λ n x e. each (suc n) x e))
  where
    put : ((x : X) × P o x)
        → ((xs : List X) × (length xs ≡ length os)
        × ((n : ℕ) (y : O) (x : X) → slice_get os n ≡ Some y → slice_get xs n ≡ Some x → P y x))
        → (xs : List X) × (length xs ≡ length (o ∷ os))
        × ((n : ℕ) (y : O) (x : X) → slice_get (o ∷ os) n ≡ Some y → slice_get xs n ≡ Some x → P y x)
    put first rest = (first.0 ∷ rest.0, omega (arith, rest.1), here)
      where
        here : (n : ℕ) (y : O) (x : X) → slice_get (o ∷ os) n ≡ Some y → slice_get (first.0 ∷ rest.0) n ≡ Some x → P y x
        here zero y x e h =
            let same : o ≡ y =
            cc in let got : first.0 ≡ x =
            cc in
            subst (λ (z : X). P y z) got (subst (λ (z : O). P z first.0) same first.1)
        here (suc n) y x e h = rest.2 n y x e h

-- for each object the list of the identifiers that it holds
pub record HaveIdLists (skips : Class → Member → Bool) (s : ℕ) (heap : List SubRecord) : Type 0 where
  pub lists : List (List ℕ)
  pub one_each : length lists ≡ length (objects heap)
  pub each : (n : ℕ) (o : SubRecord) (ids : List ℕ) → slice_get (objects heap) n ≡ Some o → slice_get lists n ≡ Some ids
      → AreIdsOf skips s heap o ids

pub have_id_lists : {A : Type 0} (skips : Class → Member → Bool) (o : Objects A) (heap : List SubRecord)
    → AreLinkedOf o heap → HaveFatesOf o heap → HaveIdLists skips o.view.id_size heap
have_id_lists skips o heap linked told = all (chosen (AreIdsOf skips o.view.id_size heap) (objects heap) here)
  where
    here : (n : ℕ) (x : SubRecord) → slice_get (objects heap) n ≡ Some x
        → (ids : List ℕ) × AreIdsOf skips o.view.id_size heap x ids
    here n x is =
        let below : n < length o.places.items =
        omega (arith, slice_get_below (objects heap) n x is, linked.are.stand.count) in
        let it : IsThere o.view heap n (get_or o.places.items n 0) =
        there o.view o.places.items o.index heap n linked.are below in
        let same : it.object ≡ x = one_object heap n it.object x it.is is in
        ids_here o.view heap o.classes.table.entries o.fates.items linked.linked told skips linked.low n
        (get_or o.places.items n 0) x is
        (subst (λ (y : SubRecord). Stands o.view (get_or o.places.items n 0) y) same it.stands)

    all : ((lists : List (List ℕ)) × (length lists ≡ length (objects heap))
        × ((n : ℕ) (x : SubRecord) (ids : List ℕ) → slice_get (objects heap) n ≡ Some x → slice_get lists n ≡ Some ids
        → AreIdsOf skips o.view.id_size heap x ids)) → HaveIdLists skips o.view.id_size heap
    all c = record { lists = c.0; one_each = c.1; each = c.2 }

pub are_lists : (skips : Class → Member → Bool) (s : ℕ) (heap : List SubRecord) (have : HaveIdLists skips s heap)
    → AreIdLists skips s heap have.lists
are_lists skips s heap have = record { one_each = have.one_each; each = λ n o ids e h. (have.each n o ids e h).are }
