-- The identifiers in the fields of an instance, from class to class up those that declare fields.
use Rattle.heap_graph.proofs.Words.{AreUp, BeginsAt, Bool, Class, ClassPlan, Fate, HaveFates, HaveFields, IsChain}
use Rattle.heap_graph.proofs.Words.{IsFate, IsFirst, IsPlan, IsSettled, List, Member, None, Option, Sight, Some}
use Rattle.heap_graph.proofs.Words.{StandInside, SubRecord, TableEntry, Up, [], ap, arith, big_from-take, big_number}
use Rattle.heap_graph.proofs.Words.{declared_fields, drop, drop-drop, eqb-true, false, field_ids, get_or_from_slice_get}
use Rattle.heap_graph.proofs.Words.{id_places, id_places_of, ids_at, ids_of, ids_up, if◌then◌else◌, length}
use Rattle.heap_graph.proofs.Words.{length-append, length-drop, map, map-append, next_above, next_in, not, own_fields}
use Rattle.heap_graph.proofs.Words.{plan_at, refl, size_of, size_of_fields, size_together, slice_get, slice_index}
use Rattle.heap_graph.proofs.Words.{subst, suc, sum_by-append, sum_by-cons, sym, tail, take, true, zero, ℕ, ◌&&◌, ◌++◌}
use Rattle.heap_graph.proofs.Words.{◌+◌, ◌<◌, ◌==◌, ◌∙◌, ◌∷◌, ◌≡◌, ◌≤◌}
use Rattle.heap_graph.specs.declared.classes.fate.Fate.TheVariants as fates
use Rattle.heap_graph.proofs.ChainLaws.{chain_ends, cut_is_no_chain, one_chain}
use Rattle.heap_graph.proofs.FieldLaws.{ids_of_both, of_id_type, size_of_id_type}
use Rattle.heap_graph.proofs.LayoutLaws.{own_fields_size}
use Rattle.heap_graph.proofs.PlanLaws.{AreOwnFields, fields_of_class}

-- ---- the identifiers of one class

id_at : (s at : ℕ) (values : List ℕ) (b : Bool) → ids_at s (if b then at ∷ [] else []) values
    ≡ (if b then big_number s (take s (drop at values)) ∷ [] else [])
id_at s at values true = ap (λ (n : ℕ). n ∷ []) (sym (big_from-take 0 s s (drop at values) (omega arith)))
id_at s at values false = refl

module _ (skips : Class → Member → Bool) (s : ℕ) (c : Class) where
  ids_at_places : (at : ℕ) (ms : List Member) (values : List ℕ)
      → ids_at s (id_places (skips c) s at ms) values ≡ field_ids skips s (map (λ m. (c, m)) ms) (drop at values)
  ids_at_places at [] values = refl
  ids_at_places at (m ∷ ms) values =
      let size = size_of s m.type in
      let followed = not (skips c m) && (m.type == 2) in
      map-append (λ p. big_number s (drop p values)) (if followed then at ∷ [] else [])
      (id_places (skips c) s (at + size) ms)
      ∙ ap (λ (ids : List ℕ). ids ++ ids_at s (id_places (skips c) s (at + size) ms) values)
      (id_at s at values followed)
      ∙ ap (λ (ids : List ℕ). (if followed then big_number s (take s (drop at values)) ∷ [] else []) ++ ids)
      (ids_at_places (at + size) ms values
      ∙ ap (field_ids skips s (map (λ x. (c, x)) ms)) (sym (drop-drop size at values)))

module _ (skips : Member → Bool) (s : ℕ) where
  followed_size : (m : Member) → (not (skips m) && (m.type == 2)) ≡ true → size_of s m.type ≡ s
  followed_size m e = size_of_id_type s m.type (eqb-true m.type 2 (of_id_type (skips m) (m.type == 2) e))

  first_inside : (at size n : ℕ) (rest : List ℕ) (b : Bool) → (b ≡ true → size ≡ s)
      → ((k place : ℕ) → slice_get rest k ≡ Some place → place + s ≤ (at + size) + n) → (k place : ℕ)
      → slice_get ((if b then at ∷ [] else []) ++ rest) k ≡ Some place → place + s ≤ (at + size) + n
  first_inside at size n rest true e behind zero place is =
      let same : at ≡ place = cc in omega (arith, same, e refl)
  first_inside at size n rest true e behind (suc k) place is = behind k place is
  first_inside at size n rest false e behind k place is = behind k place is

  places_inside : (at : ℕ) (ms : List Member) (k place : ℕ)
      → slice_get (id_places skips s at ms) k ≡ Some place → place + s ≤ at + size_together s ms
  places_inside at [] k place is = absurd (let wrong : None ≡ Some place = is in cc)
  places_inside at (m ∷ ms) k place is =
      let behind = at + size_of s m.type in
      omega (
        arith,
        sum_by-cons (λ (x : Member). size_of s x.type) m ms,
        first_inside at (size_of s m.type) (size_together s ms) (id_places skips s behind ms)
            (not (skips m) && (m.type == 2)) (followed_size m) (places_inside behind ms) k place is,
      )

  one_id_fits : (at size : ℕ) (b : Bool) → (b ≡ true → size ≡ s) → 1 ≤ s
      → length (if b then at ∷ [] else []) ≤ size
  one_id_fits at size true e low = omega (arith, low, e refl)
  one_id_fits at size false e low = omega (arith, low)

  few_places : (at : ℕ) (ms : List Member) → 1 ≤ s → length (id_places skips s at ms) ≤ size_together s ms
  few_places at [] low = omega arith
  few_places at (m ∷ ms) low =
      let followed = not (skips m) && (m.type == 2) in
      let behind = at + size_of s m.type in
      omega (
        arith,
        sum_by-cons (λ (x : Member). size_of s x.type) m ms,
        few_places behind ms low,
        one_id_fits at (size_of s m.type) followed (followed_size m) low,
        length-append (if followed then at ∷ [] else []) (id_places skips s behind ms),
      )

-- what the plan says of a class
module _ {skips : Class → Member → Bool} {s : ℕ} {plans : List ClassPlan} {places : List ℕ} {c : Class} {k : ℕ}
    (own : AreOwnFields skips s plans places c k) (values : List ℕ) where
  own_stand : 1 ≤ s → size_together s c.members ≤ length values
      → StandInside s (id_places_of plans places k) (plan_at plans k).size values
  own_stand low room = rw (own.places_are, own.size_is) (record {
    inside = λ i place is. omega (arith, places_inside (skips c) s 0 c.members i place is);
    few = few_places (skips c) s 0 c.members low;
    room = room;
  })

  own_ids : ids_at s (id_places_of plans places k) values ≡ field_ids skips s (own_fields c) values
  own_ids = ap (λ (ps : List ℕ). ids_at s ps values) own.places_are ∙ ids_at_places skips s c 0 c.members values

-- ---- the first class with fields

fate_says : (s : ℕ) (heap : List SubRecord) (ids : List ℕ) (id : ℕ) (c : Class) (rest : List Class) (f : Fate)
    → IsSettled f → IsFate s heap ids id f → IsChain heap id (c ∷ rest)
    → IsFirst heap ids (declared_fields rest) (next_in f)
fate_says s heap ids id c rest fates.Unknown settled is chain = absurd settled
fate_says s heap ids id c rest fates.OnPath settled is chain = absurd settled
fate_says s heap ids id c rest (fates.Whole l) settled is chain =
    subst (λ (cs : List Class). IsFirst heap ids (declared_fields (tail cs)) l.next)
    (one_chain heap id is.0 (c ∷ rest) is.1 chain) is.2.next_is
fate_says s heap ids id c rest fates.Broken settled is chain =
    absurd (cut_is_no_chain heap id is.0 (c ∷ rest) is.1 chain)
fate_says s heap ids id c rest fates.Endless settled is chain = absurd (chain_ends heap id (c ∷ rest) chain is)

module _ {heap : List SubRecord} {ids : List ℕ} {fields : List (Class × Member)} {k : ℕ}
    (b : BeginsAt heap ids fields k) where
  fewer_fields : length (declared_fields b.rest) < length fields
  fewer_fields =
      omega (
        arith,
        ap length b.fields_are,
        length-append (own_fields b.class) (declared_fields b.rest),
        one_field b.class.members b.some_field,
      )
    where
      one_field : (ms : List Member) → (ms ≡ [] → ⊥) → 1 ≤ length {A = Class × Member} (map (λ m. (b.class, m)) ms)
      one_field [] some = absurd (some refl)
      one_field (m ∷ ms) some = omega arith

  both_sizes : (s : ℕ)
      → size_of_fields s fields ≡ size_together s b.class.members + size_of_fields s (declared_fields b.rest)
  both_sizes s =
      ap (size_of_fields s) b.fields_are
      ∙ sum_by-append (λ (f : Class × Member). size_of s f.1.type) (own_fields b.class) (declared_fields b.rest)
      ∙ ap (λ (n : ℕ). n + size_of_fields s (declared_fields b.rest)) (own_fields_size s b.class)

module _ (v : Sight) (heap : List SubRecord) (entries : List TableEntry) (known : List Fate)
    (told : HaveFates v heap entries known) where
  first_above : {fields : List (Class × Member)} {k : ℕ} (b : BeginsAt heap (ids_of entries) fields k)
      → IsFirst heap (ids_of entries) (declared_fields b.rest) (next_above known k)
  first_above {k = k} b =
      let it = told.settled.each_known k b.below in
      subst (λ (f : Fate). IsFirst heap (ids_of entries) (declared_fields b.rest) (next_in f))
      (sym (get_or_from_slice_get known k it.fate fates.Unknown it.is))
      (fate_says v.id_size heap (ids_of entries) (slice_index (ids_of entries) k) b.class b.rest it.fate it.settled
      (told.settled.fates_are.each k it.fate it.is) (b.named, b.chain))

  -- only finitely many classes are above the first one
  up_within : (n : ℕ) (fields : List (Class × Member)) (first : Option ℕ) → length fields ≤ n
      → IsFirst heap (ids_of entries) fields first → Up known first
  up_within n fields None few is = ([], refl)
  up_within zero fields (Some k) few b = absurd (omega (arith, few, fewer_fields b))
  up_within (suc n) fields (Some k) few b =
      let rest = up_within n (declared_fields b.rest) (next_above known k) (omega (arith, few, fewer_fields b))
      (first_above b) in
      (k ∷ rest.0, (refl, rest.1))

  pub up_from : (fields : List (Class × Member)) (first : Option ℕ)
      → IsFirst heap (ids_of entries) fields first → Up known first
  up_from fields first is = up_within (length fields) fields first (omega arith) is

  -- ---- the fields of all classes of a layout

  module _ (skips : Class → Member → Bool) (all : List ℕ) (plans : List ClassPlan) (places : List ℕ)
      (plan : IsPlan skips v.id_size heap all (ids_of entries) plans places) where
    begins_at : (fields : List (Class × Member)) (first : Option ℕ) (k : ℕ) → first ≡ Some k
        → IsFirst heap (ids_of entries) fields first → BeginsAt heap (ids_of entries) fields k
    begins_at fields first k e is = subst (IsFirst heap (ids_of entries) fields) e is

    own_of : {fields : List (Class × Member)} {k : ℕ} (b : BeginsAt heap (ids_of entries) fields k)
        → AreOwnFields skips v.id_size plans places b.class k
    own_of {k = k} b = fields_of_class plan k b.class b.below b.named

    pub have_fields : (ks : List ℕ) (fields : List (Class × Member)) (values : List ℕ) (first : Option ℕ)
        → 1 ≤ v.id_size → IsFirst heap (ids_of entries) fields first
        → size_of_fields v.id_size fields ≤ length values → AreUp known first ks
        → HaveFields v.id_size plans places known ks values
    have_fields [] fields values first low is room up = tt
    have_fields (k ∷ ks) fields values first low is room up =
        let b = begins_at fields first k up.0 is in
        let own = own_of b in
        let size = (plan_at plans k).size in
        let sizes = both_sizes b v.id_size in (
          record {
            below = omega (arith, b.below, plan.one_each);
            has_fate = omega (arith, b.below, told.settled.fates_are.one_each);
            has = own.has;
            stand = own_stand own values low (omega (arith, sizes, room));
          },
          have_fields ks (declared_fields b.rest) (drop size values) (next_above known k) low (first_above b)
              (omega (arith, sizes, room, own.size_is, length-drop size values)) up.1,
        )

    pub ids_up_are : (ks : List ℕ) (fields : List (Class × Member)) (values : List ℕ) (first : Option ℕ)
        → IsFirst heap (ids_of entries) fields first → AreUp known first ks
        → ids_up v.id_size plans places ks values ≡ field_ids skips v.id_size fields values
    ids_up_are [] fields values first is up =
        let none : fields ≡ [] = subst (IsFirst heap (ids_of entries) fields) up is in
        ap (λ (fs : List (Class × Member)). field_ids skips v.id_size fs values) (sym none)
    ids_up_are (k ∷ ks) fields values first is up =
        let s = v.id_size in
        let b = begins_at fields first k up.0 is in
        let own = own_of b in
        let behind = drop (plan_at plans k).size values in
        ap (λ (ids : List ℕ). ids ++ ids_up s plans places ks behind) (own_ids own values)
        ∙ ap (λ (ids : List ℕ). field_ids skips s (own_fields b.class) values ++ ids)
        (ids_up_are ks (declared_fields b.rest) behind (next_above known k) (first_above b) up.1
        ∙ ap (λ (n : ℕ). field_ids skips s (declared_fields b.rest) (drop n values))
        (own.size_is ∙ sym (own_fields_size s b.class)))
        ∙ sym (ap (λ (fs : List (Class × Member)). field_ids skips s fs values) b.fields_are
        ∙ ids_of_both skips s (own_fields b.class) (declared_fields b.rest) values)
