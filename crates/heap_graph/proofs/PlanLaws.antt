-- What is planned for the classes: the plan grows by one class after another, and has the fields of each.
use Rattle.heap_graph.proofs.Words.{AddsPlan, AreClassObjects, AreClassPlans, AreClasses, Bool, Class, ClassPlace}
use Rattle.heap_graph.proofs.Words.{ClassPlan, HasIdPlaces, IsClassPlan, IsPlan, List, Member, None, Option, Sight}
use Rattle.heap_graph.proofs.Words.{Some, Stands, SubRecord, TableEntry, [], ap, arith, class_dump, class_named, drop}
use Rattle.heap_graph.proofs.Words.{drop-append-le, drop-append_seam, get_or_from_slice_get, id_places, id_places_of}
use Rattle.heap_graph.proofs.Words.{ids_of, length, length-append, length-drop, plan_at, size_together, slice_get}
use Rattle.heap_graph.proofs.Words.{slice_index, slice_range, subst, sym, take, take-append-le, take-length, target_in}
use Rattle.heap_graph.proofs.Words.{ℕ, ⊎_elim, ◌++◌, ◌-◌, ◌<◌, ◌∙◌, ◌≡◌, ◌≤◌, ◌⊎◌}
use Rattle.heap_graph.proofs.ChainLaws.{some_none}
use Rattle.heap_graph.proofs.Firsts.{slice_get_push}
use Rattle.heap_graph.proofs.ClassTableLaws.{IsKept, numbered, same_class, there_is}

-- ---- one more class

kept_places : (all more : List ℕ) (a b : ℕ) → a ≤ b → b ≤ length all
    → slice_range (all ++ more) a b ≡ slice_range all a b
kept_places all more a b h k =
    ap (λ (xs : List ℕ). take (b - a) xs) (drop-append-le a all more (omega (arith, h, k)))
    ∙ take-append-le (b - a) (drop a all) more (omega (arith, length-drop a all, h, k))

last_places : (all more : List ℕ) (a b : ℕ) → a ≡ length all → b ≡ length (all ++ more)
    → slice_range (all ++ more) a b ≡ more
last_places all more a b e f =
    let size : b - a ≡ length more = omega (arith, e, f, length-append all more) in
    ap (λ (n : ℕ). take n (drop a (all ++ more))) size
    ∙ ap (λ (n : ℕ). take (length more) (drop n (all ++ more))) e
    ∙ ap (λ (xs : List ℕ). take (length more) xs) (drop-append_seam all more) ∙ take-length more

old_plan : {skips : Class → Member → Bool} {s : ℕ} {places : List ℕ} {c : Class} {p : ClassPlan} (more : List ℕ)
    → IsClassPlan skips s places c p → IsClassPlan skips s (places ++ more) c p
old_plan {places = places} {p = p} more is = record {
  rising = is.rising;
  within = omega (arith, is.within, length-append places more);
  places_are = kept_places places more p.start p.end is.rising is.within ∙ is.places_are;
  size_is = is.size_is;
}

-- what was added is the plan of the class `c`
pub record IsOfClass (skips : Class → Member → Bool) (test : Member → Bool) (members : List Member)
    (c : Class) : Type 0 where
  pub members_are : members ≡ c.members
  pub tests : test ≡ skips c

module _ {s : ℕ} {members : List Member} {test : Member → Bool} {object : Option ℕ} {old new : List ClassPlan}
    {old_places places : List ℕ} (adds : AddsPlan test s members object old old_places new places) where
  new_plan : {skips : Class → Member → Bool} {c : Class} → IsOfClass skips test members c
      → IsClassPlan skips s (old_places ++ id_places test s 0 members) c adds.class
  new_plan {c = c} of =
      let end : adds.class.end ≡ length (old_places ++ id_places test s 0 members) =
      adds.end_is ∙ ap length adds.places_are in
      record {
        rising = omega (arith, adds.start_is, end, length-append old_places (id_places test s 0 members));
        within = omega (arith, end);
        places_are =
            last_places old_places (id_places test s 0 members) adds.class.start adds.class.end adds.start_is end
            ∙ ap (id_places test s 0) of.members_are
            ∙ ap (λ (t : Member → Bool). id_places t s 0 c.members) of.tests;
        size_is = adds.size_is ∙ ap (size_together s) of.members_are;
      }

  old_or_new : (k : ℕ) (p : ClassPlan) → slice_get new k ≡ Some p
      → (slice_get old k ≡ Some p) ⊎ ((k ≡ length old) × (adds.class ≡ p))
  old_or_new k p is = slice_get_push old adds.class k p (sym (ap (λ ps. slice_get ps k) adds.plans_are) ∙ is)

  pub plan_more : (skips : Class → Member → Bool) (heap : List SubRecord) (ids : List ℕ) (n : ℕ) → length old ≡ n
      → AreClassPlans skips s heap ids old old_places
      → ((c : Class) → class_named heap (slice_index ids n) ≡ Some c → IsOfClass skips test members c)
      → AreClassPlans skips s heap ids new places
  plan_more skips heap ids n count each same = λ k p c is named.
      subst (λ (ps : List ℕ). IsClassPlan skips s ps c p) (sym adds.places_are)
      (⊎_elim (λ h. old_plan (id_places test s 0 members) (each k p c h named))
      (λ e.
      let there = ap (λ (m : ℕ). class_named heap (slice_index ids m)) (sym (e.0 ∙ count)) ∙ named in
      subst (λ (x : ClassPlan). IsClassPlan skips s (old_places ++ id_places test s 0 members) c x) e.1
      (new_plan (same c there)))
      (old_or_new k p is))

  pub objects_more : (all ids : List ℕ) (n : ℕ) → length old ≡ n → AreClassObjects all ids old
      → object ≡ target_in all (slice_index ids n) → AreClassObjects all ids new
  objects_more all ids n count each same = λ k p is.
      ⊎_elim (λ h. each k p h)
      (λ e.
      ap (λ (x : ClassPlan). x.object) (sym e.1) ∙ adds.object_is ∙ same
      ∙ ap (λ (m : ℕ). target_in all (slice_index ids m)) (sym (e.0 ∙ count)))
      (old_or_new k p is)

module _ (plans : List ClassPlan) (none : plans ≡ []) where
  no_class : (k : ℕ) (p : ClassPlan) → slice_get plans k ≡ Some p → ⊥
  no_class k p is = some_none (sym is ∙ ap (λ (ps : List ClassPlan). slice_get ps k) none)

  pub no_object : (all ids : List ℕ) → AreClassObjects all ids plans
  no_object all ids = λ k p is. absurd (no_class k p is)

  pub no_plan : (skips : Class → Member → Bool) (s : ℕ) (heap : List SubRecord) (ids places : List ℕ)
      → AreClassPlans skips s heap ids plans places
  no_plan skips s heap ids places = λ k p c is named. absurd (no_class k p is)

-- ---- the fields that are read are those of the class

pub fields_read : (v : Sight) (heap : List SubRecord) (entries : List TableEntry) (k : ℕ) (kept : ClassPlace)
    (read : List Member) → AreClasses v heap entries → k < length entries → IsKept entries k kept
    → ((c : Class) → Stands v kept.place (class_dump c) → read ≡ c.members)
    → (c : Class) → class_named heap (slice_index (ids_of entries) k) ≡ Some c → read ≡ c.members
fields_read v heap entries k kept read are h is says c named =
    let it = numbered v heap entries k are h in
    let stands = subst (λ (p : ClassPlace). Stands v p.place (class_dump it.holds.class)) (sym (is it.entry it.is))
    it.holds.stands in
    says it.holds.class stands ∙ ap (λ (d : Class). d.members) (same_class v heap entries k c it named)

-- ---- what the plan says of a class

pub record AreOwnFields (skips : Class → Member → Bool) (s : ℕ) (plans : List ClassPlan) (places : List ℕ) (c : Class)
    (k : ℕ) : Type 0 where
  pub has : HasIdPlaces plans places k
  pub places_are : id_places_of plans places k ≡ id_places (skips c) s 0 c.members
  pub size_is : (plan_at plans k).size ≡ size_together s c.members

module _ {skips : Class → Member → Bool} {s : ℕ} {heap : List SubRecord} {all ids : List ℕ} {plans : List ClassPlan}
    {places : List ℕ} (plan : IsPlan skips s heap all ids plans places) where
  pub fields_of_class : (k : ℕ) (c : Class) → k < length ids → class_named heap (slice_index ids k) ≡ Some c
      → AreOwnFields skips s plans places c k
  fields_of_class k c below named =
      let it = there_is plans k (omega (arith, below, plan.one_each)) in
      let says = plan.each k it.0 c it.1 named in
      let is : plan_at plans k ≡ it.0 =
      get_or_from_slice_get plans k it.0 (record { start = 0; end = 0; size = 0; object = None }) it.1 in
      record {
        has = record {
          rising = subst (λ (p : ClassPlan). p.start ≤ p.end) (sym is) says.rising;
          within = subst (λ (p : ClassPlan). p.end ≤ length places) (sym is) says.within;
        };
        places_are = ap (λ (p : ClassPlan). slice_range places p.start p.end) is ∙ says.places_are;
        size_is = ap (λ (p : ClassPlan). p.size) is ∙ says.size_is;
      }
