-- If the form of a text has no fault, the text is accepted or its links have a first fault. Each object keeps or breaks
-- each rule, so the first object that breaks one is found by going through them.
use Rattle.heap_graph.proofs.Words.{Class, Contains, DuplicateObject, Fails, HasLinkFault, Instance, InstanceSize}
use Rattle.heap_graph.proofs.Words.{IsAccepted, IsChain, IsFirstFault, IsLeastRule, IsOrderly, IsPlaced, IsRuleOfKind}
use Rattle.heap_graph.proofs.Words.{LinkRule, List, None, ObjectArray, Option, Record, Some, Spells, SubRecord}
use Rattle.heap_graph.proofs.Words.{SuperChain, TooLarge, UnknownClass, ZeroObject, [], ap, arith, cases_eq, cases_lt}
use Rattle.heap_graph.proofs.Words.{class_dump, class_named, code_of, heap_list, heap_of, id_of, inl, inr}
use Rattle.heap_graph.proofs.Words.{instance_dump, is_object, layout_size, length, map, most_objects, object_array_dump}
use Rattle.heap_graph.proofs.Words.{objects, places_of, places_where, primitive_array_dump, refl, root, slice_get}
use Rattle.heap_graph.proofs.Words.{slice_get_within, subst, suc, tag_of, take, zero, ℕ, ⊎_elim, ◌+◌, ◌<◌, ◌∙◌, ◌∷◌}
use Rattle.heap_graph.proofs.Words.{◌≡◌, ◌≤◌, ◌⊎◌}
use Rattle.heap_graph.proofs.Firsts.{slice_get_of}
use Rattle.heap_graph.proofs.ChainLaws.{chain_ends, cut_is_no_chain, one_chain}
use Rattle.heap_graph.proofs.PathLaws.{contains_cases, contains_first, contains_none, contains_rest}
use Rattle.heap_graph.proofs.RuleLaws.{array_fine, array_unknown, class_bad, class_fine, instance_fine}
use Rattle.heap_graph.proofs.RuleLaws.{instance_unknown, instance_wrong, none_of_kind}
use Rattle.heap_graph.proofs.Superclasses.{Comes, comes_to, super_told}
use Rattle.heap_graph.proofs.Testing.{IsOwn, duplicate_fails, fine_object, large_fails, none_before, of_kind_fails}
use Rattle.heap_graph.proofs.Testing.{zero_fails}

contains_told : (xs : List ℕ) (x : ℕ) → Contains xs x ⊎ (Contains xs x → ⊥)
contains_told [] x = inr (contains_none x)
contains_told (y ∷ ys) x =
    ⊎_elim (λ e. inl (subst (λ (z : ℕ). Contains (y ∷ ys) z) e (contains_first y ys)))
    (λ other. ⊎_elim (λ h. inl (contains_rest y ys x h))
    (λ none. inr (λ c. ⊎_elim other none (contains_cases y ys x c))) (contains_told ys x))
    (cases_eq y x)

abbrev HasRuleOfKind : ℕ → List SubRecord → SubRecord → Type 0
HasRuleOfKind s heap o = (rule : Option LinkRule) × IsRuleOfKind s heap o rule

abbrev LeastTold : ℕ → List SubRecord → ℕ → Type 0
LeastTold s heap n = (rule : Option LinkRule) × IsLeastRule s heap n rule

abbrev NoneBefore : ℕ → List SubRecord → ℕ → Type 0
NoneBefore s heap n = (k : ℕ) (rule : LinkRule) → k < n → Fails s heap k rule → ⊥

abbrev HasFirst : ℕ → List SubRecord → Type 0
HasFirst s heap = (n : ℕ) × (rule : LinkRule) × IsFirstFault s heap n rule

module _ (s : ℕ) (heap : List SubRecord) where
  -- ---- the rules on classes, superclasses and sizes

  sized : (i : Instance) (c : Class) → class_named heap i.class ≡ Some c → Comes heap i.class
      → HasRuleOfKind s heap (instance_dump i)
  sized i c named (inl h) =
      let right : length i.values ≡ layout_size s h.0 → (chain : List Class) → IsChain heap i.class chain
      → length i.values ≡ layout_size s chain =
      λ e chain is. e ∙ ap (layout_size s) (one_chain heap i.class h.0 chain h.1 is) in
      ⊎_elim (λ e. (None, instance_fine s heap i c named (right e)))
      (λ other. (Some InstanceSize, instance_wrong s heap i c h.0 named h.1 other))
      (cases_eq (length i.values) (layout_size s h.0))
  sized i c named (inr (inl h)) =
      (None, instance_fine s heap i c named (λ chain is. absurd (cut_is_no_chain heap i.class h.0 chain h.1 is)))
  sized i c named (inr (inr never)) =
      (None, instance_fine s heap i c named (λ chain is. absurd (chain_ends heap i.class chain is never)))

  instance_told : (i : Instance) (o : Option Class) → class_named heap i.class ≡ o
      → HasRuleOfKind s heap (instance_dump i)
  instance_told i None e = (Some UnknownClass, instance_unknown s heap i e)
  instance_told i (Some c) e = sized i c e (comes_to heap i.class)

  array_told : (a : ObjectArray) (o : Option Class) → class_named heap a.class ≡ o
      → HasRuleOfKind s heap (object_array_dump a)
  array_told a None e = (Some UnknownClass, array_unknown s heap a e)
  array_told a (Some c) e = (None, array_fine s heap a c e)

  of_kind_told : (o : SubRecord) → HasRuleOfKind s heap o
  of_kind_told (root r) = (None, none_of_kind s heap (root r) (λ h. h) (λ h. h) (λ h. h))
  of_kind_told (class_dump c) =
      ⊎_elim (λ bad. (Some SuperChain, class_bad s heap c bad)) (λ fine. (None, class_fine s heap c fine))
      (super_told heap c.super)
  of_kind_told (instance_dump i) = instance_told i (class_named heap i.class) refl
  of_kind_told (object_array_dump a) = array_told a (class_named heap a.class) refl
  of_kind_told (primitive_array_dump a) =
      (None, none_of_kind s heap (primitive_array_dump a) (λ h. h) (λ h. h) (λ h. h))

  -- ---- all rules

  own_told : (n : ℕ) (o : SubRecord) → IsOwn heap n o → (rule : Option LinkRule) → IsRuleOfKind s heap o rule
      → LeastTold s heap n
  own_told n o own (Some rule) kind = (Some rule, of_kind_fails s heap n o own rule kind)
  own_told n o own None kind =
      ⊎_elim (λ few. (None, fine_object s heap n o own kind few))
      (λ many. (Some TooLarge, large_fails s heap n o own kind many)) (cases_lt n most_objects)

  least_told : (n : ℕ) (o : SubRecord) → slice_get (objects heap) n ≡ Some o → LeastTold s heap n
  least_told n o is =
      let kind = of_kind_told o in
      ⊎_elim (λ zero_id. (Some ZeroObject, zero_fails s heap n o is zero_id))
      (λ not_zero. ⊎_elim (λ again. (Some DuplicateObject, duplicate_fails s heap n o is not_zero again))
      (λ first. own_told n o (record { is = is; not_zero = not_zero; first = first }) kind.0 kind.1)
      (contains_told (take n (map id_of (objects heap))) (id_of o))) (cases_eq (id_of o) 0)

  -- ---- the first object that breaks a rule

  one_more : (n : ℕ) → NoneBefore s heap n → (rule : Option LinkRule) → IsLeastRule s heap n rule
      → NoneBefore s heap (n + 1) ⊎ HasFirst s heap
  one_more n none None fine = inl (none_before s heap n none fine)
  one_more n none (Some rule) least = inr (n, rule, record { here = least; first = none })

  none_or_first : (n : ℕ) → n ≤ length (objects heap) → NoneBefore s heap n ⊎ HasFirst s heap
  none_or_first zero room = inl (λ k rule h f. omega (arith, h))
  none_or_first (suc n) room =
      let o = slice_get_of (objects heap) n (omega (arith, room)) in
      let least = least_told n o.0 o.1 in
      let next : n + 1 ≡ suc n = omega arith in
      ⊎_elim (λ none. subst (λ (m : ℕ). NoneBefore s heap m ⊎ HasFirst s heap) next (one_more n none least.0 least.1))
      inr (none_or_first n (omega (arith, room)))

pub linked_or_fault : (text : List ℕ) (s : ℕ) (records : List Record) → Spells text s records
    → IsOrderly (map tag_of records) → IsPlaced text (places_of s records) records
    → IsAccepted text s records ⊎ ((code : ℕ) × (place : ℕ) × HasLinkFault text code place)
linked_or_fault text s records spells orderly placed =
    let heap = heap_of records in
    let below : (n : ℕ) (o : SubRecord) → slice_get (objects heap) n ≡ Some o → n < length (objects heap) =
    slice_get_within (objects heap) in
    ⊎_elim (λ none. inl (record {
      spells = spells;
      orderly = orderly;
      linked = λ n rule f. none n rule (below n f.0 f.1) f;
    }))
    (λ first.
    let fails = first.2.here.fails in
    let places = places_where is_object (heap_list s records) in
    let room : first.0 < length places = omega (arith, placed.objects.count, below first.0 fails.0 fails.1) in
    let place = slice_get_of places first.0 room in
    inr (
      code_of first.1,
      place.0,
      record {
        id_size = s;
        records = records;
        spells = spells;
        orderly = orderly;
        number = first.0;
        rule = first.1;
        first = first.2;
        code_is = refl;
        place_is = place.1;
      },
    )) (none_or_first s heap (length (objects heap)) (omega arith))
