-- What the tests of an object show.
use Rattle.heap_graph.proofs.Words.{Breaks, BreaksOfKind, Contains, DuplicateObject, Fails, InstanceSize, IsFirstRepeat}
use Rattle.heap_graph.proofs.Words.{IsLeastFault, IsLeastRule, IsRuleOfKind, LinkRule, List, None, Some, SubRecord}
use Rattle.heap_graph.proofs.Words.{SuperChain, TooLarge, UnknownClass, ZeroObject, ap, arith, cases_order, code_of}
use Rattle.heap_graph.proofs.Words.{id_of, map, most_objects, objects, option_map, same_Some, slice_get, slice_get-map}
use Rattle.heap_graph.proofs.Words.{subst, sym, take, ℕ, ⊎_elim, ◌+◌, ◌<◌, ◌∙◌, ◌≡◌, ◌≤◌}

code_range : (rule : LinkRule) → (9 ≤ code_of rule) × (code_of rule ≤ 14)
code_range ZeroObject = (omega arith, omega arith)
code_range DuplicateObject = (omega arith, omega arith)
code_range UnknownClass = (omega arith, omega arith)
code_range SuperChain = (omega arith, omega arith)
code_range InstanceSize = (omega arith, omega arith)
code_range TooLarge = (omega arith, omega arith)

-- object n has an identifier other than 0 that no earlier object has
pub record IsOwn (heap : List SubRecord) (n : ℕ) (o : SubRecord) : Type 0 where
  pub is : slice_get (objects heap) n ≡ Some o
  pub not_zero : id_of o ≡ 0 → ⊥
  pub first : Contains (take n (map id_of (objects heap))) (id_of o) → ⊥

-- ---- all rules, for object n

module _ (s : ℕ) (heap : List SubRecord) (n : ℕ) (o : SubRecord) where
  module _ (e : slice_get (objects heap) n ≡ Some o) where
    the_object : (rule : LinkRule) → Fails s heap n rule → Breaks s heap n o rule
    the_object rule f = subst (λ (x : SubRecord). Breaks s heap n x rule) (same_Some f.0 o (sym f.1 ∙ e)) f.2

    least_fails : (rule : LinkRule) → Breaks s heap n o rule
        → ((other : LinkRule) → Breaks s heap n o other → code_of rule ≤ code_of other) → IsLeastFault s heap n rule
    least_fails rule breaks least =
        record { fails = (o, e, breaks); least = λ other f. least other (the_object other f) }

    pub zero_fails : id_of o ≡ 0 → IsLeastFault s heap n ZeroObject
    zero_fails zero_id = least_fails ZeroObject zero_id (λ other b. (code_range other).0)

    ten_least : (id_of o ≡ 0 → ⊥) → (other : LinkRule) → Breaks s heap n o other → 10 ≤ code_of other
    ten_least own ZeroObject b = absurd (own b)
    ten_least own other b = omega arith

    pub duplicate_fails : (id_of o ≡ 0 → ⊥) → Contains (take n (map id_of (objects heap))) (id_of o)
        → IsLeastFault s heap n DuplicateObject
    duplicate_fails own again = least_fails DuplicateObject again (ten_least own)

  of_kind_breaks : (rule : LinkRule) → BreaksOfKind s heap o rule → Breaks s heap n o rule
  of_kind_breaks ZeroObject h = absurd h
  of_kind_breaks DuplicateObject h = absurd h
  of_kind_breaks TooLarge h = absurd h
  of_kind_breaks rule h = h

  module _ (own : IsOwn heap n o) where
    of_kind_least : (rule : LinkRule)
        → ((other : LinkRule) → BreaksOfKind s heap o other → code_of rule ≤ code_of other) → (other : LinkRule)
        → Breaks s heap n o other → code_of rule ≤ code_of other
    of_kind_least rule least ZeroObject b = absurd (own.not_zero b)
    of_kind_least rule least DuplicateObject b = absurd (own.first b)
    of_kind_least rule least TooLarge b = (code_range rule).1
    of_kind_least rule least other b = least other b

    pub of_kind_fails : (rule : LinkRule) → IsRuleOfKind s heap o (Some rule) → IsLeastFault s heap n rule
    of_kind_fails rule kind = least_fails own.is rule (of_kind_breaks rule kind.0) (of_kind_least rule kind.1)

    large_least : IsRuleOfKind s heap o None → (other : LinkRule) → Breaks s heap n o other → 14 ≤ code_of other
    large_least kind ZeroObject b = absurd (own.not_zero b)
    large_least kind DuplicateObject b = absurd (own.first b)
    large_least kind TooLarge b = omega arith
    large_least kind other b = absurd (kind other b)

    pub large_fails : IsRuleOfKind s heap o None → most_objects ≤ n → IsLeastFault s heap n TooLarge
    large_fails kind large = least_fails own.is TooLarge large (large_least kind)

    none_breaks : IsRuleOfKind s heap o None → n < most_objects → (rule : LinkRule) → Breaks s heap n o rule → ⊥
    none_breaks kind few ZeroObject b = own.not_zero b
    none_breaks kind few DuplicateObject b = own.first b
    none_breaks kind few TooLarge b = absurd (omega (arith, few, b))
    none_breaks kind few rule b = kind rule b

    pub fine_object : IsRuleOfKind s heap o None → n < most_objects → IsLeastRule s heap n None
    fine_object kind few rule f = none_breaks kind few rule (the_object own.is rule f)

-- one more object that breaks no rule
pub none_before : (s : ℕ) (heap : List SubRecord) (n : ℕ)
    → ((k : ℕ) (rule : LinkRule) → k < n → Fails s heap k rule → ⊥) → ((rule : LinkRule) → Fails s heap n rule → ⊥)
    → (k : ℕ) (rule : LinkRule) → k < n + 1 → Fails s heap k rule → ⊥
none_before s heap n below here k rule h f =
    ⊎_elim (λ e. here rule (subst (λ (m : ℕ). Fails s heap m rule) e f))
    (⊎_elim (λ l. below k rule l f) (λ l. omega (arith, h, l))) (cases_order k n)

-- ---- what the identifiers say of an object

module _ (heap : List SubRecord) (ids : List ℕ) (n id repeat : ℕ) (o : SubRecord)
    (is : slice_get (objects heap) n ≡ Some o) (ids_are : ids ≡ map id_of (objects heap)) (id_is : id ≡ id_of o)
    (not_zero : id ≡ 0 → ⊥) (first : IsFirstRepeat ids repeat) where
  own_id : slice_get ids n ≡ Some id
  own_id = rw (ids_are, id_is) (slice_get-map id_of (objects heap) n ∙ ap (option_map id_of) is)

  -- if the object comes before the first repeat, it is the first with its identifier
  pub own_object : n < repeat → IsOwn heap n o
  own_object before = record {
    is = is;
    not_zero = λ e. not_zero (id_is ∙ e);
    first = λ h. first.first n id before own_id (rw (ids_are, id_is) h);
  }

  -- if it is the first repeat, the rule on duplicates is the least that it breaks
  pub repeated_object : (s : ℕ) → n ≡ repeat → IsLeastFault s heap n DuplicateObject
  repeated_object s same =
      let again = subst (λ (k : ℕ). slice_get ids k ≡ Some id → Contains (take k ids) id) (sym same)
      (first.repeated id) own_id in
      duplicate_fails s heap n o is (λ e. not_zero (id_is ∙ e)) (rw (← ids_are, ← id_is) again)
