-- The numbers of the class dumps, for one more object; and the table of classes, from one class dump to the next.
use Rattle.heap_graph.proofs.Words.{AreClassNumbers, AreClassesAmong, AreIndexed, AreObjects, Class, Contains}
use Rattle.heap_graph.proofs.Words.{Contains-append_left, Contains-append_right, Indexed, IsClassNumber, List, None}
use Rattle.heap_graph.proofs.Words.{Sight, Some, SubRecord, TableEntry, [], ap, arith, as_class, cases_lt, class_dump}
use Rattle.heap_graph.proofs.Words.{get_or, get_or_past, length, length-append, objects, refl, subst, suc, sym, zero, ℕ}
use Rattle.heap_graph.proofs.Words.{⊎_elim, ◌++◌, ◌+◌, ◌-◌, ◌<◌, ◌∙◌, ◌∷◌, ◌≡◌, ◌≤◌, ◌⊎◌}
use Rattle.std.proofs.lemmas.Grind.{get_or_default_zero}
use Rattle.std.proofs.lemmas.List.{get_or-append_right, get_or_append_left}
use Rattle.heap_graph.proofs.ChainLaws.{some_none}
use Rattle.heap_graph.proofs.PathLaws.{contains_none}
use Rattle.heap_graph.proofs.Standings.{there}
use Rattle.heap_graph.proofs.TableGrowth.{among_skip, below_next, no_class_skip}

module _ (os : List SubRecord) where
  -- an object that is no class dump
  pub noted_skip : (n : ℕ) (numbers : List ℕ) → AreClassNumbers os n numbers → (IsClassNumber os n → ⊥)
      → AreClassNumbers os (n + 1) numbers
  noted_skip n numbers are none = record {
    ascending = are.ascending;
    below = λ k h. let low = are.below k h in omega (arith, low);
    each = are.each;
    all = λ number h is. ⊎_elim (λ l. are.all number l is)
        (λ e. absurd (none (subst (λ (m : ℕ). IsClassNumber os m) e is))) (below_next number n h);
  }

  module _ (n : ℕ) (numbers : List ℕ) where
    old : (k : ℕ) → k < length numbers → get_or (numbers ++ n ∷ []) k 0 ≡ get_or numbers k 0
    old k h = get_or_append_left numbers (n ∷ []) 0 k h

    new : (k : ℕ) → k ≡ length numbers → get_or (numbers ++ n ∷ []) k 0 ≡ n
    new k e =
        let none : k - k ≡ 0 = omega arith in
        get_or-append_right numbers (n ∷ []) k k 0 (sym e) (omega arith) ∙ ap (λ (i : ℕ). get_or (n ∷ []) i 0) none

    which : (k : ℕ) → k < length (numbers ++ n ∷ []) → (k < length numbers) ⊎ (k ≡ length numbers)
    which k h = below_next k (length numbers) (omega (arith, h, length-append numbers (n ∷ [])))

    -- a class dump
    pub noted_more : AreClassNumbers os n numbers → IsClassNumber os n → AreClassNumbers os (n + 1) (numbers ++ n ∷ [])
    noted_more are is = record {
      ascending = λ j k less h.
          ⊎_elim (λ l. omega (arith, old j (omega (arith, less, l)), old k l, are.ascending j k less l))
          (λ e. let within : j < length numbers = omega (arith, less, e) in
          omega (arith, old j within, new k e, are.below j within)) (which k h);
      below = λ k h.
          ⊎_elim (λ l. omega (arith, old k l, are.below k l)) (λ e. omega (arith, new k e)) (which k h);
      each = λ k h.
          ⊎_elim (λ l. subst (λ (m : ℕ). IsClassNumber os m) (sym (old k l)) (are.each k l))
          (λ e. subst (λ (m : ℕ). IsClassNumber os m) (sym (new k e)) is) (which k h);
      all = λ number h it.
          ⊎_elim (λ l. Contains-append_left numbers (n ∷ []) number (are.all number l it))
          (λ e. Contains-append_right numbers (n ∷ []) number
          (subst (λ (m : ℕ). Contains (n ∷ []) m) (sym e) (0, omega arith, refl))) (below_next number n h);
    }

  module _ (n : ℕ) (numbers : List ℕ) (are : AreClassNumbers os n numbers) where
    rises : (j k : ℕ) → j ≤ k → k < length numbers → get_or numbers j 0 ≤ get_or numbers k 0
    rises j k le h =
        ⊎_elim (λ l. let less = are.ascending j k l h in omega (arith, less))
        (λ ge. let same : j ≡ k = omega (arith, le, ge) in omega (arith, ap (λ (i : ℕ). get_or numbers i 0) same))
        (cases_lt j k)

    next_within : (k : ℕ) → get_or numbers k n ≤ n
    next_within k =
        ⊎_elim (λ l. omega (arith, get_or_default_zero numbers k n l, are.below k l))
        (λ past. omega (arith, get_or_past numbers k n past)) (cases_lt k (length numbers))

    -- no class dump comes between one class dump and the next, or the end
    none_between : (k number : ℕ) → ((j : ℕ) → j < k → j < length numbers → get_or numbers j 0 < number)
        → number < get_or numbers k n → IsClassNumber os number → ⊥
    none_between k number behind before is =
        let has = are.all number (omega (arith, before, next_within k)) is in
        let same : get_or numbers has.0 0 ≡ number =
        sym (get_or_default_zero numbers has.0 number has.1) ∙ has.2 in
        ⊎_elim (λ l. let low = behind has.0 l has.1 in omega (arith, low, same))
        (λ from. omega (
          arith,
          before,
          same,
          get_or_default_zero numbers k n (omega (arith, from, has.1)),
          rises k has.0 from has.1,
        )) (cases_lt has.0 k)

not_class : (o : SubRecord) → ((c : Class) → o ≡ class_dump c → ⊥) → as_class o ≡ None
not_class (class_dump c) other = absurd (other c refl)
not_class o other = refl

-- ---- the classes among the objects up to the next class dump

among_none : (v : Sight) (heap : List SubRecord) → AreClassesAmong v heap 0 []
among_none v heap = record {
  each = λ k e is. absurd (some_none (sym is));
  complete = λ id number c named at h. absurd (omega (arith, h));
  only = λ id has. absurd (contains_none id has);
  in_order = λ linked. refl;
  few = omega arith;
}

module _ (v : Sight) (places ids : List ℕ) (heap : List SubRecord) (stand : AreObjects v places ids heap)
    (entries : List TableEntry) where
  -- without a class dump among the objects nothing is added
  among_past : (n d : ℕ) → n + d ≤ length places
      → ((m : ℕ) → n ≤ m → m < n + d → IsClassNumber (objects heap) m → ⊥)
      → AreClassesAmong v heap n entries → AreClassesAmong v heap (n + d) entries
  among_past n zero h none among = subst (λ (m : ℕ). AreClassesAmong v heap m entries) (omega arith) among
  among_past n (suc d) h none among =
      let it = there v places ids heap (n + d) stand (omega (arith, h)) in
      let no_class : as_class it.object ≡ None = not_class it.object (λ c e.
      none (n + d) (omega arith) (omega arith) (c, it.is ∙ ap (λ (o : SubRecord). Some o) e)) in
      subst (λ (m : ℕ). AreClassesAmong v heap m entries) (omega arith)
      (among_skip v heap (n + d) entries it.object
      (among_past n d (omega (arith, h)) (λ m low high is. none m low (omega (arith, high)) is) among) it.is
      (no_class_skip heap (n + d) it.object it.is no_class) (λ linked. no_class))

  module _ (numbers : List ℕ) (are : AreClassNumbers (objects heap) (length places) numbers) where
    among_to : (k n : ℕ) → n ≤ get_or numbers k (length places)
        → ((j : ℕ) → j < k → j < length numbers → get_or numbers j 0 < n)
        → AreClassesAmong v heap n entries → AreClassesAmong v heap (get_or numbers k (length places)) entries
    among_to k n le behind among =
        let next : ℕ = get_or numbers k (length places) in
        let sum : n + (next - n) ≡ next = omega (arith, le) in
        subst (λ (m : ℕ). AreClassesAmong v heap m entries) sum
        (among_past n (next - n) (omega (arith, sum, next_within (objects heap) (length places) numbers are k))
        (λ m low high is. none_between (objects heap) (length places) numbers are k m
        (λ j less within. let before = behind j less within in omega (arith, before, low))
        (omega (arith, high, sum)) is) among)

    pub among_first : entries ≡ [] → AreClassesAmong v heap (get_or numbers 0 (length places)) entries
    among_first none =
        among_to 0 0 (omega arith) (λ j less within. absurd (omega (arith, less)))
        (subst (λ (es : List TableEntry). AreClassesAmong v heap 0 es) (sym none) (among_none v heap))

    among_next : (k : ℕ) → k < length numbers → AreClassesAmong v heap (get_or numbers k 0 + 1) entries
        → AreClassesAmong v heap (get_or numbers (k + 1) (length places)) entries
    among_next k h among =
        among_to (k + 1) (get_or numbers k 0 + 1)
        (⊎_elim (λ l. omega (
          arith,
          get_or_default_zero numbers (k + 1) (length places) l,
          are.ascending k (k + 1) (omega arith) l,
        )) (λ past. omega (arith, get_or_past numbers (k + 1) (length places) past, are.below k h))
        (cases_lt (k + 1) (length numbers)))
        (λ j less within. omega (arith, rises (objects heap) (length places) numbers are j k (omega (arith, less)) h))
        among

-- ---- the class dumps one after another, as `class_table` goes over them: it sees `w` and goes over `items`

module _ {A : Type 0} (v w : Sight) (same : w ≡ v) (places : List ℕ) (heap : List SubRecord) (i : Indexed A)
    (items : List ℕ) (are_items : items ≡ i.class_dumps.items) (entries : List TableEntry) (k : ℕ)
    (are : AreIndexed v places heap i) where
  -- the table so far is that of the objects before the next class dump
  pub next_class : k < length items
      → AreClassesAmong v heap (get_or i.class_dumps.items k (length places)) entries
      → AreObjects w places i.index heap × IsClassNumber (objects heap) (get_or items k 0)
      × AreClassesAmong w heap (get_or items k 0) entries
  next_class h among =
      let within : k < length i.class_dumps.items = omega (arith, h, ap length are_items) in
      let here : get_or i.class_dumps.items k 0 ≡ get_or items k 0 =
      ap (λ (xs : List ℕ). get_or xs k 0) (sym are_items) in (
        subst (λ (x : Sight). AreObjects x places i.index heap) (sym same) are.are,
        subst (λ (m : ℕ). IsClassNumber (objects heap) m) here (are.class_dumps.each k within),
        subst (λ (x : Sight). AreClassesAmong x heap (get_or items k 0) entries) (sym same)
            (subst (λ (m : ℕ). AreClassesAmong v heap m entries)
            (get_or_default_zero i.class_dumps.items k (length places) within ∙ here) among),
      )

  pub next_added : k < length items → AreClassesAmong w heap (get_or items k 0 + 1) entries
      → AreClassesAmong v heap (get_or i.class_dumps.items (k + 1) (length places)) entries
  next_added h among =
      among_next v places i.index heap are.are entries i.class_dumps.items are.class_dumps k
      (omega (arith, h, ap length are_items))
      (subst (λ (xs : List ℕ). AreClassesAmong v heap (get_or xs k 0 + 1) entries) are_items
      (subst (λ (x : Sight). AreClassesAmong x heap (get_or items k 0 + 1) entries) same among))

  -- after the last class dump it is that of all objects
  pub all_classes : length items ≤ k
      → AreClassesAmong v heap (get_or i.class_dumps.items k (length places)) entries
      → AreClassesAmong v heap (length places) entries
  all_classes past among =
      subst (λ (m : ℕ). AreClassesAmong v heap m entries)
      (get_or_past i.class_dumps.items k (length places) (omega (arith, past, ap length are_items))) among
