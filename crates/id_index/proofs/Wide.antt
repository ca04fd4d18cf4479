-- Entries of full width: their order, searching them by halving, and the identifiers that agree with them.
use Rattle.std.specs.List.Sorted.{IsNonDecreasingBy}
use Rattle.id_index.specs.working.WideEntries.{AreDistinct, AreEntriesOf, AreNumbered, AreOrdered}
use Rattle.id_index.specs.working.WideEntries.{IsBetween, IsFirstFrom, IsLeastRepeat, IsRepeatAt, entry_in, entry_of}
use Rattle.id_index.specs.working.WideEntries.{id_numbered}
use Rattle.id_index.specs.working.WideEntries.{id_of, ids_of_entries, is_numbered, key_of}
use Rattle.id_index.specs.declared.wide_entries.WideEntry.{WideEntry}
use Rattle.id_index.proofs.Words.{All-from_get_or, All-permutation, Bool, Contains, Contains-get_or}
use Rattle.id_index.proofs.Words.{Contains-permutation, IsFirstRepeat, IsPermutation, IsPermutation-keeps}
use Rattle.id_index.proofs.Words.{IsPermutation-sym, List, None, Some, [], ap, arith, cases_eq, cases_lt, eq-eqb}
use Rattle.id_index.proofs.Words.{eqb-true, fails_before_first, false, fill_by_all, get_or, get_or-append}
use Rattle.id_index.proofs.Words.{get_or-append_seam, get_or-map, get_or_from_slice_get, get_or_read, inl, inr, length}
use Rattle.id_index.proofs.Words.{length-append, length-map, length-swap, lt_of_not-le, map, min}
use Rattle.id_index.proofs.Words.{ne_eqb, passes_at_first, position, position_or_len, slice_get}
use Rattle.id_index.proofs.Words.{slice_get-get_or, slice_get_within, subst, swap, sym, true, ℕ, ◌++◌, ◌+◌, ◌-◌}
use Rattle.id_index.proofs.Words.{◌<◌, ◌==◌, ◌^◌, ◌∙◌, ◌∷◌, ◌≡◌, ◌≢◌, ◌≤◌}
use Rattle.id_index.proofs.Bearers.{before_in, in_before, position_is, position_none}
use Rattle.id_index.proofs.Swapped.{came_from}

abbrev pub no_entry : WideEntry
no_entry = entry_of 0 0 0

-- the index of an entry
stands : (entries : List WideEntry) (x : WideEntry) → Contains entries x
    → (k : ℕ) × (k < length entries) × (entry_in entries k ≡ x)
stands entries x h = (h.0, h.1, sym (get_or_read entries h.0 x h.1 (sym h.2) no_entry))

-- ---- searching by halving

ids_rise : (entries : List WideEntry) → AreOrdered entries → (i j : ℕ) → i ≤ j → j < length entries
    → id_of (entry_in entries i) ≤ id_of (entry_in entries j)
ids_rise entries up i j le h =
    elim (cases_eq i j) [
      | inl same ↦ omega (arith, ap (λ (m : ℕ). id_of (entry_in entries m)) same)
      | inr other ↦ elim (up i j (omega (arith, le, other)) h) [
        | inl lower ↦ omega (arith, lower)
        | inr later ↦ omega (arith, later.0)
      ]
    ]

-- the entries beside two ends show that the ends are right
pub ends_right : (entries : List WideEntry) (id begin end : ℕ) → AreOrdered entries → begin ≤ end → end ≤ length entries
    → (0 < begin → id_of (entry_in entries (begin - 1)) < id)
    → (end < length entries → id ≤ id_of (entry_in entries end)) → IsBetween entries id begin end
ends_right entries id begin end up order within low high = record {
  order = order;
  within = within;
  before = λ k h.
      let last = low (omega (arith, h)) in
      let rise = ids_rise entries up k (begin - 1) (omega (arith, h)) (omega (arith, h, order, within)) in
      omega (arith, last, rise);
  from = λ k from h.
      let next = high (omega (arith, from, h)) in
      let rise = ids_rise entries up end k from h in
      omega (arith, next, rise);
}

module _ (entries : List WideEntry) (up : AreOrdered entries) (id low high middle : ℕ)
    (between : IsBetween entries id low high) (after : low ≤ middle) (inside : middle < high) where
  pub upper_half : id_of (entry_in entries middle) < id → IsBetween entries id (middle + 1) high
  upper_half less = record {
    order = omega (arith, inside);
    within = between.within;
    before = λ k h.
        let rise = ids_rise entries up k middle (omega (arith, h)) (omega (arith, inside, between.within)) in
        omega (arith, rise, less);
    from = between.from;
  }

  pub lower_half : id ≤ id_of (entry_in entries middle) → IsBetween entries id low middle
  lower_half more = record {
    order = after;
    within = omega (arith, inside, between.within);
    before = between.before;
    from = λ k from h. let rise = ids_rise entries up middle k from h in omega (arith, rise, more);
  }

pub first_found : (entries : List WideEntry) (id low high : ℕ) → IsBetween entries id low high → high ≤ low
    → IsFirstFrom entries id low
first_found entries id low high between met = record {
  within = omega (arith, between.order, between.within);
  before = between.before;
  from = λ k from h. between.from k (omega (arith, met, from)) h;
}

-- ---- an identifier's first object

module _ (entries : List WideEntry) (ids : List ℕ) (up : AreOrdered entries) (it : AreEntriesOf entries ids)
    (id at : ℕ) (first : IsFirstFrom entries id at) where
  -- an object with the identifier has its entry at `at` or later
  behind : (n : ℕ) → slice_get ids n ≡ Some id
      → (k : ℕ) × (at ≤ k) × (k < length entries) × (id_of (entry_in entries k) ≡ id)
      × ((entry_in entries k).number ≡ n)
  behind n e =
      let (entry, has, is, number) = it.complete id n e in
      let (k, h, same) = stands entries entry has in
      let id_is : id_of (entry_in entries k) ≡ id = ap id_of same ∙ is in
      let late : ¬ (k < at) = λ (less : k < at). omega (arith, first.before k less, id_is) in
      (k, omega (arith, late), h, id_is, ap (λ (x : WideEntry). x.number) same ∙ number)

  pub found : at < length entries → id_of (entry_in entries at) ≡ id
      → Some (entry_in entries at).number ≡ position (λ x. x == id) ids
  found h is =
      let n : ℕ = (entry_in entries at).number in
      let e : slice_get ids n ≡ Some id =
      it.sound (entry_in entries at) (Contains-get_or entries at no_entry h) ∙ ap (λ (m : ℕ). Some m) is in
      let not_before : (k : ℕ) → k < n → get_or ids k 0 ≡ id → ⊥ = λ k less same.
      let own : slice_get ids k ≡ Some id =
      slice_get-get_or ids k 0 (omega (arith, less, slice_get_within ids n id e)) ∙ ap (λ (m : ℕ). Some m) same in
      let (j, from, inside, id_j, number) = behind k own in
      elim (cases_eq j at) [
        | inl here ↦
            let is_n : (entry_in entries j).number ≡ n = ap (λ (m : ℕ). (entry_in entries m).number) here in
            omega (arith, number, is_n, less)
        | inr other ↦ elim (up at j (omega (arith, from, other)) inside) [
          | inl lower ↦ omega (arith, lower, is, id_j)
          | inr later ↦ omega (arith, later.1, number, less)
        ]
      ] in
      position_is (λ x. x == id) ids n (slice_get_within ids n id e)
      (λ k less. ne_eqb (get_or ids k 0) id (not_before k less))
      (eq-eqb (get_or ids n 0) id (get_or_from_slice_get ids n id 0 e))

  pub missing : (at < length entries → id_of (entry_in entries at) ≢ id) → None ≡ position (λ x. x == id) ids
  missing other =
      position_none (λ x. x == id) ids (λ k h. ne_eqb (get_or ids k 0) id (λ same.
      let (j, from, inside, id_j, number) =
      behind k (slice_get-get_or ids k 0 h ∙ ap (λ (m : ℕ). Some m) same) in
      let here : at < length entries = omega (arith, from, inside) in
      let low : id ≤ id_of (entry_in entries at) = first.from at (omega arith) here in
      let rise : id_of (entry_in entries at) ≤ id_of (entry_in entries j) = ids_rise entries up at j from inside in
      other here (omega (arith, low, rise, id_j))))

-- ---- repeats

module _ (entries : List WideEntry) (ids : List ℕ) (up : AreOrdered entries) (it : AreEntriesOf entries ids)
    (number : ℕ) (least : IsLeastRepeat entries (length entries) (length entries) number)
    (long : length ids ≡ length entries) where
  -- the index of an object's entry
  entry_at : (id n : ℕ) → slice_get ids n ≡ Some id → (k : ℕ) × (k < length entries)
      × (id_of (entry_in entries k) ≡ id) × ((entry_in entries k).number ≡ n)
  entry_at id n e =
      let (entry, has, is, same_number) = it.complete id n e in
      let (k, h, same) = stands entries entry has in
      (k, h, ap id_of same ∙ is, ap (λ (x : WideEntry). x.number) same ∙ same_number)

  -- the entry before that of an object whose identifier an earlier object has, has this identifier, too
  repeat_at : (id j k : ℕ) → j < k → slice_get ids j ≡ Some id → slice_get ids k ≡ Some id
      → (b : ℕ) × IsRepeatAt entries b × ((entry_in entries b).number ≡ k)
  repeat_at id j k less e_j e_k =
      let (a, in_a, id_a, number_a) = entry_at id j e_j in
      let (b, in_b, id_b, number_b) = entry_at id k e_k in
      let not_behind : ¬ (b < a) = λ (behind : b < a). elim (up b a behind in_a) [
        | inl lower ↦ omega (arith, lower, id_a, id_b)
        | inr later ↦ omega (arith, later.1, number_a, number_b, less)
      ] in
      let not_here : ¬ (a ≡ b) = λ (here : a ≡ b).
      omega (arith, ap (λ (m : ℕ). (entry_in entries m).number) here, number_a, number_b, less) in
      let before : a < b = omega (arith, not_behind, not_here) in
      let low = ids_rise entries up a (b - 1) (omega (arith, before)) (omega (arith, before, in_b)) in
      let high = ids_rise entries up (b - 1) b (omega arith) in_b in
      (b, record { some = omega (arith, before); within = in_b; same = omega (arith, low, high, id_a, id_b) }, number_b)

  pub first_repeat : IsFirstRepeat ids number
  first_repeat = record {
    first = λ k id below e has.
        let (j, less, e_j) = before_in ids k id has in
        let (b, repeats, number_b) = repeat_at id j k less e_j e in
        let low : number ≤ (entry_in entries b).number = least.least b repeats repeats.within in
        omega (arith, low, number_b, below);
    repeated = λ id e. elim least.found [
      | inl none ↦ absurd (omega (arith, none, long, slice_get_within ids number id e))
      | inr (at, repeats, is) ↦
          let mine : slice_get ids number ≡ Some (id_of (entry_in entries at)) =
          ap (λ (n : ℕ). slice_get ids n) is
          ∙ it.sound (entry_in entries at) (Contains-get_or entries at no_entry repeats.within) in
          let own : id_of (entry_in entries at) ≡ id =
          sym (get_or_from_slice_get ids number (id_of (entry_in entries at)) 0 mine)
          ∙ get_or_from_slice_get ids number id 0 e in
          let inside : at - 1 < length entries = omega (arith, repeats.within) in
          let earlier : slice_get ids (entry_in entries (at - 1)).number ≡ Some id =
          it.sound (entry_in entries (at - 1)) (Contains-get_or entries (at - 1) no_entry inside)
          ∙ ap (λ (m : ℕ). Some m) (sym repeats.same ∙ own) in
          elim (up (at - 1) at (omega (arith, repeats.some)) repeats.within) [
            | inl lower ↦ absurd (omega (arith, lower, repeats.same))
            | inr later ↦
                in_before ids number id (entry_in entries (at - 1)).number (omega (arith, later.1, is)) earlier
          ]
    ];
  }

-- ---- the least repeat, with one more entry

pub none_less : (entries : List WideEntry) (at count old : ℕ) → IsLeastRepeat entries at count old
    → (IsRepeatAt entries at → ⊥) → IsLeastRepeat entries (at + 1) count old
none_less entries at count old it none = record {
  least = λ k repeats below. elim (cases_eq k at) [
    | inl here ↦ absurd (none (subst (λ (m : ℕ). IsRepeatAt entries m) here repeats))
    | inr other ↦ it.least k repeats (omega (arith, below, other))
  ];
  found = it.found;
}

pub least_of_both : (entries : List WideEntry) (at count old new : ℕ) → IsLeastRepeat entries at count old
    → IsRepeatAt entries at → new ≡ min old (entry_in entries at).number → IsLeastRepeat entries (at + 1) count new
least_of_both entries at count old new it here is = record {
  least = λ k repeats below. elim (cases_eq k at) [
    | inl same ↦ omega (arith, is, ap (λ (m : ℕ). (entry_in entries m).number) same)
    | inr other ↦ let low = it.least k repeats (omega (arith, below, other)) in omega (arith, low, is)
  ];
  found = elim (cases_lt (entry_in entries at).number old) [
    | inl less ↦ inr (at, here, omega (arith, is, less))
    | inr more ↦
        let same : new ≡ old = omega (arith, is, more) in
        elim it.found [
          | inl none ↦ inl (same ∙ none)
          | inr (k, repeats, number) ↦ inr (k, repeats, same ∙ number)
        ]
  ];
}

-- ---- one more entry

pub one_numbered : (entries : List WideEntry) (x : WideEntry) → AreNumbered entries → x.number ≡ length entries
    → AreNumbered (entries ++ x ∷ [])
one_numbered entries x numbered is k h =
    elim (cases_eq k (length entries)) [
      | inl last ↦
          ap (λ (m : ℕ). (entry_in (entries ++ x ∷ []) m).number) last
          ∙ ap (λ (e : WideEntry). e.number) (get_or-append_seam entries x [] no_entry) ∙ is ∙ sym last
      | inr other ↦
          let below : k < length entries = omega (arith, h, other, length-append entries (x ∷ [])) in
          ap (λ (e : WideEntry). e.number) (get_or-append entries (x ∷ []) no_entry k below) ∙ numbered k below
    ]

-- ---- entries are sorted

swap_distinct : (entries : List WideEntry) (a b : ℕ) → a < length entries → b < length entries
    → AreDistinct entries → AreDistinct (swap entries a b)
swap_distinct entries a b in_a in_b distinct i j in_i in_j same =
    let len : length (swap entries a b) ≡ length entries = length-swap entries a b in
    let (k, in_k, at_i, from_i) = came_from entries no_entry a b i in_a in_b (omega (arith, in_i, len)) in
    let (m, in_m, at_j, from_j) = came_from entries no_entry a b j in_a in_b (omega (arith, in_j, len)) in
    let one : k ≡ m =
    distinct k m in_k in_m
    (ap (λ (e : WideEntry). e.number) (sym at_i) ∙ same ∙ ap (λ (e : WideEntry). e.number) at_j) in
    grind (arith, from_i, from_j, one)

module _ (entries sorted : List WideEntry) (same : IsPermutation entries sorted) (numbered : AreNumbered entries) where
  distinct : AreDistinct sorted
  distinct =
      IsPermutation-keeps entries AreDistinct (λ i j in_i in_j e.
      sym (numbered i in_i) ∙ e ∙ numbered j in_j)
      (λ xs a b in_a in_b it. swap_distinct xs a b in_a in_b it) sorted same

  numbers_fit : length entries < 2 ^ 32 → (k : ℕ) → k < length sorted → (entry_in sorted k).number < 2 ^ 32
  numbers_fit few k h =
      All-permutation (λ (e : WideEntry). e.number < 2 ^ 32) entries sorted same
      (All-from_get_or (λ (e : WideEntry). e.number < 2 ^ 32) entries no_entry
      (λ i less. omega (arith, numbered i less, few, less))) k no_entry h

  pub ordered : length entries < 2 ^ 32 → IsNonDecreasingBy key_of sorted → AreOrdered sorted
  ordered few up i j less h =
      let keys : key_of (entry_in sorted i) ≤ key_of (entry_in sorted j) = up i j no_entry (omega (arith, less)) h in
      let in_i : i < length sorted = omega (arith, less, h) in
      let fits_i : (entry_in sorted i).number < 2 ^ 32 = numbers_fit few i in_i in
      let fits_j : (entry_in sorted j).number < 2 ^ 32 = numbers_fit few j h in
      let differ : (entry_in sorted i).number ≢ (entry_in sorted j).number = λ e.
      omega (arith, distinct i j in_i h e, less) in
      elim (cases_lt (id_of (entry_in sorted i)) (id_of (entry_in sorted j))) [
        | inl lower ↦ inl lower
        | inr higher ↦ inr (
          omega (arith, keys, higher, fits_i, fits_j),
          omega
              (arith, keys, higher, fits_i, fits_j, differ),
        )
      ]

  -- the entries are those of the identifiers in the order of the file
  pub entries_are : AreEntriesOf sorted (map id_of entries)
  entries_are = record {
    sound = λ x has.
        let (k, h, is) =
        stands entries x (Contains-permutation sorted entries x (IsPermutation-sym entries sorted same) has) in
        let number : x.number ≡ k = ap (λ (e : WideEntry). e.number) (sym is) ∙ numbered k h in
        ap (λ (n : ℕ). slice_get (map id_of entries) n) number
        ∙ slice_get-get_or (map id_of entries) k 0 (omega (arith, h, length-map entries id_of))
        ∙ ap (λ (m : ℕ). Some m) (get_or-map id_of entries k no_entry 0 h ∙ ap id_of is);
    complete = λ id n e.
        let h : n < length entries =
        omega (arith, slice_get_within (map id_of entries) n id e, length-map entries id_of) in (
          entry_in entries n,
          Contains-permutation entries sorted (entry_in entries n) same (Contains-get_or entries n no_entry h),
          sym (get_or-map id_of entries n no_entry 0 h) ∙ get_or_from_slice_get (map id_of entries) n id 0 e,
          numbered n h,
        );
  }

-- the identifiers that are read from entries
numbered_id : (entries : List WideEntry) (ids : List ℕ) (n : ℕ) → AreEntriesOf entries ids → n < length ids
    → get_or ids n 0 ≡ id_numbered entries n
numbered_id entries ids n it h =
    let test : WideEntry → Bool = is_numbered n in
    let at : ℕ = position_or_len test entries in
    let (entry, has, is, number) = it.complete (get_or ids n 0) n (slice_get-get_or ids n 0 h) in
    let (k, in_k, same) = stands entries entry has in
    let number_k : (entry_in entries k).number ≡ n = ap (λ (e : WideEntry). e.number) same ∙ number in
    let inside : at < length entries =
    lt_of_not-le {n = length entries} {m = at} (λ le.
    let fails : test (entry_in entries k) ≡ false =
    fails_before_first test entries k no_entry (omega (arith, le, in_k)) in
    let passes : test (entry_in entries k) ≡ true = eq-eqb (entry_in entries k).number n number_k in
    absurd (cc)) in
    let number_at : (entry_in entries at).number ≡ n =
    eqb-true (entry_in entries at).number n (passes_at_first test entries no_entry inside) in
    get_or_from_slice_get ids n (id_of (entry_in entries at)) 0
    (ap (λ (m : ℕ). slice_get ids m) (sym number_at)
    ∙ it.sound (entry_in entries at) (Contains-get_or entries at no_entry inside))

pub given_back : (entries : List WideEntry) (ids : List ℕ) → AreEntriesOf entries ids
    → length ids ≡ length entries → ids ≡ ids_of_entries entries
given_back entries ids it len =
    fill_by_all (id_numbered entries) ids (length entries) 0 len
    (λ k h. numbered_id entries ids k it (omega (arith, h, len)))
