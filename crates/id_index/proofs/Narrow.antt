-- Ascending entries: searching them by halving, and identifiers that agree with them.
use Rattle.std.proofs.Common.{Err, Ok}
use Rattle.std.proofs.lemmas.Bool.Decides.{nat_tests}
use Rattle.std.proofs.lemmas.Cmp.{ranked}
use Rattle.std.proofs.lemmas.List.Sorted.{IsNonDecreasingBy-from_default}
use Rattle.std.specs.List.Sorted.{IsBinarySearchResult, IsNonDecreasingBy}
use Rattle.std.specs.Ordering.{nat_cmp, ordering_index}
use Rattle.id_index.specs.working.NarrowEntries.{Agree, DoAscend, Names, narrow_in, narrow_of}
use Rattle.id_index.specs.declared.narrow_entries.NarrowEntry.{NarrowEntry}
use Rattle.id_index.proofs.Words.{IsFirstRepeat, List, MatchOption, None, Option, Some, ap, arith, cases_eq, cases_lt}
use Rattle.id_index.proofs.Words.{eq-eqb, get_or, get_or_from_slice_get, inl, inr, length, ne_eqb, position, refl}
use Rattle.id_index.proofs.Words.{slice_get, slice_get-get_or, slice_get_within, subst, sym, ℕ, ◌+◌, ◌-◌, ◌<◌, ◌==◌}
use Rattle.id_index.proofs.Words.{◌∙◌, ◌≡◌, ◌≤◌}
use Rattle.id_index.proofs.Bearers.{before_in, position_is, position_none}

-- ---- entries ascend

pub one_further : (entries : List NarrowEntry) (at : ℕ) → DoAscend entries at
    → (0 < at → (narrow_in entries (at - 1)).at < (narrow_in entries at).at) → DoAscend entries (at + 1)
one_further entries at up step i j less below =
    elim (cases_eq j at) [
      | inl last ↦
          let next : (narrow_in entries (at - 1)).at < (narrow_in entries at).at = step (omega (arith, less, last)) in
          let to : (narrow_in entries j).at ≡ (narrow_in entries at).at =
          ap (λ (m : ℕ). (narrow_in entries m).at) last in
          elim (cases_eq i (at - 1)) [
            | inl here ↦
                let from : (narrow_in entries i).at ≡ (narrow_in entries (at - 1)).at =
                ap (λ (m : ℕ). (narrow_in entries m).at) here in
                omega (arith, next, to, from)
            | inr other ↦
                let rise : (narrow_in entries i).at < (narrow_in entries (at - 1)).at =
                up i (at - 1) (omega (arith, less, last, other)) (omega (arith, less, last)) in
                omega (arith, next, to, rise)
          ]
      | inr other ↦ up i j less (omega (arith, below, other))
    ]

-- ---- entries are searched by halving

module _ (entries : List NarrowEntry) (lowest id : ℕ) (up : DoAscend entries (length entries)) (low : lowest ≤ id) where
  rises : IsNonDecreasingBy (λ (p : NarrowEntry). ordering_index (nat_cmp p.at (id - lowest))) entries
  rises = IsNonDecreasingBy-from_default (λ (p : NarrowEntry). ordering_index (nat_cmp p.at (id - lowest))) entries
      (narrow_of 0 0)
      (λ i j le h.
      let keys_rise : (narrow_in entries i).at ≤ (narrow_in entries j).at = elim (cases_eq i j) [
        | inl same ↦ omega (arith, ap (λ (m : ℕ). (narrow_in entries m).at) same)
        | inr other ↦
            let less : (narrow_in entries i).at < (narrow_in entries j).at = up i j (omega (arith, le, other)) h in
            omega (arith, less)
      ] in
      grind (arith, nat_tests))

  pub found : (at : ℕ) → at < length entries
      → IsBinarySearchResult (λ (p : NarrowEntry). nat_cmp p.at (id - lowest)) entries (Ok at)
      → Names entries lowest id (narrow_in entries at).number
  found at within equal =
      let is : (narrow_in entries at).at ≡ id - lowest =
      ranked (narrow_in entries at).at (id - lowest) _ (sym (equal (narrow_of 0 0))) in
      (at, record { within = within; id_is = omega (arith, is, low); number_is = refl })

  pub not_found : (at : ℕ) → IsBinarySearchResult (λ (p : NarrowEntry). nat_cmp p.at (id - lowest)) entries (Err at)
      → (n : ℕ) → Names entries lowest id n → ⊥
  not_found at parted n (k, here) =
      elim (cases_lt k at) [
        | inl before ↦
            let less : (narrow_in entries k).at < id - lowest =
            ranked (narrow_in entries k).at (id - lowest) _
            (sym ((parted rises).0 k (narrow_of 0 0) (omega arith) before)) in
            omega (arith, less, here.id_is, low)
        | inr behind ↦
            let more : id - lowest < (narrow_in entries k).at =
            ranked (narrow_in entries k).at (id - lowest) _
            (sym ((parted rises).1 k (narrow_of 0 0) behind here.within)) in
            omega (arith, more, here.id_is, low)
      ]

-- ---- entries and identifiers that agree

module _ (entries : List NarrowEntry) (lowest : ℕ) (up : DoAscend entries (length entries)) where
  -- an identifier has one number
  pub one_number : (id m n : ℕ) → Names entries lowest id m → Names entries lowest id n → m ≡ n
  one_number id m n (i, first) (j, second) =
      let same : (narrow_in entries i).at ≡ (narrow_in entries j).at = omega (arith, first.id_is, second.id_is) in
      let not_before : ¬ (i < j) = λ (less : i < j). omega (arith, up i j less second.within, same) in
      let not_behind : ¬ (j < i) = λ (less : j < i). omega (arith, up j i less first.within, same) in
      let here : i ≡ j = omega (arith, not_before, not_behind) in
      sym first.number_is ∙ ap (λ (k : ℕ). (narrow_in entries k).number) here ∙ second.number_is

  module _ (ids : List ℕ) (it : Agree entries lowest ids) where
    -- objects with one identifier have one number
    pub same_number : (id m n : ℕ) → slice_get ids m ≡ Some id → slice_get ids n ≡ Some id → m ≡ n
    same_number id m n first second = one_number id m n (it.complete id m first) (it.complete id n second)

    pub told : (id n : ℕ) → Names entries lowest id n → slice_get ids n ≡ Some id
    told id n (k, here) =
        subst (λ (m : ℕ). slice_get ids m ≡ Some id) here.number_is
        (it.sound k here.within ∙ ap (λ (m : ℕ). Some m) here.id_is)

    pub named_in : (id : ℕ) (result : Option ℕ)
        → MatchOption result ((n : ℕ) → Names entries lowest id n → ⊥) (λ n. Names entries lowest id n)
        → result ≡ position (λ x. x == id) ids
    named_in id None free =
        position_none (λ x. x == id) ids (λ k h. ne_eqb (get_or ids k 0) id (λ e.
        free k (it.complete id k (slice_get-get_or ids k 0 h ∙ ap (λ (m : ℕ). Some m) e))))
    named_in id (Some n) here =
        let e : slice_get ids n ≡ Some id = told id n here in
        position_is (λ x. x == id) ids n (slice_get_within ids n id e)
        (λ k h. ne_eqb (get_or ids k 0) id
        (λ same. let is : k ≡ n = same_number id k n
        (slice_get-get_or ids k 0 (omega (arith, h, slice_get_within ids n id e)) ∙ ap (λ (m : ℕ). Some m) same) e in
        omega (arith, is, h)))
        (eq-eqb (get_or ids n 0) id (get_or_from_slice_get ids n id 0 e))

    pub no_repeat : IsFirstRepeat ids (length ids)
    no_repeat = record {
      first = λ k id h e has.
          let (j, less, same) = before_in ids k id has in
          omega (arith, same_number id j k same e, less);
      repeated = λ id e. absurd (omega (arith, slice_get_within ids (length ids) id e));
    }
