-- Entries are placed: that of each object goes to a free index, so the numbers of earlier objects still find theirs.
use Rattle.std.proofs.Common.{length-set, slice_set}
use Rattle.std.proofs.Math.Seq.{get_or-set_other, get_or-set_same}
use Rattle.std.proofs.lemmas.List.FromFn.{get_or-map-range_with_len}
use Rattle.id_index.specs.working.NarrowEntries.{Agree, ArePlaced, AreSet, id_in_narrow, ids_of_narrow, is_numbered}
use Rattle.id_index.specs.working.NarrowEntries.{narrow_in}
use Rattle.id_index.specs.working.NarrowEntries.{narrow_of}
use Rattle.id_index.specs.declared.narrow_entries.NarrowEntry.{NarrowEntry}
use Rattle.id_index.proofs.Words.{Bool, List, Some, [], ap, arith, cases_eq, eq-eqb, eqb-true, fails_before_first}
use Rattle.id_index.proofs.Words.{false}
use Rattle.id_index.proofs.Words.{fill_by_all, get_or, get_or-append_seam, get_or_append_left, get_or_from_slice_get}
use Rattle.id_index.proofs.Words.{inl}
use Rattle.id_index.proofs.Words.{inr, length, length-append, length-map-range_with_len, lt_of_not-le, passes_at_first}
use Rattle.id_index.proofs.Words.{position_or_len, refl, slice_get-get_or, slice_get_within, sym}
use Rattle.id_index.proofs.Words.{true}
use Rattle.id_index.proofs.Words.{ℕ, ◌++◌, ◌+◌, ◌-◌, ◌<◌, ◌^◌, ◌∙◌, ◌∷◌, ◌≡◌, ◌≢◌}

module _ (entries : List NarrowEntry) (lowest : ℕ) where
  -- a number that only one entry has finds that entry
  only_narrow : (k n : ℕ) → k < length entries → (narrow_in entries k).number ≡ n
      → ((j : ℕ) → j < length entries → (narrow_in entries k).number ≡ (narrow_in entries j).number → k ≡ j)
      → id_in_narrow entries lowest n ≡ lowest + (narrow_in entries k).at
  only_narrow k n h is only =
      let test : NarrowEntry → Bool = is_numbered n in
      let at : ℕ = position_or_len test entries in
      let inside : at < length entries =
      lt_of_not-le {n = length entries} {m = at} (λ le.
      let fails : test (narrow_in entries k) ≡ false =
      fails_before_first test entries k (narrow_of 0 0) (omega (arith, le, h)) in
      let passes : test (narrow_in entries k) ≡ true = eq-eqb (narrow_in entries k).number n is in
      absurd (cc)) in
      let number : (narrow_in entries at).number ≡ n =
      eqb-true (narrow_in entries at).number n (passes_at_first test entries (narrow_of 0 0) inside) in
      let same : k ≡ at = only at inside (is ∙ sym number) in
      ap (λ (m : ℕ). lowest + (narrow_in entries m).at) (sym same)

  id_read : (count n : ℕ) → n < count → get_or (ids_of_narrow entries lowest count) n 0 ≡ id_in_narrow entries lowest n
  id_read count n h = get_or-map-range_with_len (id_in_narrow entries lowest) 0 count n n 0 h (omega arith)

  many : (count : ℕ) → length (ids_of_narrow entries lowest count) ≡ count
  many count = length-map-range_with_len (id_in_narrow entries lowest) 0 count

  module _ (count : ℕ) (it : ArePlaced entries count) where
    set_below : (k n : ℕ) → (narrow_in entries k).number ≡ n → n < count → (narrow_in entries k).number ≢ 2 ^ 32 - 1
    set_below k n is h e = omega (arith, is, h, e, it.fits, it.few)

    -- the entry of an object has its identifier
    pub id_is : (k n : ℕ) → k < length entries → (narrow_in entries k).number ≡ n → n < count
        → id_in_narrow entries lowest n ≡ lowest + (narrow_in entries k).at
    id_is k n h is below = only_narrow k n h is (λ j l same. it.one k j (h, set_below k n is below) l same)

    -- if all entries are set, they are those of all objects
    pub agree : count ≡ length entries → AreSet entries (length entries)
        → Agree entries lowest (ids_of_narrow entries lowest (length entries))
    agree all set = record {
      sound = λ k h.
          let n : ℕ = (narrow_in entries k).number in
          let below : n < count = it.below k (h, set k h) in
          let below_all : n < length entries = omega (arith, below, all) in
          slice_get-get_or (ids_of_narrow entries lowest (length entries)) n 0
          (omega (arith, below_all, many (length entries)))
          ∙ ap (λ (m : ℕ). Some m) (id_read (length entries) n below_all ∙ id_is k n h refl below);
      complete = λ id n e.
          let within : n < length entries =
          omega (
            arith,
            slice_get_within (ids_of_narrow entries lowest (length entries)) n id e,
            many
                (length entries),
          ) in
          let below : n < count = omega (arith, within, all) in
          let (k, h, is) = it.each n below in
          let same : lowest + (narrow_in entries k).at ≡ id =
          sym (id_is k n h is below) ∙ sym (id_read (length entries) n within)
          ∙ get_or_from_slice_get (ids_of_narrow entries lowest (length entries)) n id 0 e in
          (k, record { within = h; id_is = same; number_is = is });
    }

-- ---- one more entry

module _ (entries : List NarrowEntry) (lowest count slot at : ℕ) (it : ArePlaced entries count)
    (within : slot < length entries)
    (free : (narrow_in entries slot).number ≡ 2 ^ 32 - 1) (room : count < length entries) where
  abbrev next : List NarrowEntry
  next = slice_set entries slot (narrow_of at count)

  long : length next ≡ length entries
  long = length-set entries slot (narrow_of at count)

  here : narrow_in next slot ≡ narrow_of at count
  here = get_or-set_same entries slot (narrow_of at count) (narrow_of 0 0) within

  there : (k : ℕ) → k ≢ slot → narrow_in next k ≡ narrow_in entries k
  there k other = get_or-set_other entries slot k (narrow_of at count) (narrow_of 0 0) other

  number_here : (k : ℕ) → k ≡ slot → (narrow_in next k).number ≡ count
  number_here k e = ap (λ (m : ℕ). (narrow_in next m).number) e ∙ ap (λ (p : NarrowEntry). p.number) here

  number_there : (k : ℕ) → k ≢ slot → (narrow_in next k).number ≡ (narrow_in entries k).number
  number_there k other = ap (λ (p : NarrowEntry). p.number) (there k other)

  -- any other set entry has the number of an earlier object
  lower : (k : ℕ) → k ≢ slot → k < length next → (narrow_in next k).number ≢ 2 ^ 32 - 1
      → (narrow_in next k).number < count
  lower k other h set =
      let same : (narrow_in next k).number ≡ (narrow_in entries k).number = number_there k other in
      let below : (narrow_in entries k).number < count =
      it.below k (omega (arith, h, long), (λ e. set (same ∙ e))) in
      omega (arith, below, same)

  one : (i j : ℕ) → i < length next → (narrow_in next i).number ≢ 2 ^ 32 - 1 → j < length next
      → (narrow_in next i).number ≡ (narrow_in next j).number → i ≡ j
  one i j h set l same =
      elim (cases_eq i slot) [
        | inl first ↦ elim (cases_eq j slot) [
          | inl second ↦ first ∙ sym second
          | inr other ↦
              let is : (narrow_in next i).number ≡ count = number_here i first in
              let below : (narrow_in next j).number < count = lower j other l (λ e. set (same ∙ e)) in
              absurd (omega (arith, is, same, below))
        ]
        | inr other ↦ elim (cases_eq j slot) [
          | inl second ↦
              let is : (narrow_in next j).number ≡ count = number_here j second in
              let below : (narrow_in next i).number < count = lower i other h set in
              absurd (omega (arith, is, same, below))
          | inr another ↦
              it.one i j (omega (arith, h, long), (λ e. set (number_there i other ∙ e))) (omega (arith, l, long))
              (sym (number_there i other) ∙ same ∙ number_there j another)
        ]
      ]

  -- the entry of an earlier object is another one
  not_slot : (k n : ℕ) → (narrow_in entries k).number ≡ n → n < count → k ≢ slot
  not_slot k n is h e =
      omega (arith, is, h, ap (λ (m : ℕ). (narrow_in entries m).number) e, free, it.fits, it.few)

  each : (n : ℕ) → n < count + 1 → (k : ℕ) × (k < length next) × ((narrow_in next k).number ≡ n)
  each n h =
      elim (cases_eq n count) [
        | inl last ↦ (slot, omega (arith, within, long), number_here slot refl ∙ sym last)
        | inr other ↦
            let below : n < count = omega (arith, h, other) in
            let (k, l, is) = it.each n below in
            (k, omega (arith, l, long), number_there k (not_slot k n is below) ∙ is)
      ]

  pub placed : ArePlaced next (count + 1)
  placed = record {
    few = omega (arith, it.few, long);
    fits = omega (arith, room, long);
    below = λ k set.
        elim (cases_eq k slot) [
          | inl same ↦ omega (arith, number_here k same)
          | inr other ↦ let less = lower k other set.0 set.1 in omega (arith, less)
        ];
    one = λ i j set l same. one i j set.0 set.1 l same;
    each = each;
  }

  abbrev ids : List ℕ
  ids = ids_of_narrow entries lowest count

  read : (n : ℕ) → n < count + 1 → get_or (ids ++ (lowest + at) ∷ []) n 0 ≡ id_in_narrow next lowest n
  read n h =
      elim (cases_eq n count) [
        | inl last ↦
            let end : n ≡ length ids = last ∙ sym (many entries lowest count) in
            ap (λ (m : ℕ). get_or (ids ++ (lowest + at) ∷ []) m 0) end ∙ get_or-append_seam ids (lowest + at) [] 0
            ∙ ap (λ (p : NarrowEntry). lowest + p.at) (sym here)
            ∙ sym (id_is next lowest (count + 1) placed slot n (omega (arith, within, long))
            (number_here slot refl ∙ sym last) h)
        | inr other ↦
            let below : n < count = omega (arith, h, other) in
            let (k, l, is) = it.each n below in
            let apart : k ≢ slot = not_slot k n is below in
            get_or_append_left ids ((lowest + at) ∷ []) 0 n (omega (arith, below, many entries lowest count))
            ∙ id_read entries lowest count n below ∙ id_is entries lowest count it k n l is below
            ∙ ap (λ (p : NarrowEntry). lowest + p.at) (sym (there k apart))
            ∙ sym (id_is next lowest (count + 1) placed k n (omega (arith, l, long)) (number_there k apart ∙ is) h)
      ]

  pub placed_ids : ids_of_narrow next lowest (count + 1) ≡ ids ++ (lowest + at) ∷ []
  placed_ids =
      sym (fill_by_all (id_in_narrow next lowest) (ids ++ (lowest + at) ∷ []) (count + 1) 0
      (omega (arith, length-append ids ((lowest + at) ∷ []), many entries lowest count)) read)
