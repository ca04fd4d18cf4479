-- One more extent is pruned.
use Rattle.id_index.proofs.Words.{AreAscending, AreFewSeen, AreKept, AreSeen, ArePrunedBefore, AreSorted, HasBearer}
use Rattle.id_index.proofs.Words.{IsKeptIfNew, IsPermutation-swap, IsPermutation-trans, List, Extent, [], and_comm, ap}
use Rattle.id_index.proofs.Words.{arith, bit_and, bit_at, bit_at-lt, bit_at_and, bit_or, count_ones, end_of, ext_get_or}
use Rattle.id_index.proofs.Words.{get_or-take, inl, inr, length, length-swap, length-take-le, min, no_extent, number_in}
use Rattle.id_index.proofs.Words.{ones-le, or_add_and, page_in, refl, extent_in, swap, swapped_from_swap, sym, take}
use Rattle.id_index.proofs.Words.{take_more, ℕ, ◌%◌, ◌++◌, ◌+◌, ◌-◌, ◌<◌, ◌^◌, ◌∙◌, ◌∷◌, ◌≡◌, ◌≤◌, ◌⊎◌}
use Rattle.id_index.proofs.Apart.{ends_in_turn, pages_rise}
use Rattle.id_index.proofs.Built.{at_push, in_push}
use Rattle.id_index.proofs.Extending.{push_length}
use Rattle.id_index.proofs.Ones.{ones_grow, ones_split}
use Rattle.id_index.proofs.Seen.{below_or_at, no_earlier, seen_only}

-- the number at a granule of an extent is at most its end
pub before_end : (extent : Extent) (p : ℕ) → number_in extent p ≤ end_of extent
before_end extent p = omega (arith, ones_split extent.granules p)

-- ---- what is kept

module _ (extents : List Extent) (at : ℕ) (kept : List Extent) (sorted : AreSorted extents)
    (below : at < length extents)
    (it : AreKept extents at kept) where
  abbrev here : Extent
  here = extent_in extents at

  abbrev more : List Extent
  more = kept ++ here ∷ []

  -- earlier extents of the page end before this extent begins
  ends_before : (i : ℕ) → i < at → page_in extents i ≡ here.page → end_of (extent_in extents i) ≤ here.first
  ends_before i less page = ends_in_turn extents i at sorted.sorted sorted.apart less below page

  from_here : (i : ℕ) → i ≡ at → extent_in extents i ≡ here
  from_here i e = ap (λ (m : ℕ). extent_in extents m) e

  -- an extent whose granules were all seen
  dropped : ((p : ℕ) → bit_at here.granules p ≡ 1 → (i : ℕ) × (i < at) × (page_in extents i ≡ here.page)
      × (bit_at (extent_in extents i).granules p ≡ 1)) → AreKept extents (at + 1) kept
  dropped seen = record {
    ascending = it.ascending;
    from = λ k h. let (i, less, same) = it.from k h in (i, omega (arith, less), same);
    covered = λ i id less has. elim (below_or_at at i less) [
      | inl before ↦ it.covered i id before has
      | inr e ↦
          let mine : HasBearer here id = rw (from_here i e) at has in
          let (j, earlier, page, set) = seen (id % 64) mine.set in
          let (k, h, bears, low) = it.covered j id earlier (record { page = page ∙ mine.page; set = set }) in
          let end : end_of (extent_in extents j) ≤ here.first = ends_before j earlier page in
          (k, h, bears, rw (from_here i e) (omega (arith, low, before_end (extent_in extents j) (id % 64), end)))
    ];
  }

  old_or_new : (k : ℕ) → k < length more → (k < length kept) ⊎ (k ≡ length kept)
  old_or_new k h = below_or_at (length kept) k (omega (arith, h, push_length kept here))

  old_at : (k : ℕ) → k < length kept → extent_in more k ≡ extent_in kept k
  old_at k h = in_push kept here k h

  own_at : (k : ℕ) → k ≡ length kept → extent_in more k ≡ here
  own_at k e = at_push kept here k e

  still_rise : (i j : ℕ) → i ≤ j → j < length more → page_in more i ≤ page_in more j
  still_rise i j le h =
      elim (old_or_new j h) [
        | inl old ↦ rw (page_in, old_at i (omega (arith, le, old)), old_at j old) (it.ascending.rise i j le old)
        | inr own ↦ elim (old_or_new i (omega (arith, le, h))) [
          | inl old_i ↦
              let (m, less, same) = it.from i old_i in
              rw (page_in, old_at i old_i, own_at j own, ← same)
              (pages_rise extents sorted.sorted m at (omega (arith, less)) below)
          | inr own_i ↦ rw (page_in, own_at i own_i, own_at j own) (omega arith)
        ]
      ]

  still_ascending : AreAscending more
  still_ascending = record {
    rise = still_rise;
    few = λ k h. elim (old_or_new k h) [
      | inl old ↦ rw (old_at k old) (it.ascending.few k old)
      | inr own ↦ rw (own_at k own) (sorted.few at below)
    ];
    apart = λ i j less h page.
        elim (old_or_new j h) [
          | inl old ↦
              let old_i : i < length kept = omega (arith, less, old) in
              rw (old_at i old_i, old_at j old)
              (it.ascending.apart i j less old (rw (page_in, old_at i old_i, old_at j old) at page))
          | inr own ↦
              let old_i : i < length kept = omega (arith, less, own) in
              let (m, earlier, same) = it.from i old_i in
              rw (old_at i old_i, own_at j own, ← same)
              (ends_before m earlier (rw (page_in, old_at i old_i, own_at j own, ← same) at page))
        ];
  }

  -- an extent with a granule that was not seen
  added : AreKept extents (at + 1) more
  added = record {
    ascending = still_ascending;
    from = λ k h. elim (old_or_new k h) [
      | inl old ↦ let (i, less, same) = it.from k old in (i, omega (arith, less), same ∙ sym (old_at k old))
      | inr own ↦ (at, omega arith, sym (own_at k own))
    ];
    covered = λ i id less has. elim (below_or_at at i less) [
      | inl before ↦
          let (k, h, bears, low) = it.covered i id before has in
          (k, omega (arith, h, push_length kept here), rw (old_at k h) bears, rw (old_at k h) low)
      | inr e ↦
          let own = own_at (length kept) refl in (
            length kept,
            omega (arith, push_length kept here),
            rw own (rw (from_here i e) at has),
            rw (own, from_here i e) (omega arith),
          )
    ];
  }

  -- ---- there are no more extents of a page than the page has granules

  module _ (page seen before : ℕ) (same : here.page ≡ page → before ≡ seen)
      (other : (here.page ≡ page → ⊥) → before ≡ 0) (had : AreSeen extents at page seen)
      (few : AreFewSeen extents at page seen kept) where
    -- the kept extents of this page are at most the granules that were seen before
    held_before : (k : ℕ) → k < length kept → page_in kept k ≡ here.page → length kept ≤ k + count_ones before
    held_before k h own =
        let (i, less, is) = it.from k h in
        let page_i : page_in extents i ≡ here.page = ap (λ (l : Extent). l.page) is ∙ own in
        let e : here.page ≡ page =
        no_earlier extents at page seen before sorted below had same other page i (few.last (omega (arith, less))) less
        page_i in
        omega (arith, few.held k h (own ∙ e), ap count_ones (same e))

    last_more : 0 < at + 1 → here.page ≡ page_in extents (at + 1 - 1)
    last_more some = ap (λ (m : ℕ). page_in extents m) (omega arith)

    few_dropped : bit_and here.granules before ≡ here.granules
        → AreFewSeen extents (at + 1) here.page (bit_or before here.granules) kept
    few_dropped all =
        let e : bit_or before here.granules ≡ before =
        omega (arith, or_add_and before here.granules, and_comm before here.granules, all) in
        record {
          last = last_more;
          held = λ k h own. omega (arith, held_before k h own, ap count_ones e);
          pages = few.pages;
        }

    few_added : bit_or before here.granules < 2 ^ 64 → (bit_and here.granules before ≡ here.granules → ⊥)
        → AreFewSeen extents (at + 1) here.page (bit_or before here.granules) more
    few_added fits some =
        let long : length more ≡ length kept + 1 = push_length kept here in
        let grows : count_ones before < count_ones (bit_or before here.granules) =
        ones_grow before here.granules fits some in
        let bound : count_ones (bit_or before here.granules) ≤ 64 = ones-le 64 (bit_or before here.granules) fits in
        record {
          last = last_more;
          held = λ k h own. elim (old_or_new k h) [
            | inl old ↦ omega (arith, held_before k old (rw (page_in, old_at k old) at own), grows, long)
            | inr e ↦ omega (arith, e, grows, long)
          ];
          pages = λ k h page_k. elim (old_or_new (k + 64) h) [
            | inl old ↦ few.pages k old (rw (page_in, old_at k (omega (arith, old)), old_at (k + 64) old) at page_k)
            | inr e ↦
                let old_k : k < length kept = omega (arith, e) in
                let own : page_in kept k ≡ here.page = rw (page_in, old_at k old_k, own_at (k + 64) e) at page_k in
                omega (arith, held_before k old_k own, grows, bound, e)
          ];
        }

-- ---- the extents by their indexes in the list

-- the extent at an index is moved to the end of the kept ones
moved : (now : List Extent) (kept at : ℕ) → kept ≤ at → at < length now
    → take (kept + 1) (swap now kept at) ≡ take kept now ++ extent_in now at ∷ []
moved now kept at le below =
    let both = swapped_from_swap now (swap now kept at) kept at no_extent (omega (arith, le, below)) below refl in
    let len : length (swap now kept at) ≡ length now = length-swap now kept at in
    let long : length (take kept (swap now kept at)) ≡ kept =
    length-take-le kept (swap now kept at) (omega (arith, le, below, len)) in
    let front : take kept (swap now kept at) ≡ take kept now =
    ext_get_or no_extent (take kept (swap now kept at)) (take kept now)
    (omega (arith, long, length-take-le kept now (omega (arith, le, below))))
    (λ i h. let less : i < kept = omega (arith, h, long) in
    get_or-take kept (swap now kept at) i no_extent less
    ∙ both.2 i (λ e. omega (arith, e, less)) (λ e. omega (arith, e, less, le))
    ∙ sym (get_or-take kept now i no_extent less)) in
    rw (take_more (swap now kept at) kept no_extent (omega (arith, le, below, len)), front, both.0)

module _ (extents now now' : List Extent) (at kept kept' page seen before : ℕ) (sorted : AreSorted extents)
    (below : at < length extents) (it : ArePrunedBefore extents now at kept) (had : AreSeen extents at page seen)
    (same : page_in extents at ≡ page → before ≡ seen) (other : (page_in extents at ≡ page → ⊥) → before ≡ 0)
    (fits : bit_or before (extent_in extents at).granules < 2 ^ 64)
    (few : AreFewSeen extents at page seen (take kept now)) where
  abbrev granules : ℕ
  granules = (extent_in extents at).granules

  -- each granule was seen
  all_seen : bit_and granules before ≡ granules → (p : ℕ) → bit_at granules p ≡ 1
      → (i : ℕ) × (i < at) × (page_in extents i ≡ page_in extents at) × (bit_at (extent_in extents i).granules p ≡ 1)
  all_seen all p set =
      let both : min (bit_at granules p) (bit_at before p) ≡ bit_at granules p =
      sym (bit_at_and granules before p) ∙ ap (λ (w : ℕ). bit_at w p) all in
      seen_only extents at page seen before sorted below had same other p (omega (arith, both, set, bit_at-lt before p))

  grown : kept' ≡ kept + 1 → now' ≡ swap now kept at
      → take kept' now' ≡ take kept now ++ extent_in extents at ∷ []
  grown e is = rw (e, is, moved now kept at it.order (omega (arith, below, it.long)), it.rest at (omega arith))

  pub pruned_more : IsKeptIfNew now now' kept at granules before kept' → ArePrunedBefore extents now' (at + 1) kept'
  pruned_more (inl new) =
      let is : now' ≡ swap now kept at = new.1.0 in
      let in_kept : kept < length now = omega (arith, it.order, below, it.long) in
      let in_at : at < length now = omega (arith, below, it.long) in
      let both = swapped_from_swap now now' kept at no_extent in_kept in_at is in
      record {
        same = IsPermutation-trans extents now now' it.same (IsPermutation-swap now now' kept at in_kept in_at is);
        long = ap (λ (ls : List Extent). length ls) is ∙ length-swap now kept at ∙ it.long;
        rest = λ k from.
            both.2 k (λ e. omega (arith, e, from, it.order)) (λ e. omega (arith, e, from))
            ∙ it.rest k (omega (arith, from));
        order = omega (arith, new.1.1, it.order);
        pruned = rw (grown new.1.1 is) (added extents at (take kept now) sorted below it.pruned);
      }
  pruned_more (inr none) = rw (none.1.0, none.1.1) (record {
    same = it.same;
    long = it.long;
    rest = λ k from. it.rest k (omega (arith, from));
    order = omega (arith, it.order);
    pruned = dropped extents at (take kept now) sorted below it.pruned (all_seen none.0);
  })

  pub few_more : IsKeptIfNew now now' kept at granules before kept'
      → AreFewSeen extents (at + 1) (page_in extents at) (bit_or before granules) (take kept' now')
  few_more (inl new) =
      rw (grown new.1.1 new.1.0)
      (few_added extents at (take kept now) sorted below it.pruned page seen before same other had few fits new.0)
  few_more (inr none) =
      rw (none.1.0, none.1.1)
      (few_dropped extents at (take kept now) sorted below it.pruned page seen before same other had few none.0)
