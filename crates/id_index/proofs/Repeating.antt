-- Repeats among ascending extents, and the first object whose identifier an earlier object has.
use Rattle.id_index.proofs.Words.{AreComplete, AreSeen, AreSorted, AreSound, Contains, Contains-get_or, HasBearer}
use Rattle.id_index.proofs.Words.{IsFirstRepeat, IsLeastRepeat, IsLowered, IsRepeatAt, List, Extent, Some, and_le_r, ap}
use Rattle.id_index.proofs.Words.{arith, bit_and, bit_at, bit_at-lt, bit_at-trailing_zeros, bit_at-zero, bit_at_and}
use Rattle.id_index.proofs.Words.{cases_lt, cases_order, count_ones, div-mul-add, end_of, inl, inr, length, min}
use Rattle.id_index.proofs.Words.{min-eq_left, min-eq_right, min-le_left, min-le_right, mod-mul-add, no_extent}
use Rattle.id_index.proofs.Words.{number_in}
use Rattle.id_index.proofs.Words.{page_in, rank, refl, extent_in, slice_get, slice_get_within, subst, sym, take}
use Rattle.id_index.proofs.Words.{trailing_zeros, w64, ℕ, ◌%◌, ◌*◌, ◌+◌, ◌-◌, ◌/◌, ◌<◌, ◌^◌, ◌∙◌, ◌≡◌, ◌≢◌, ◌≤◌}
use Rattle.id_index.proofs.Apart.{ends_in_turn}
use Rattle.id_index.proofs.Bearers.{before_in, in_before, stands}
use Rattle.id_index.proofs.Ones.{rank_grows, rank_less_than_all}
use Rattle.id_index.proofs.Seen.{below_or_at, seen_all, seen_only}
use Rattle.id_index.proofs.Pruned.{before_end}

-- ---- one extent's repeats

both_set : (a b : ℕ) → a < 2 → b < 2 → min a b ≡ 1 → (a ≡ 1) × (b ≡ 1)
both_set a b la lb e = grind arith

rank_up : (n i j : ℕ) → i ≤ j → rank n i ≤ rank n j
rank_up n i j le =
    subst (λ (m : ℕ). rank n i ≤ rank n m) (omega (arith, le)) (rank_grows n i (j - i))

pub none_lowered : (extent : Extent) (before old : ℕ) → bit_and extent.granules before ≡ 0
    → IsLowered extent before old old
none_lowered extent before old none = record {
  low = omega arith;
  each = λ p mine other.
      let both : bit_at 0 p ≡ min (bit_at extent.granules p) (bit_at before p) =
      ap (λ (w : ℕ). bit_at w p) (sym none) ∙ bit_at_and extent.granules before p in
      absurd (omega (arith, both, mine, other, bit_at-zero p));
  found = inl refl;
}

pub lowered_by : (extent : Extent) (before old new : ℕ) → before < 2 ^ 64 → bit_and extent.granules before ≢ 0
    → new ≡ min old (number_in extent (trailing_zeros w64 (bit_and extent.granules before)))
    → IsLowered extent before old new
lowered_by extent before old new fits some is =
    let again : ℕ = bit_and extent.granules before in
    let granule : ℕ = trailing_zeros w64 again in
    let lowest =
    bit_at-trailing_zeros w64 again (omega (arith, some)) (omega (arith, fits, and_le_r extent.granules before)) in
    let bits =
    both_set (bit_at extent.granules granule) (bit_at before granule) (bit_at-lt extent.granules granule)
    (bit_at-lt before granule)
    (sym (bit_at_and extent.granules before granule) ∙ lowest.1) in
    record {
      low = omega (arith, is, min-le_left old (number_in extent granule));
      each = λ p mine other.
          let both : bit_at again p ≡ min (bit_at extent.granules p) (bit_at before p) =
          bit_at_and extent.granules before p in
          elim (cases_lt p granule) [
            | inl less ↦ absurd (omega (arith, both, mine, other, lowest.2 p less))
            | inr from ↦
                let up : rank extent.granules granule ≤ rank extent.granules p =
                rank_up extent.granules granule p from in
                omega (arith, is, up, min-le_right old (number_in extent granule))
          ];
      found = elim (cases_lt (number_in extent granule) old) [
        | inl less ↦ inr (granule, lowest.0, bits.0, bits.1, is ∙ min-eq_right (omega (arith, less)))
        | inr more ↦ inl (is ∙ min-eq_left more)
      ];
    }

-- ---- one more extent

module _ (extents : List Extent) (at page seen before : ℕ) (sorted : AreSorted extents) (below : at < length extents)
    (it : AreSeen extents at page seen) (same : page_in extents at ≡ page → before ≡ seen)
    (other : (page_in extents at ≡ page → ⊥) → before ≡ 0) where
  abbrev here : Extent
  here = extent_in extents at

  pub least_more : (count old new : ℕ) → IsLeastRepeat extents at count old → IsLowered here before old new
      → IsLeastRepeat extents (at + 1) count new
  least_more count old new least low = record {
    least = λ first second granule repeat less. elim (below_or_at at second less) [
      | inl before_at ↦
          let left : old ≤ number_in (extent_in extents second) granule =
          least.least first second granule repeat before_at in
          omega (arith, left, low.low)
      | inr e ↦
          let page_is : page_in extents first ≡ here.page =
          repeat.page ∙ ap (λ (m : ℕ). page_in extents m) e in
          let mine : bit_at here.granules granule ≡ 1 =
          ap (λ (m : ℕ). bit_at (extent_in extents m).granules granule) (sym e) ∙ repeat.later in
          let was : bit_at before granule ≡ 1 =
          seen_all extents at page seen before sorted below it same other first granule (omega (arith, repeat.order, e))
          page_is repeat.earlier in
          omega (
            arith,
            low.each granule mine was,
            ap (λ (m : ℕ). number_in (extent_in extents m) granule) e,
          )
    ];
    found = elim low.found [
      | inl e ↦ elim least.found [
        | inl none ↦ inl (e ∙ none)
        | inr one ↦ inr (one.0, one.1, one.2, one.3, omega (arith, one.4), one.5, e ∙ one.6)
      ]
      | inr one ↦
          let (p, inside, mine, was, number) = one in
          let (i, less, page_i, bit) = seen_only extents at page seen before sorted below it same other p was in
          inr (
            i,
            at,
            p,
            record { order = less; page = page_i; earlier = bit; later = mine },
            omega arith,
            inside,
            number,
          )
    ];
  }

-- ---- the objects' identifiers

some_same : (x y : ℕ) → Some x ≡ Some y → x ≡ y
some_same x y e = cc

module _ (extents : List Extent) (ids : List ℕ) (count number : ℕ) (sorted : AreSorted extents)
    (sound : AreSound extents ids) (complete : AreComplete extents ids) (len : length ids ≡ count)
    (it : IsLeastRepeat extents (length extents) count number) where
  -- if two objects have one identifier, the extent of the earlier object comes first
  in_extent_order : (id j k a b : ℕ) → a < length extents → b < length extents → HasBearer (extent_in extents a) id
      → HasBearer (extent_in extents b) id → number_in (extent_in extents a) (id % 64) ≡ j
      → number_in (extent_in extents b) (id % 64) ≡ k → j < k → a < b
  in_extent_order id j k a b in_a in_b has_a has_b is_a is_b less =
      elim (cases_order a b) [
        | inl e ↦ absurd (omega (arith, is_a, is_b, less, ap (λ (m : ℕ). number_in (extent_in extents m) (id % 64)) e))
        | inr rest ↦ elim rest [
          | inl before ↦ before
          | inr behind ↦
              let page_b : page_in extents b ≡ id / 64 = has_b.page in
              let page_a : page_in extents a ≡ id / 64 = has_a.page in
              let end : end_of (extent_in extents b) ≤ (extent_in extents a).first =
              ends_in_turn extents b a sorted.sorted sorted.apart behind in_a (page_b ∙ sym page_a) in
              let inside : number_in (extent_in extents b) (id % 64) ≤ end_of (extent_in extents b) =
              before_end (extent_in extents b) (id % 64) in
              absurd (omega (arith, end, inside, is_a, is_b, less))
        ]
      ]

  -- the object at a granule of an extent's page
  object_at : (k granule : ℕ) → k < length extents → granule < 64 → bit_at (extent_in extents k).granules granule ≡ 1
      → slice_get ids (number_in (extent_in extents k) granule) ≡ Some (page_in extents k * 64 + granule)
  object_at k granule h inside set =
      let page : ℕ = page_in extents k in
      let rest : (page * 64 + granule) % 64 ≡ granule = mod-mul-add page 64 granule inside in
      subst (λ (p : ℕ). slice_get ids (number_in (extent_in extents k) p) ≡ Some (page * 64 + granule)) rest
      (sound (extent_in extents k) (page * 64 + granule) (Contains-get_or extents k no_extent h) (record {
        page = sym (div-mul-add page 64 granule inside);
        set = subst (λ (p : ℕ). bit_at (extent_in extents k).granules p ≡ 1) (sym rest) set;
      }))

  at_repeat : (id : ℕ) → slice_get ids number ≡ Some id → (a b granule : ℕ) → IsRepeatAt extents a b granule
      → b < length extents → granule < 64 → number ≡ number_in (extent_in extents b) granule
      → Contains (take number ids) id
  at_repeat id e a b granule repeat within inside is =
      let later : slice_get ids number ≡ Some (page_in extents b * 64 + granule) =
      ap (λ (n : ℕ). slice_get ids n) is ∙ object_at b granule within inside repeat.later in
      let one : page_in extents b * 64 + granule ≡ id =
      some_same (page_in extents b * 64 + granule) id (sym later ∙ e) in
      let earlier : slice_get ids (number_in (extent_in extents a) granule) ≡ Some (page_in extents a * 64 + granule) =
      object_at a granule (omega (arith, repeat.order, within)) inside repeat.earlier in
      let same : page_in extents a * 64 + granule ≡ id = ap (λ (q : ℕ). q * 64 + granule) repeat.page ∙ one in
      let end : end_of (extent_in extents a) ≤ (extent_in extents b).first =
      ends_in_turn extents a b sorted.sorted sorted.apart repeat.order within repeat.page in
      let less : rank (extent_in extents a).granules granule < count_ones (extent_in extents a).granules =
      rank_less_than_all (extent_in extents a).granules granule repeat.earlier in
      in_before ids number id (number_in (extent_in extents a) granule) (omega (arith, end, less, is))
      (earlier ∙ ap Some same)

  pub first_repeat : IsFirstRepeat ids number
  first_repeat = record {
    first = λ k id below e has.
        let (j, under, there) = before_in ids k id has in
        let (x, in_x, has_x, is_x) = complete id j there in
        let (y, in_y, has_y, is_y) = complete id k e in
        let (a, below_a, same_a) = stands extents x in_x in
        let (b, below_b, same_b) = stands extents y in_y in
        let bears_a : HasBearer (extent_in extents a) id = rw same_a has_x in
        let bears_b : HasBearer (extent_in extents b) id = rw same_b has_y in
        let number_a : number_in (extent_in extents a) (id % 64) ≡ j = rw same_a is_x in
        let number_b : number_in (extent_in extents b) (id % 64) ≡ k = rw same_b is_y in
        let order : a < b = in_extent_order id j k a b below_a below_b bears_a bears_b number_a number_b under in
        let low : number ≤ number_in (extent_in extents b) (id % 64) =
        it.least a b (id % 64) (record {
          order = order;
          page = bears_a.page ∙ sym bears_b.page;
          earlier = bears_a.set;
          later = bears_b.set;
        }) below_b in
        omega (arith, low, number_b, below);
    repeated = λ id e. elim it.found [
      | inl end ↦ absurd (omega (arith, end, len, slice_get_within ids number id e))
      | inr one ↦ at_repeat id e one.0 one.1 one.2 one.3 one.4 one.5 one.6
    ];
  }
