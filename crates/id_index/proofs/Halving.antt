-- What one probe of ascending extents says of all of them.
use Rattle.id_index.proofs.Words.{DoPagesRise, IsAround, IsFirstFrom, List, Extent, arith, length, page_in, ℕ, ◌+◌, ◌<◌}
use Rattle.id_index.proofs.Words.{pow-add, pow_mono, zero, suc, ◌*◌, ◌/◌, ◌^◌, ◌≤◌}

module _ (extents : List Extent) (up : DoPagesRise extents) (page low high at : ℕ)
    (around : IsAround extents page low high) (after : low ≤ at) (inside : at < high) where
  pub upper_half : page_in extents at < page → IsAround extents page (at + 1) high
  upper_half less = record {
    order = omega arith;
    within = around.within;
    before = λ k h.
        let rise : page_in extents k ≤ page_in extents at =
        up k at (omega (arith, h)) (omega (arith, inside, around.within)) in
        omega (arith, rise, less);
    behind = around.behind;
  }

  pub lower_half : page ≤ page_in extents at → IsAround extents page low at
  lower_half more = record {
    order = after;
    within = omega (arith, inside, around.within);
    before = around.before;
    behind = λ k from h.
        let rise : page_in extents at ≤ page_in extents k = up at k from h in omega (arith, rise, more);
  }

-- the first extent with a page that is not smaller, if the extents before it were passed in turn
pub first_in_turn : (extents : List Extent) (page at : ℕ) → DoPagesRise extents → at < length extents
    → ((k : ℕ) → k < at → page_in extents k < page) → page ≤ page_in extents at → IsFirstFrom extents page at
first_in_turn extents page at up inside below here = record {
  within = omega (arith, inside);
  below = below;
  above = λ k from h.
      let rise : page_in extents at ≤ page_in extents k = up at k from h in omega (arith, rise, here);
}

-- if `left` probes are enough to halve more than 64 extents until 64 are left, there is at least one probe
pub probe_left : (left many : ℕ) → 64 < many → many ≤ 64 * 2 ^ left → 0 < left
probe_left zero many more few = absurd (omega (arith, more, few))
probe_left (suc left) many more few = omega arith

-- and for half of the extents one probe less is enough
pub half_left : (left left' many half : ℕ) → many ≤ 64 * 2 ^ left → left ≤ left' + 1 → half ≤ many / 2
    → half ≤ 64 * 2 ^ left'
half_left left left' many half few less halved =
    let more : 2 ^ left ≤ 2 ^ (left' + 1) = pow_mono less in
    omega (arith, few, halved, more, pow-add 2 left' 1)
