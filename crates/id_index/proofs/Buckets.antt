-- The granules of the extents of a bucket.
use Rattle.id_index.proofs.Words.{DoPagesRise, IsAround, IsBeginning, List, Extent, [], arith, bucket_of, cases_lt}
use Rattle.id_index.proofs.Words.{eq-or-lt_of_le, get_or, get_or-append, get_or-append_seam, inl, inr, length}
use Rattle.id_index.proofs.Words.{lt_of_not-le, page_in, shr_mono, ℕ, ◌++◌, ◌+◌, ◌<◌, ◌∷◌, ◌≡◌, ◌≤◌}

-- buckets rise as pages do
pub buckets_rise : (extents : List Extent) (least shift i j : ℕ) → DoPagesRise extents → i ≤ j → j < length extents
    → bucket_of least shift (page_in extents i) ≤ bucket_of least shift (page_in extents j)
buckets_rise extents least shift i j up le below =
    let rise : page_in extents i ≤ page_in extents j = up i j le below in shr_mono shift (omega (arith, rise))

-- pages in an earlier bucket are smaller
pub bucket_below : (least shift a b : ℕ) → bucket_of least shift a < bucket_of least shift b → a < b
bucket_below least shift a b h =
    lt_of_not-le {n = b} {m = a}
    (λ le. let up : bucket_of least shift b ≤ bucket_of least shift a = shr_mono shift (omega (arith, le)) in
    omega (arith, up, h))

-- all extents of a page are between the beginning of its bucket and that of the next
pub around_bucket : (extents : List Extent) (least shift page begin end : ℕ)
    → IsBeginning extents least shift (bucket_of least shift page) begin
    → IsBeginning extents least shift (bucket_of least shift page + 1) end → IsAround extents page begin end
around_bucket extents least shift page begin end here next = record {
  order =
      elim (cases_lt end begin) [
        | inl lt ↦ absurd (omega (
          arith,
          here.before end lt,
          next.behind end (omega arith) (omega (arith, lt, here.within)),
        ))
        | inr le ↦ le
      ];
  within = next.within;
  before = λ k h. bucket_below least shift (page_in extents k) page (here.before k h);
  behind = λ k from below.
      let less : page < page_in extents k =
      bucket_below least shift page (page_in extents k) (omega (arith, next.behind k from below)) in
      omega (arith, less);
}

-- one more beginning
pub one_more : (extents : List Extent) (least shift count at : ℕ) (starts : List ℕ) → length starts ≡ count
    → IsBeginning extents least shift count at
    → ((b : ℕ) → b < count → IsBeginning extents least shift b (get_or starts b 0)) → (b : ℕ) → b < count + 1
    → IsBeginning extents least shift b (get_or (starts ++ at ∷ []) b 0)
one_more extents least shift count at starts len here each b h =
    elim (eq-or-lt_of_le {n = b} {m = count} (omega (arith, h))) [
      | inl last ↦ rw (last, ← len, get_or-append_seam starts at [] 0, len) here
      | inr before ↦ rw (get_or-append starts (at ∷ []) 0 b (omega (arith, before, len))) (each b before)
    ]
