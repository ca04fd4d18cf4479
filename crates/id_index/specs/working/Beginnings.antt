-- Where the pages of ascending extents begin, by their leading bits.
use Rattle.std.specs.Prelude.{List, length, slice_index, ◌+◌, ◌-◌, ◌/◌, ◌<◌, ◌^◌, ◌≡◌, ◌≤◌, ℕ}
use Rattle.id_index.specs.declared.beginnings.Beginnings.{Beginnings}
use Rattle.id_index.specs.declared.extents.Extent.{Extent}
use Rattle.id_index.specs.working.Extents.{page_in}

-- the bucket of `page`: its distance from the page `least`, without the lowest `shift` bits
abbrev pub bucket_of : ℕ → ℕ → ℕ → ℕ
bucket_of least shift page = (page - least) / 2 ^ shift

-- the extents before index `at` are exactly those in buckets before `bucket`
pub record IsBeginning (extents : List Extent) (least shift bucket at : ℕ) : Type 0 where
  pub within : at ≤ length extents
  pub before : (k : ℕ) → k < at → bucket_of least shift (page_in extents k) < bucket
  pub behind : (k : ℕ) → at ≤ k → k < length extents → bucket ≤ bucket_of least shift (page_in extents k)

-- `b.starts` has for each bucket the index at which its extents begin, and one index more: in all at most three more
-- than half the number of extents
pub record AreBeginnings {A : Type 0} (extents : List Extent) (b : Beginnings A) : Type 0 where
  pub shifted : b.shift < 64
  pub low : (k : ℕ) → k < length extents → b.least ≤ page_in extents k
  pub high : (k : ℕ) → k < length extents → page_in extents k ≤ b.least + b.span
  pub fits : b.least + b.span < 2 ^ 64
  pub count : length b.starts.items ≡ b.span / 2 ^ b.shift + 2
  pub few : length b.starts.items ≤ length extents / 2 + 3
  pub each : (bucket : ℕ) → bucket < length b.starts.items →
      IsBeginning extents b.least b.shift bucket (slice_index b.starts.items bucket)

-- the extents before index `begin` have smaller pages than `page`, and the extents from index `end` on do not
pub record IsAround (extents : List Extent) (page begin end : ℕ) : Type 0 where
  pub order : begin ≤ end
  pub within : end ≤ length extents
  pub before : (k : ℕ) → k < begin → page_in extents k < page
  pub behind : (k : ℕ) → end ≤ k → k < length extents → page ≤ page_in extents k
