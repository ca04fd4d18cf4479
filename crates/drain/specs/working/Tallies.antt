-- What a tally of objects counts: for each row its number of objects and their bytes together, and of all objects the
-- identifiers that are other than 0 and name no object.
use Rattle.std.specs.Prelude.{List, if◌then◌else◌, length, slice_index_or, sum_by, ℕ, ◌+◌, ◌<◌, ◌==◌, ◌^◌, ◌≡◌, ◌≤◌}
use Rattle.drain.specs.Sums.{no_object}
use Rattle.drain.specs.declared.sum.Sum.{Sum}

abbrev pub one_more : Sum → ℕ → Sum
one_more s bytes = record { count = s.count + 1; bytes = s.bytes + bytes }

abbrev pub together : Sum → Sum → Sum
together a b = record { count = a.count + b.count; bytes = a.bytes + b.bytes }

-- What is read of objects: the number of rows, and for an object the number of its row, its bytes, and how many of its
-- identifiers are other than 0 and name no object.
pub record Measure : Type 0 where
  pub rows : ℕ
  pub row : ℕ → ℕ
  pub bytes : ℕ → ℕ
  pub unresolved : ℕ → ℕ

-- `m` is a measure of `count` objects: each object has a row, few bytes and few unresolved identifiers
pub record IsMeasureOf (count : ℕ) (m : Measure) : Type 0 where
  pub few_objects : count ≤ 2 ^ 24
  pub within : (o : ℕ) → o < count → m.row o < m.rows
  pub few_bytes : (o : ℕ) → m.bytes o ≤ 2 ^ 30
  pub few_unresolved : (o : ℕ) → m.unresolved o ≤ 2 ^ 33

-- the number of `objects` in row `n`, and their bytes together
abbrev pub sum_in : Measure → ℕ → List ℕ → Sum
sum_in m n objects = record {
  count = sum_by (λ o. if m.row o == n then 1 else 0) objects;
  bytes = sum_by (λ o. if m.row o == n then m.bytes o else 0) objects;
}

-- The sums and the unresolved identifiers are those of `objects`.
pub record IsTallyOf (m : Measure) (objects : List ℕ) (rows : List Sum) (unresolved : ℕ) : Type 0 where
  pub each : length rows ≡ m.rows
  pub right : (n : ℕ) → n < m.rows → slice_index_or rows n no_object ≡ sum_in m n objects
  pub unresolved_is : unresolved ≡ sum_by m.unresolved objects

-- The sums and the number of unresolved identifiers are within the bounds of a tally of at most 2 ^ 24 objects.
pub record IsSmall (rows : List Sum) (unresolved : ℕ) : Type 0 where
  pub counts : (n : ℕ) → n < length rows → (slice_index_or rows n no_object).count ≤ 2 ^ 24
  pub bytes : (n : ℕ) → n < length rows → (slice_index_or rows n no_object).bytes ≤ 2 ^ 54
  pub few_unresolved : unresolved ≤ 2 ^ 57
