-- Objects that are not marked, and the totals of some objects.
use Rattle.std.specs.Prelude.{All, Bool, List, false, filter, length, not, slice_index_or, sum_by, ℕ}
use Rattle.std.specs.Prelude.{◌+◌, ◌-◌, ◌<◌, ◌^◌, ◌≤◌}
use Rattle.std.specs.List.{range_with_len}
use Rattle.heap_graph.specs.ObjectGraph.{ObjectGraph, bytes_at, object_count}
use Rattle.heap_graph.specs.Whole.{unresolved_among}
use Rattle.histogram.specs.declared.unmarked.Unmarked.{Unmarked}

-- the objects from number `from` on that are not marked
abbrev pub unmarked_from : List Bool → ℕ → List ℕ
unmarked_from marks from = filter (λ o. not (slice_index_or marks o false)) (range_with_len from (length marks - from))

-- the totals of the objects `numbers`
abbrev pub totals_of : ObjectGraph → List ℕ → Unmarked
totals_of g numbers = record {
  count = length numbers;
  bytes = sum_by (bytes_at g) numbers;
  unresolved = unresolved_among g numbers;
}

-- the totals of two lists of objects together
abbrev pub both : Unmarked → Unmarked → Unmarked
both a b = record {
  count = a.count + b.count;
  bytes = a.bytes + b.bytes;
  unresolved = a.unresolved + b.unresolved;
}

-- the sums of `a` and `b` are numbers of 64 bits
pub record AddUp (a b : Unmarked) : Type 0 where
  pub count : a.count + b.count < 2 ^ 64
  pub bytes : a.bytes + b.bytes < 2 ^ 64
  pub unresolved : a.unresolved + b.unresolved < 2 ^ 64

-- `numbers` are objects of `g`, and are no more than `g` has
pub record AreGraphObjects (g : ObjectGraph) (numbers : List ℕ) : Type 0 where
  pub within : All (λ o. o < object_count g) numbers
  pub few : length numbers ≤ object_count g
