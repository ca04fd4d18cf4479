-- The objects that are not marked, one after another, and the counts of some of them and of others.
use Rattle.std.proofs.Common.{◌≡◌, ℕ, zero, suc, ◌+◌, ◌-◌, ◌^◌, ◌<◌, ◌≤◌, Bool, true, false, cond, find, filter, not}
use Rattle.std.proofs.Common.{Some, None, List, [], ◌∷◌, ◌++◌, All, length, slice_index_or}
use Rattle.std.proofs.Common.{ap, sym, refl, subst, ◌∙◌, arith, length-append, append-nil}
use Rattle.std.specs.List.{range_with_len}
use Rattle.std.proofs.lemmas.List.{append_assoc}
use Rattle.std.proofs.lemmas.List.Elements.{All-cons, All-head, All-nil, All-tail}
use Rattle.std.proofs.lemmas.List.FromFn.{length-range_with_len}
use Rattle.std.proofs.lemmas.List.Sums.{count_by-le-length, length-filter, sum_by-append, sum_by-le}
use Rattle.heap_graph.specs.ObjectGraph.{ObjectGraph, bytes_at, object_count}
use Rattle.heap_graph.specs.Whole.{IsWhole, unresolved_at}
use Rattle.hprof_grammar.specs.Dump.{limit}
use Rattle.histogram.specs.declared.unmarked.Unmarked.{Unmarked}
use Rattle.histogram.specs.working.Unmarked.{AddUp, AreGraphObjects, both, totals_of, unmarked_from}

-- ---- those of a range that pass a test

-- after the first of them the others follow
passes_then :
    (p : ℕ → Bool) (n a m o : ℕ) → n ≡ m - a → Some o ≡ find p (range_with_len a n)
    → (filter p (range_with_len a n) ≡ o ∷ filter p (range_with_len (o + 1) (m - (o + 1)))) × (o < m)
passes_then p zero a m o count found = cc
passes_then p (suc n) a m o count found = by (p a) found (passes_then p n (a + 1) m o (omega (arith, count)))
  where
    others : List ℕ
    others = filter p (range_with_len (a + 1) n)

    IsInFront : List ℕ → Type 0
    IsInFront those = (those ≡ o ∷ filter p (range_with_len (o + 1) (m - (o + 1)))) × (o < m)

    by :
        (b : Bool) → Some o ≡ cond b (Some a) (find p (range_with_len (a + 1) n))
        → (Some o ≡ find p (range_with_len (a + 1) n) → IsInFront others) → IsInFront (cond b (a ∷ others) others)
    by true is later =
        let here : a ≡ o = cc in
        let left : n ≡ m - (a + 1) = omega (arith, count) in (
          ap (λ k. a ∷ filter p (range_with_len (a + 1) k)) left
              ∙ ap (λ k. k ∷ filter p (range_with_len (k + 1) (m - (k + 1)))) here,
          omega (arith, here, count),
        )
    by false is later = later is

none_pass : (p : ℕ → Bool) (n a : ℕ) → None ≡ find p (range_with_len a n) → filter p (range_with_len a n) ≡ []
none_pass p zero a none = refl
none_pass p (suc n) a none = by (p a) none (none_pass p n (a + 1))
  where
    others : List ℕ
    others = filter p (range_with_len (a + 1) n)

    by :
        (b : Bool) → None ≡ cond b (Some a) (find p (range_with_len (a + 1) n))
        → (None ≡ find p (range_with_len (a + 1) n) → others ≡ []) → cond b (a ∷ others) others ≡ []
    by true is later = cc
    by false is later = later is

pass_within : (p : ℕ → Bool) (n a m : ℕ) → a + n ≤ m → All (λ o. o < m) (filter p (range_with_len a n))
pass_within p zero a m end = All-nil (λ (o : ℕ). o < m)
pass_within p (suc n) a m end = by (p a) (pass_within p n (a + 1) m (omega (arith, end)))
  where
    others : List ℕ
    others = filter p (range_with_len (a + 1) n)

    by : (b : Bool) → All (λ o. o < m) others → All (λ o. o < m) (cond b (a ∷ others) others)
    by true within = All-cons (λ (o : ℕ). o < m) a others (omega (arith, end)) within
    by false within = within

-- ---- the objects that are not marked

module _ (marks : List Bool) where
  abbrev unmarked : ℕ → Bool
  unmarked o = not (slice_index_or marks o false)

  pub unmarked_then :
      (from o : ℕ) → Some o ≡ find unmarked (range_with_len from (length marks - from))
      → (unmarked_from marks from ≡ o ∷ unmarked_from marks (o + 1)) × (o < length marks)
  unmarked_then from o found = passes_then unmarked (length marks - from) from (length marks) o refl found

  pub none_unmarked :
      (from : ℕ) → None ≡ find unmarked (range_with_len from (length marks - from)) → unmarked_from marks from ≡ []
  none_unmarked from none = none_pass unmarked (length marks - from) from none

  pub unmarked_are_objects : (g : ObjectGraph) → length marks ≡ object_count g
      → AreGraphObjects g (unmarked_from marks 0)
  unmarked_are_objects g one_each = record {
    within = pass_within unmarked (length marks - 0) 0 (object_count g) (omega (arith, one_each));
    few =
        let all = range_with_len 0 (length marks - 0) in
        omega (
          arith,
          one_each,
          length-filter unmarked all,
          count_by-le-length unmarked all,
          length-range_with_len 0 (length marks - 0),
        );
  }

-- ---- what is counted

all_before : (P : ℕ → Type 0) (xs ys : List ℕ) → All P (xs ++ ys) → All P xs
all_before P [] ys all = All-nil P
all_before P (x ∷ xs) ys all =
    All-cons P x xs (All-head P x (xs ++ ys) all) (all_before P xs ys (All-tail P x (xs ++ ys) all))

all_behind : (P : ℕ → Type 0) (xs ys : List ℕ) → All P (xs ++ ys) → All P ys
all_behind P [] ys all = all
all_behind P (x ∷ xs) ys all = all_behind P xs ys (All-tail P x (xs ++ ys) all)

module _ (g : ObjectGraph) where
  pub before_are_objects : (xs ys : List ℕ) → AreGraphObjects g (xs ++ ys) → AreGraphObjects g xs
  before_are_objects xs ys are = record {
    within = all_before (λ o. o < object_count g) xs ys are.within;
    few = omega (arith, are.few, length-append xs ys);
  }

  pub behind_are_objects : (xs ys : List ℕ) → AreGraphObjects g (xs ++ ys) → AreGraphObjects g ys
  behind_are_objects xs ys are = record {
    within = all_behind (λ o. o < object_count g) xs ys are.within;
    few = omega (arith, are.few, length-append xs ys);
  }

  pub totals_of-append : (xs ys : List ℕ) → totals_of g (xs ++ ys) ≡ both (totals_of g xs) (totals_of g ys)
  totals_of-append xs ys t = record {
    count = length-append xs ys t;
    bytes = sum_by-append (bytes_at g) xs ys t;
    unresolved = sum_by-append (unresolved_at g) xs ys t;
  }

  pub add_up : (xs ys : List ℕ) → IsWhole g → AreGraphObjects g (xs ++ ys) → AddUp (totals_of g xs) (totals_of g ys)
  add_up xs ys whole are =
      let all = xs ++ ys in
      let count = length-append xs ys in
      let bytes = sum_by-le (bytes_at g) limit all (λ k d h. whole.few_bytes _) in
      let unresolved = sum_by-le (unresolved_at g) (2 ^ 33) all (λ k d h. whole.few_unresolved _) in
      record {
        count = omega (arith, count, are.few, whole.few_objects);
        bytes = omega (arith, bytes, sum_by-append (bytes_at g) xs ys, are.few, whole.few_objects);
        unresolved = omega (arith, unresolved, sum_by-append (unresolved_at g) xs ys, are.few, whole.few_objects);
      }

  -- the objects of `all` before `rest` were counted
  abbrev pub HasCounted : List ℕ → List ℕ → Unmarked → Type 0
  HasCounted all rest left = (done : List ℕ) × (done ++ rest ≡ all) × (left ≡ totals_of g done)

  -- the objects in `some`, which come next, were counted, too
  module _ (all rest some after : List ℕ) (left one : Unmarked) (has : HasCounted all rest left)
      (is : rest ≡ some ++ after) (told : one ≡ totals_of g some) where
    together : has.0 ++ some ++ after ≡ all
    together = append_assoc has.0 some after ∙ ap (λ r. has.0 ++ r) (sym is) ∙ has.1

    sum : both left one ≡ totals_of g (has.0 ++ some)
    sum = (λ t. both (has.2 t) (told t)) ∙ sym (totals_of-append has.0 some)

    pub counted_more : (new : Unmarked) → new ≡ both left one → HasCounted all after new
    counted_more new now = (has.0 ++ some, together, now ∙ sum)

    done_are_objects : AreGraphObjects g all → AreGraphObjects g (has.0 ++ some)
    done_are_objects are = before_are_objects (has.0 ++ some) after (subst (AreGraphObjects g) (sym together) are)

    pub more_add_up : IsWhole g → AreGraphObjects g all → AddUp left one
    more_add_up whole are = rw (has.2, told) (add_up has.0 some whole (done_are_objects are))

  pub next_are_objects :
      (all rest some after : List ℕ) (left : Unmarked) → HasCounted all rest left → rest ≡ some ++ after
      → AreGraphObjects g all → AreGraphObjects g some
  next_are_objects all rest some after left has is are =
      let together : has.0 ++ (some ++ after) ≡ all = ap (λ r. has.0 ++ r) (sym is) ∙ has.1 in
      before_are_objects some after (behind_are_objects has.0 (some ++ after) (subst (AreGraphObjects g) (sym together)
      are))
