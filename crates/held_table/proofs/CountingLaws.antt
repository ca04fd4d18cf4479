-- How lines change when an object is counted.
use Rattle.std.proofs.Common.{All, Bool, Contains, IsPermutation, List, None, Option, Some, [], ap, append-nil, arith}
use Rattle.std.proofs.Common.{false, filter, get_or, inl, inr, length, length-append, not, refl, suc, sum_by, sym}
use Rattle.std.proofs.Common.{true, zero, ℕ}
use Rattle.std.proofs.Common.{⊎_elim, ◌&&◌, ◌*◌, ◌++◌, ◌+◌, ◌<◌, ◌==◌, ◌∙◌, ◌∷◌, ◌≡◌, ◌≤◌, subst}
use Rattle.std.specs.Cmp.{IsEquivalence}
use Rattle.std.specs.List.{IsDistinct, list_any, range_with_len}
use Rattle.std.proofs.lemmas.Bool.{and_parts, cases_Bool, eq-eqb, eqb-true}
use Rattle.std.proofs.lemmas.Cmp.{and_equiv, nat_eq_equiv, on_equiv}
use Rattle.std.proofs.lemmas.List.{get_or_default}
use Rattle.std.proofs.lemmas.List.Folds.{list_any_at}
use Rattle.std.proofs.lemmas.List.Elements.{All-cons, All-from_recursion, All-head, All-nil, All-tail}
use Rattle.std.proofs.lemmas.List.Elements.{Contains-append_right}
use Rattle.std.proofs.lemmas.List.Elements.{Contains-get_or, Contains-push_cases, filter-append, recursion_from_All}
use Rattle.std.proofs.lemmas.List.Filters.{length-filter_both}
use Rattle.std.proofs.lemmas.List.FromFn.{length-range_with_len}
use Rattle.std.proofs.lemmas.List.Sums.{sum_by-append, sum_by-cons, sum_by-le}
use Rattle.std.proofs.lemmas.List.Sorted.{All-permutation, Contains-permutation}
use Rattle.std.proofs.lemmas.Map.Keys.{IsDistinct-IsPermutation, IsDistinct-cons, IsDistinct-head, IsDistinct-tail}
use Rattle.heap_graph.specs.ObjectGraph.{ObjectGraph, bytes_at, row_at}
use Rattle.heap_graph.specs.RowNumbers.{row_number}
use Rattle.held_table.specs.Tally.{IsTally, is_in_line, is_number, objects_in, remainder_at, same_line}
use Rattle.held_table.specs.declared.line.Line.{Line}
use Rattle.heap_graph.specs.ObjectGraph.{object_count}
use Rattle.heap_graph.specs.Whole.{IsWhole}
use Rattle.held_table.specs.working.Counting.{HasRoom, add_line, joined}

pub same_line_laws : IsEquivalence same_line
same_line_laws =
    and_equiv (on_equiv (λ (l : Line). l.set) nat_eq_equiv)
    (and_equiv (on_equiv (λ (l : Line). l.row) nat_eq_equiv) (on_equiv (λ (l : Line). l.remainder) nat_eq_equiv))

-- both are of one key
abbrev pub AreOfOne : Line → Line → Type 0
AreOfOne a b = (a.set ≡ b.set) × (a.row ≡ b.row) × (a.remainder ≡ b.remainder)

pub same_parts : (a b : Line) → same_line a b ≡ true → AreOfOne a b
same_parts a b e =
    let some = and_parts (a.set == b.set) ((a.row == b.row) && (a.remainder == b.remainder)) e in
    let others = and_parts (a.row == b.row) (a.remainder == b.remainder) some.1 in
    (eqb-true a.set b.set some.0, eqb-true a.row b.row others.0, eqb-true a.remainder b.remainder others.1)

pub same_from : (a b : Line) → a.set ≡ b.set → a.row ≡ b.row → a.remainder ≡ b.remainder → same_line a b ≡ true
same_from a b s r m = rw (eq-eqb a.set b.set s, eq-eqb a.row b.row r, eq-eqb a.remainder b.remainder m) refl

Contains-cons : {X : Type 0} (y : X) (xs : List X) (x : X) → Contains xs x → Contains (y ∷ xs) x
Contains-cons y xs x h = Contains-append_right (y ∷ []) xs x h

-- ---- lines to which one is added

module _ (x : Line) where
  -- at the line of the same key, or further on
  pub here : (l : Line) (ls : List Line) → same_line x l ≡ true → add_line x (l ∷ ls) ≡ joined l x ∷ ls
  here l ls e = rw e refl

  pub further : (l : Line) (ls : List Line) → same_line x l ≡ false → add_line x (l ∷ ls) ≡ l ∷ add_line x ls
  further l ls e = rw e refl

  -- what holds of the keys of all lines
  pub kept_added : (Q : ℕ → ℕ → ℕ → Type 0) → Q x.set x.row x.remainder → (lines : List Line)
      → All (λ l. Q l.set l.row l.remainder) lines → All (λ l. Q l.set l.row l.remainder) (add_line x lines)
  kept_added Q new [] all =
      let P : Line → Type 0 = λ m. Q m.set m.row m.remainder in All-cons P x [] new (All-nil P)
  kept_added Q new (l ∷ ls) all =
      let P : Line → Type 0 = λ m. Q m.set m.row m.remainder in
      elim (cases_Bool (same_line x l)) [
        | inl e ↦ rw (here l ls e) (All-cons P (joined l x) ls (All-head P l ls all) (All-tail P l ls all))
        | inr e ↦ rw (further l ls e)
            (All-cons P l (add_line x ls) (All-head P l ls all) (kept_added Q new ls (All-tail P l ls all)))
      ]

  pub some_added : 0 < x.count → (lines : List Line) → All (λ l. 0 < l.count) lines
      → All (λ l. 0 < l.count) (add_line x lines)
  some_added new [] all = All-cons (λ (l : Line). 0 < l.count) x [] new (All-nil (λ (l : Line). 0 < l.count))
  some_added new (l ∷ ls) all =
      let P : Line → Type 0 = λ m. 0 < m.count in
      let first = All-head P l ls all in
      elim (cases_Bool (same_line x l)) [
        | inl e ↦ rw (here l ls e) (All-cons P (joined l x) ls (omega (arith, first)) (All-tail P l ls all))
        | inr e ↦ rw (further l ls e) (All-cons P l (add_line x ls) first (some_added new ls (All-tail P l ls all)))
      ]

  pub once_added : (lines : List Line) → IsDistinct same_line lines → IsDistinct same_line (add_line x lines)
  once_added [] once = IsDistinct-cons same_line x [] tt once
  once_added (l ∷ ls) once =
      let apart = IsDistinct-head same_line l ls once in
      let others = IsDistinct-tail same_line l ls once in
      elim (cases_Bool (same_line x l)) [
        | inl e ↦ rw (here l ls e) (IsDistinct-cons same_line (joined l x) ls apart others)
        | inr e ↦ rw (further l ls e) (
            IsDistinct-cons same_line l (add_line x ls)
            (recursion_from_All (λ m. same_line l m ≡ false) (add_line x ls)
            (kept_added (λ s r m. ((l.set == s) && ((l.row == r) && (l.remainder == m))) ≡ false)
            (same_line_laws.symm l x ∙ e) ls
            (All-from_recursion (λ m. same_line l m ≡ false) ls apart)))
            (once_added ls others)
            )
      ]

  -- each line is still there, and so is that of `x`
  pub line_kept : (lines : List Line) (k : ℕ) → k < length lines
      → (m : Line) × Contains (add_line x lines) m × AreOfOne (get_or lines k x) m
  line_kept [] k h = absurd (omega (arith, h))
  line_kept (l ∷ ls) zero h = elim (cases_Bool (same_line x l)) [
    | inl e ↦ rw (here l ls e) (joined l x, (0, omega arith, refl), (refl, refl, refl))
    | inr e ↦ rw (further l ls e) (l, (0, omega arith, refl), (refl, refl, refl))
  ]
  line_kept (l ∷ ls) (suc k) h = elim (cases_Bool (same_line x l)) [
    | inl e ↦ rw (here l ls e)
        (let m = get_or ls k x in
        (m, Contains-cons (joined l x) ls m (Contains-get_or ls k x (omega arith)), (refl, refl, refl)))
    | inr e ↦ rw (further l ls e) (
        let it = line_kept ls k (omega arith) in
        (it.0, Contains-cons l (add_line x ls) it.0 it.1, it.2)
        )
  ]

  pub line_added : (lines : List Line) → (m : Line) × Contains (add_line x lines) m × AreOfOne x m
  line_added [] = (x, (0, omega arith, refl), (refl, refl, refl))
  line_added (l ∷ ls) = elim (cases_Bool (same_line x l)) [
    | inl e ↦ rw (here l ls e) (joined l x, (0, omega arith, refl), same_parts x l e)
    | inr e ↦ rw (further l ls e) (
        let it = line_added ls in
        (it.0, Contains-cons l (add_line x ls) it.0 it.1, it.2)
        )
  ]

-- ---- the objects of a line

is_number-true : (m : Option ℕ) (s : ℕ) → is_number m s ≡ true → m ≡ Some s
is_number-true None s e = absurd (cc e)
is_number-true (Some n) s e = ap Some (eqb-true n s e)

filter_none : {X : Type 0} (p : X → Bool) (xs : List X) → All (λ x. p x ≡ false) xs → filter p xs ≡ []
filter_none p [] none = refl
filter_none p (x ∷ xs) none =
    rw (All-head (λ y. p y ≡ false) x xs none) (filter_none p xs (All-tail (λ y. p y ≡ false) x xs none))

-- a line with the number and the bytes of its objects
abbrev pub Fits : ObjectGraph → (ℕ → Option ℕ) → List ℕ → Line → Type 0
Fits g set_of os l =
    (l.count ≡ length (objects_in g set_of os l)) × (l.bytes ≡ sum_by (bytes_at g) (objects_in g set_of os l))

module _ (g : ObjectGraph) (set_of : ℕ → Option ℕ) (os : List ℕ) (o : ℕ) where
  objects_with : (l : Line) → is_in_line g set_of l o ≡ true
      → objects_in g set_of (os ++ o ∷ []) l ≡ objects_in g set_of os l ++ o ∷ []
  objects_with l e = rw (filter-append (is_in_line g set_of l) os (o ∷ []), e) refl

  objects_without : (l : Line) → is_in_line g set_of l o ≡ false
      → objects_in g set_of (os ++ o ∷ []) l ≡ objects_in g set_of os l
  objects_without l e =
      rw (filter-append (is_in_line g set_of l) os (o ∷ []), e) (append-nil (objects_in g set_of os l))

  fits_without : (l : Line) → is_in_line g set_of l o ≡ false → Fits g set_of os l → Fits g set_of (os ++ o ∷ []) l
  fits_without l e fits = rw (objects_without l e) fits

  -- an object without a set
  pub tally_without : set_of o ≡ None → (lines : List Line) → IsTally g set_of os lines
      → IsTally g set_of (os ++ o ∷ []) lines
  tally_without none lines tally =
      let out : (l : Line) → is_in_line g set_of l o ≡ false = λ l. rw none refl in
      let fits : All (Fits g set_of (os ++ o ∷ [])) lines =
      λ k d h. fits_without _ (out (get_or lines k d)) (tally.counts k d h, tally.bytes k d h) in
      record {
        counts = λ k d h. (fits k d h).0;
        bytes = λ k d h. (fits k d h).1;
        some = tally.some;
        all = λ p s has is. ⊎_elim (λ was. tally.all p s was is)
            (λ same. let both : None ≡ Some s = sym none ∙ ap set_of same ∙ is in absurd (cc both))
            (Contains-push_cases os o p has);
        once = tally.once;
      }

  module _ (s : ℕ) (is_set : set_of o ≡ Some s) where
    abbrev pub x : Line
    x = record {
      set = s;
      row = row_number (row_at g o);
      remainder = remainder_at g o;
      count = 1;
      bytes = bytes_at g o;
    }

    in_line : (l : Line) → is_in_line g set_of l o ≡ same_line x l
    in_line l = rw is_set refl

    fits_with : (l : Line) → same_line x l ≡ true → Fits g set_of os l → Fits g set_of (os ++ o ∷ []) (joined l x)
    fits_with l e fits =
        let more = objects_with l (in_line l ∙ e) in
        let these = objects_in g set_of os l in (
          omega (arith, fits.0, ap length more, length-append these (o ∷ [])),
          omega (
            arith,
            fits.1,
            ap (sum_by (bytes_at g)) more,
            sum_by-append (bytes_at g) these (o ∷ []),
            sum_by-cons (bytes_at g) o [],
          ),
        )

    fits_first : objects_in g set_of os x ≡ [] → Fits g set_of (os ++ o ∷ []) x
    fits_first none =
        let more = objects_with x (in_line x ∙ same_line_laws.refl x) ∙ ap (λ these. these ++ o ∷ []) none in (
          sym (ap length more),
          omega (arith, ap (sum_by (bytes_at g)) more, sum_by-cons (bytes_at g) o []),
        )

    fits_added : (lines : List Line) → All (Fits g set_of os) lines → IsDistinct same_line lines
        → (list_any (same_line x) lines ≡ false → objects_in g set_of os x ≡ [])
        → All (Fits g set_of (os ++ o ∷ [])) (add_line x lines)
    fits_added [] fits once none =
        let P = Fits g set_of (os ++ o ∷ []) in All-cons P x [] (fits_first (none refl)) (All-nil P)
    fits_added (l ∷ ls) fits once none =
        let P = Fits g set_of (os ++ o ∷ []) in
        let first = All-head (Fits g set_of os) l ls fits in
        let rest = All-tail (Fits g set_of os) l ls fits in
        elim (cases_Bool (same_line x l)) [
          | inl e ↦ rw (here x l ls e) (
              let apart = All-from_recursion (λ m. same_line l m ≡ false) ls (IsDistinct-head same_line l ls once) in
              All-cons P (joined l x) ls (fits_with l e first)
              (λ k d h. let m = get_or ls k d in
              fits_without m (in_line m ∙ same_line_laws.congr x l m e ∙ apart k d h) (rest k d h))
              )
          | inr e ↦ rw (further x l ls e) (
              All-cons P l (add_line x ls) (fits_without l (in_line l ∙ e) first)
              (fits_added ls rest (IsDistinct-tail same_line l ls once) (λ lacks. none (rw (e, lacks) refl)))
              )
        ]

    -- no line has the key, so no object has it
    none_before : (lines : List Line) → IsTally g set_of os lines → list_any (same_line x) lines ≡ false
        → objects_in g set_of os x ≡ []
    none_before lines tally lacks =
        filter_none (is_in_line g set_of x) os
        (λ k d h. let p = get_or os k d in
        ⊎_elim
        (λ e.
        let some = and_parts (is_number (set_of p) s)
        ((row_number (row_at g p) == x.row) && (remainder_at g p == x.remainder)) e in
        let others = and_parts (row_number (row_at g p) == x.row) (remainder_at g p == x.remainder) some.1 in
        let it = tally.all p s (Contains-get_or os k d h) (is_number-true (set_of p) s some.0) in
        let row = eqb-true (row_number (row_at g p)) x.row others.0 in
        let rest = eqb-true (remainder_at g p) x.remainder others.1 in
        let found : list_any (same_line x) lines ≡ true =
        list_any_at (same_line x) lines it.1.0 it.0 it.1.1
        (subst (λ m. same_line x m ≡ true) (sym it.1.2)
        (same_from x it.0 (sym it.2.0) (sym (it.2.1 ∙ row)) (sym (it.2.2 ∙ rest)))) in
        absurd (cc (lacks, found)))
        (λ e. e)
        (cases_Bool (is_in_line g set_of x p)))

    pub tally_with : (lines : List Line) → IsTally g set_of os lines
        → IsTally g set_of (os ++ o ∷ []) (add_line x lines)
    tally_with lines tally =
        let fits = fits_added lines (λ k d h. (tally.counts k d h, tally.bytes k d h)) tally.once
        (none_before lines tally) in
        record {
          counts = λ k d h. (fits k d h).0;
          bytes = λ k d h. (fits k d h).1;
          some = some_added x (omega arith) lines tally.some;
          all = λ p t has is. ⊎_elim
              (λ was.
              let it = tally.all p t was is in
              let kept = line_kept x lines it.1.0 it.1.1 in
              let at : get_or lines it.1.0 x ≡ it.0 = get_or_default lines it.1.0 x it.0 it.1.1 ∙ it.1.2 in (
                kept.0,
                kept.1,
                (
                  sym kept.2.0 ∙ ap (λ (l : Line). l.set) at ∙ it.2.0,
                  sym kept.2.1 ∙ ap (λ (l : Line). l.row) at ∙ it.2.1,
                  sym kept.2.2 ∙ ap (λ (l : Line). l.remainder) at ∙ it.2.2,
                ),
              ))
              (λ same.
              let new = line_added x lines in
              let set_is : s ≡ t = cc (is_set, is, ap set_of same) in (
                new.0,
                new.1,
                (
                  sym new.2.0 ∙ set_is,
                  sym new.2.1 ∙ ap (λ q. row_number (row_at g q)) same,
                  sym new.2.2 ∙ ap (remainder_at g) same,
                ),
              ))
              (Contains-push_cases os o p has);
          once = once_added x lines tally.once;
        }

pub once_none : IsDistinct same_line []
unfolding IsDistinct
once_none = tt

pub tally_none : (g : ObjectGraph) (set_of : ℕ → Option ℕ) → IsTally g set_of [] []
tally_none g set_of = record {
  counts = λ k d h. absurd (omega (arith, h));
  bytes = λ k d h. absurd (omega (arith, h));
  some = λ k d h. absurd (omega (arith, h));
  all = λ o s has is. absurd (omega (arith, has.1));
  once = once_none;
}

pub tally_permutation : (g : ObjectGraph) (set_of : ℕ → Option ℕ) (os : List ℕ) (xs ys : List Line)
    → IsPermutation xs ys → IsTally g set_of os xs → IsTally g set_of os ys
tally_permutation g set_of os xs ys moved tally = record {
  counts = All-permutation (λ l. l.count ≡ length (objects_in g set_of os l)) xs ys moved tally.counts;
  bytes = All-permutation (λ l. l.bytes ≡ sum_by (bytes_at g) (objects_in g set_of os l)) xs ys moved tally.bytes;
  some = All-permutation (λ l. 0 < l.count) xs ys moved tally.some;
  all = λ o s has is. let it = tally.all o s has is in (it.0, Contains-permutation xs ys it.0 moved it.1, it.2);
  once = IsDistinct-IsPermutation same_line same_line_laws.symm xs ys moved tally.once;
}

pub range_more : (a n j : ℕ) → a + n ≡ j → range_with_len a (suc n) ≡ range_with_len a n ++ j ∷ []
range_more a zero j e = let same : a ≡ j = omega (arith, e) in ap (λ m. m ∷ []) same
range_more a (suc n) j e = ap (λ ms. a ∷ ms) (range_more (a + 1) n j (omega (arith, e)))

-- few objects are counted in a line, and they have few bytes
pub room_more : (g : ObjectGraph) (set_of : ℕ → Option ℕ) (n : ℕ) (lines : List Line) → IsWhole g → n ≤ object_count g
    → IsTally g set_of (range_with_len 0 n) lines → All HasRoom lines
room_more g set_of n lines whole few tally = λ k d h.
    let l = get_or lines k d in
    let os = range_with_len 0 n in
    let these = objects_in g set_of os l in
    let some : length these ≤ n = omega (
      arith,
      length-filter_both (is_in_line g set_of l) (λ o. not (is_in_line g set_of l o)) (λ o. refl) os,
      length-range_with_len 0 n,
    ) in
    let most : sum_by (bytes_at g) these ≤ length these * 1073741824 =
    sum_by-le (bytes_at g) 1073741824 these (λ j e b. whole.few_bytes _) in (
      omega (arith, tally.counts k d h, some, few, whole.few_objects),
      omega (arith, tally.bytes k d h, most, some, few, whole.few_objects),
    )
