-- A list without repeats, of numbers below a bound, has the same sums as the list of all numbers below the bound that
-- are in it.
use Rattle.std.proofs.Common.{◌≡◌, ◌⊎◌, ◌↔◌, ℕ, zero, suc, ◌+◌, ◌<◌, ◌≤◌, Bool, true, false, cond, nat_lt, arith}
use Rattle.std.proofs.Common.{List, [], ◌∷◌, Contains, filter, length, sum_by, ap, sym, refl, ◌∙◌, ⊎_elim}
use Rattle.std.proofs.Common.{lt-ltb, le-ltb}
use Rattle.std.specs.List.{range_with_len}
use Rattle.std.proofs.lemmas.Bool.{cases_lt, cases_order}
use Rattle.std.proofs.lemmas.List.FromFn.{length-range_with_len}
use Rattle.std.proofs.lemmas.List.Sums.{count_by-le-length, length-filter, sum_by-cons}
use Rattle.mark_core.specs.Lists.{one_where, only, times}
use Rattle.mark_core.proofs.SameObjects.{same_sums}
use Rattle.mark_core.proofs.Sums.{only-same, only-other, stands_times, times_stands}

-- each number is in the list at most once
abbrev pub IsOnce : List ℕ → Type 0
IsOnce objects = (o : ℕ) → times o objects ≤ 1

-- the numbers below n that pass the test
abbrev pub chosen : (ℕ → Bool) → ℕ → List ℕ
chosen p n = filter p (range_with_len 0 n)

-- the numbers below n that pass are those in the list
abbrev pub AreThose : (ℕ → Bool) → ℕ → List ℕ → Type 0
AreThose p n objects = (o : ℕ) → ((p o ≡ true) × (o < n)) ↔ Contains objects o

-- a number that passes is in the filtered list as often as in the list; one that does not pass is not in it
times-passing : (p : ℕ → Bool) (o : ℕ) (xs : List ℕ) → times o (filter p xs) ≡ cond (p o) (times o xs) 0
times-passing p o xs = go xs
  where
    none : (b : Bool) → ◌≡◌ {A = ℕ} 0 (cond b 0 0)
    none true = refl
    none false = refl

    more :
        (b c : Bool) (x : ℕ) (rest kept : List ℕ) → (x ≡ o → c ≡ b) → times o kept ≡ cond b (times o rest) 0
        → times o (cond c (x ∷ kept) kept) ≡ cond b (times o (x ∷ rest)) 0
    more true true x rest kept same ih = omega (arith, ih)
    more false false x rest kept same ih = ih
    more true false x rest kept same ih = omega (arith, ih, only-other o x (λ e. let f = same e in cc))
    more false true x rest kept same ih = omega (arith, ih, only-other o x (λ e. let f = same e in cc))

    go : (ys : List ℕ) → times o (filter p ys) ≡ cond (p o) (times o ys) 0
    go [] = none (p o)
    go (y ∷ ys) = more (p o) (p y) y ys (filter p ys) (ap p) (go ys)

-- o is below a + 1 exactly if it is a or below a
one_more : (o a : ℕ) → only o a + one_where (nat_lt o a) ≡ one_where (nat_lt o (a + 1))
one_more o a = ⊎_elim
    (λ same. omega (arith, only-same o a (sym same), past a (omega (arith, same)), below (omega (arith, same))))
    (⊎_elim
    (λ low.
    let here = ap one_where (lt-ltb o a low) in
    omega (arith, only-other o a (λ e. omega (arith, e, low)), here, below (omega (arith, low))))
    (λ high.
    let next = past (a + 1) (omega (arith, high)) in
    omega (arith, only-other o a (λ e. omega (arith, e, high)), past a (omega (arith, high)), next)))
    (cases_order o a)
  where
    below : o < a + 1 → one_where (nat_lt o (a + 1)) ≡ 1
    below low = ap one_where (lt-ltb o (a + 1) low)

    past : (m : ℕ) → m ≤ o → one_where (nat_lt o m) ≡ 0
    past m high = ap one_where (le-ltb o m high)

times-range_from : (o a n : ℕ)
    → times o (range_with_len a n) + one_where (nat_lt o a) ≡ one_where (nat_lt o (a + n))
times-range_from o a zero = let e : a ≡ a + 0 = omega arith in omega (arith, ap (λ k. one_where (nat_lt o k)) e)
times-range_from o a (suc n) =
    let e : (a + 1) + n ≡ a + suc n = omega arith in
    omega (arith, times-range_from o (a + 1) n, one_more o a, ap (λ k. one_where (nat_lt o k)) e)

-- each number below n is in the range once
pub times-range : (o n : ℕ) → times o (range_with_len 0 n) ≡ one_where (nat_lt o n)
times-range o n =
    let e : 0 + n ≡ n = omega arith in
    let none : one_where (nat_lt o 0) ≡ 0 = ap one_where (le-ltb o 0 (omega arith)) in
    omega (arith, times-range_from o 0 n, ap (λ k. one_where (nat_lt o k)) e)

pub chosen_sums :
    (p : ℕ → Bool) (n : ℕ) (objects : List ℕ) → IsOnce objects → AreThose p n objects
    → (f : ℕ → ℕ) → sum_by f objects ≡ sum_by f (chosen p n)
chosen_sums p n objects once those f = same_sums objects (chosen p n) same f
  where
    one : (o : ℕ) → p o ≡ true → o < n → times o objects ≡ one_where (nat_lt o n)
    one o e low =
        let here = stands_times objects o ((those o).0 (e, low)) in
        omega (arith, here, once o, ap one_where (lt-ltb o n low))

    none : (o : ℕ) → (Contains objects o → ⊥) → times o objects ≡ 0
    none o not_there = ⊎_elim
        (λ some. absurd (not_there (times_stands objects o some)))
        (λ few. omega (arith, few))
        (cases_lt 0 (times o objects))

    said : (o : ℕ) (b : Bool) → p o ≡ b → (o < n) ⊎ (n ≤ o) → times o objects ≡ cond b (one_where (nat_lt o n)) 0
    said o true e h = ⊎_elim
        (λ low. one o e low)
        (λ past. none o (λ there. omega (arith, ((those o).1 there).1, past)) ∙ sym (ap one_where (le-ltb o n past)))
        h
    said o false e h = none o (λ there. let wrong : true ≡ false = sym ((those o).1 there).0 ∙ e in cc)

    same : (o : ℕ) → times o objects ≡ times o (chosen p n)
    same o =
        said o (p o) refl (cases_lt o n)
        ∙ sym (times-passing p o (range_with_len 0 n) ∙ ap (λ k. cond (p o) k 0) (times-range o n))

pub ones : (xs : List ℕ) → sum_by (λ o. 1) xs ≡ length xs
ones [] = refl
ones (x ∷ xs) = omega (arith, sum_by-cons (λ (o : ℕ). 1) x xs, ones xs)

-- a list without repeats has at most n numbers below n
pub few_once :
    (n : ℕ) (objects : List ℕ) → IsOnce objects → ((o : ℕ) → Contains objects o → o < n) → length objects ≤ n
few_once n objects once within =
    omega (
      arith,
      ones objects,
      ones (chosen p n),
      chosen_sums p n objects once those (λ o. 1),
      length-filter p (range_with_len 0 n),
      count_by-le-length p (range_with_len 0 n),
      length-range_with_len 0 n,
    )
  where
    p : ℕ → Bool
    p o = nat_lt 0 (times o objects)

    stands : (o : ℕ) → p o ≡ true → Contains objects o
    stands o passes = ⊎_elim
        (λ some. times_stands objects o some)
        (λ none. absurd (let wrong : true ≡ false = sym passes ∙ le-ltb 0 (times o objects) none in cc))
        (cases_lt 0 (times o objects))

    those : AreThose p n objects
    those o = (λ h. stands o h.0, λ h. (lt-ltb 0 (times o objects) (stands_times objects o h), within o h))
