-- The first number of a range that passes a test, searched number by number.
use Rattle.std.proofs.Common.{◌≡◌, ℕ, zero, suc, ◌+◌, ◌-◌, ◌<◌, ◌≤◌, Bool, true, false, cond, find, Option, None, Some}
use Rattle.std.proofs.Common.{ap, sym, ◌∙◌, ⊎_elim, arith}
use Rattle.std.proofs.lemmas.Bool.{cases_lt}
use Rattle.std.specs.List.{range_with_len}

module _ (p : ℕ → Bool) where
  -- the first number that passes, from o up to but without n
  abbrev pub first_from : ℕ → ℕ → Option ℕ
  first_from o n = find p (range_with_len o (n - o))

  pub finds_none : (o n : ℕ) → n ≤ o → first_from o n ≡ None
  finds_none o n past =
      let none : n - o ≡ 0 = omega (arith, past) in
      ap (λ m. find p (range_with_len o m)) none

  -- the search at a number of the range
  here : (o n : ℕ) → o < n → first_from o n ≡ cond (p o) (Some o) (first_from (o + 1) n)
  here o n below =
      let some : n - o ≡ suc (n - (o + 1)) = omega (arith, below) in
      ap (λ m. find p (range_with_len o m)) some

  pub finds : (o n : ℕ) → o < n → p o ≡ true → first_from o n ≡ Some o
  finds o n below passes = here o n below ∙ ap (λ b. cond b (Some o) (first_from (o + 1) n)) passes

  skips : (k o n : ℕ) → ((i : ℕ) → o ≤ i → i < o + k → i < n → p i ≡ false) → first_from o n ≡ first_from (o + k) n
  skips zero o n none = let e : o ≡ o + 0 = omega arith in ap (λ x. first_from x n) e
  skips (suc k) o n none = ⊎_elim
      (λ below.
      let on : o + 1 + k ≡ o + suc k = omega arith in
      here o n below
      ∙ ap (λ b. cond b (Some o) (first_from (o + 1) n)) (none o (omega arith) (omega arith) below)
      ∙ skips k (o + 1) n (λ i from to. none i (omega (arith, from)) (omega (arith, to)))
      ∙ ap (λ x. first_from x n) on)
      (λ past. finds_none o n past ∙ sym (finds_none (o + suc k) n (omega (arith, past))))
      (cases_lt o n)

  pub skips_to :
      (o to n : ℕ) → o ≤ to → ((i : ℕ) → o ≤ i → i < to → i < n → p i ≡ false) → first_from o n ≡ first_from to n
  skips_to o to n from none =
      let e : o + (to - o) ≡ to = omega (arith, from) in
      skips (to - o) o n (λ i at below. none i at (omega (arith, from, below))) ∙ ap (λ x. first_from x n) e
