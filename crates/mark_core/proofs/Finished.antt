-- The number of objects that an account finished is at most that of all objects, and at the close it is the number of
-- marks 2. A finished list has no object twice.
use Rattle.std.proofs.Common.{◌≡◌, ◌↔◌, ℕ, ◌<◌, ◌≤◌, ◌==◌, Bool, cond, List, [], ◌∷◌, Contains, arith}
use Rattle.std.proofs.Common.{count_by, eq-eqb, eqb-true, length, map, slice_index, ap, refl, ◌∙◌, ⊎_elim}
use Rattle.std.specs.List.{range_with_len}
use Rattle.std.proofs.lemmas.Bool.{cases_lt}
use Rattle.std.proofs.lemmas.List.{get_or_past}
use Rattle.std.proofs.lemmas.List.FromFn.{fill_by_all}
use Rattle.std.proofs.lemmas.List.Sums.{length-filter, sum_by-cons}
use Rattle.mark_core.proofs.Words.{StandsAt, times, Account, Setup, Marking, Law}
use Rattle.mark_core.proofs.Chosen.{AreThose, IsOnce, chosen, chosen_sums, few_once, ones}
use Rattle.mark_core.proofs.Closing.{has_each_once}
use Rattle.mark_core.proofs.Colours.{linear}
use Rattle.mark_core.proofs.Sums.{stands_times, term_le}

-- an account finished at most as many objects as exist, if each number with a mark is an object
pub finished_few :
    (e : Setup) (m : Marking) → Law e m → ((o : ℕ) → 1 ≤ m.mark o → o < e.objects)
    → (w : ℕ) (a : Account) → StandsAt m.accounts w a → length a.finished ≤ e.objects
finished_few e m law objects w a is =
    few_once e.objects a.finished (λ o. omega (arith, (has_each_once e m law w a is).objects o)) within
  where
    within : (o : ℕ) → Contains a.finished o → o < e.objects
    within o here =
        let among = term_le (λ (x : Account). times o x.finished) m.accounts w a is in
        let told = linear e m.mark m.slots m.accounts law.coloured o in
        objects o (omega (arith, told, among, stands_times a.finished o here))

count-map : (q : ℕ → Bool) (f : ℕ → ℕ) (xs : List ℕ) → count_by q (map f xs) ≡ count_by (λ o. q (f o)) xs
count-map q f [] = refl
count-map q f (x ∷ xs) =
    let one = sum_by-cons (λ y. cond (q y) 1 0) (f x) (map f xs) in
    omega (arith, one, sum_by-cons (λ y. cond (q (f y)) 1 0) x xs, count-map q f xs)

-- a list without repeats of exactly the objects with mark 2 is as long as there are marks 2
pub finished_counted :
    (marks objects : List ℕ) → IsOnce objects → ((o : ℕ) → (slice_index marks o ≡ 2) ↔ Contains objects o)
    → count_by (λ m. m == 2) marks ≡ length objects
finished_counted marks objects once those =
    ap (count_by (λ m. m == 2)) in_turn
    ∙ count-map (λ m. m == 2) (slice_index marks) (range_with_len 0 n)
    ∙ omega (
      arith,
      length-filter p (range_with_len 0 n),
      ones objects,
      ones (chosen p n),
      chosen_sums p n objects once are (λ o. 1),
    )
  where
    n : ℕ
    n = length marks

    p : ℕ → Bool
    p o = slice_index marks o == 2

    in_turn : marks ≡ map (slice_index marks) (range_with_len 0 n)
    in_turn = fill_by_all (slice_index marks) marks n 0 refl (λ k below. refl)

    marked : (o : ℕ) → slice_index marks o ≡ 2 → o < n
    marked o two = ⊎_elim
        (λ below. below)
        (λ past. absurd (omega (arith, two, get_or_past marks o 0 past)))
        (cases_lt o n)

    are : AreThose p n objects
    are o = (
      λ h. (those o).0 (eqb-true (slice_index marks o) 2 h.0),
      λ h. let two = (those o).1 h in (eq-eqb (slice_index marks o) 2 two, marked o two),
    )
