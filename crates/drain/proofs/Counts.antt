-- If each claimed object was finished, the number of marks that are set is that of the finished objects.
use Rattle.drain.proofs.Words.{AreFinished, Bool, List, [], ap, arith, cond, count_by, is_set, map, refl, suc}
use Rattle.drain.proofs.Words.{sum_by-cons, sym, zero, ℕ, ◌+◌, ◌==◌, ◌∙◌, ◌∷◌, ◌≡◌, ◌≤◌}

-- one mark before others that are counted alike
one_more : (m n k : ℕ) → (1 ≤ m → m ≡ 2) → n ≡ k → cond (m == 2) 1 0 + n ≡ cond (is_set m) 1 0 + k
one_more zero n k two same = ap (λ (x : ℕ). 0 + x) same
one_more (suc m) n k two same =
    let is : suc m ≡ 2 = two (omega (arith)) in
    ap (λ (x : ℕ). cond (x == 2) 1 0 + n) is
    ∙ ap (λ (x : ℕ). 1 + x) same
    ∙ ap (λ (x : ℕ). cond (is_set x) 1 0 + k) (sym is)

pub finished_are_set :
    (marks : List ℕ) → AreFinished marks → count_by (λ m. m == 2) marks ≡ count_by (λ m. m) (map is_set marks)
finished_are_set [] all = refl
finished_are_set (m ∷ ms) all =
    let others : count_by (λ (n : ℕ). n == 2) ms ≡ count_by (λ (b : Bool). b) (map is_set ms) =
    finished_are_set ms (λ o. all (suc o))
    in
    sum_by-cons (λ (n : ℕ). cond (n == 2) 1 0) m ms
    ∙ one_more m (count_by (λ (n : ℕ). n == 2) ms) (count_by (λ (b : Bool). b) (map is_set ms)) (all 0) others
    ∙ sym (sum_by-cons (λ (b : Bool). cond b 1 0) (is_set m) (map is_set ms))
