-- The text of a list of skipped fields spells one list: it is cut at its commas, and each entry at its last dot.
use Rattle.heap_graph.proofs.Words.{AllByRecursion, Contains-append_right, List, SkipEntry, [], arith, length, refl}
use Rattle.heap_graph.proofs.Words.{subst, sym, ℕ, ◌++◌, ◌∙◌, ◌∷◌, ◌≡◌, ◌≤◌}
use Rattle.std.specs.List.{Contains}
use Rattle.heap_graph.specs.SkipText.{IsEntry, SpellsSkips, entry_text, list_text}

pub there : (k : ℕ) (xs ys : List ℕ) → Contains (xs ++ k ∷ ys) k
there k xs ys = Contains-append_right xs (k ∷ ys) k (0, omega arith, refl)

head_of : (x y : ℕ) (xs ys : List ℕ) → x ∷ xs ≡ y ∷ ys → x ≡ y
head_of x y xs ys e = cc

tail_of : (x y : ℕ) (xs ys : List ℕ) → x ∷ xs ≡ y ∷ ys → xs ≡ ys
tail_of x y xs ys e = cc

further : (x k : ℕ) (xs : List ℕ) → Contains xs k → Contains (x ∷ xs) k
further x k xs h = Contains-append_right (x ∷ []) xs k h

-- two texts that are cut at their first k have the same parts if they are equal
pub first_cut : (k : ℕ) (xs ys r t : List ℕ) → (Contains xs k → ⊥) → (Contains ys k → ⊥) → xs ++ k ∷ r ≡ ys ++ k ∷ t
    → (xs ≡ ys) × (r ≡ t)
first_cut k [] [] r t no_x no_y e = (refl, tail_of k k r t e)
first_cut k [] (y ∷ ys) r t no_x no_y e = absurd (no_y (0, omega arith, sym (head_of k y r (ys ++ k ∷ t) e)))
first_cut k (x ∷ xs) [] r t no_x no_y e = absurd (no_x (0, omega arith, head_of x k (xs ++ k ∷ r) t e))
first_cut k (x ∷ xs) (y ∷ ys) r t no_x no_y e =
    let same = head_of x y (xs ++ k ∷ r) (ys ++ k ∷ t) e in
    let rest =
    first_cut k xs ys r t (λ h. no_x (further x k xs h)) (λ h. no_y (further y k ys h))
    (tail_of x y (xs ++ k ∷ r) (ys ++ k ∷ t) e) in
    (λ i. same i ∷ rest.0 i, rest.1)

-- two texts that are cut at their last k have the same parts if they are equal
pub last_cut : (k : ℕ) (xs ys r t : List ℕ) → (Contains r k → ⊥) → (Contains t k → ⊥) → xs ++ k ∷ r ≡ ys ++ k ∷ t
    → (xs ≡ ys) × (r ≡ t)
last_cut k [] [] r t no_r no_t e = (refl, tail_of k k r t e)
last_cut k [] (y ∷ ys) r t no_r no_t e =
    absurd (no_r (subst (λ (zs : List ℕ). Contains zs k) (sym (tail_of k y r (ys ++ k ∷ t) e)) (there k ys t)))
last_cut k (x ∷ xs) [] r t no_r no_t e =
    absurd (no_t (subst (λ (zs : List ℕ). Contains zs k) (tail_of x k (xs ++ k ∷ r) t e) (there k xs r)))
last_cut k (x ∷ xs) (y ∷ ys) r t no_r no_t e =
    let same = head_of x y (xs ++ k ∷ r) (ys ++ k ∷ t) e in
    let rest = last_cut k xs ys r t no_r no_t (tail_of x y (xs ++ k ∷ r) (ys ++ k ∷ t) e) in
    (λ i. same i ∷ rest.0 i, rest.1)

one_entry : (a b : SkipEntry) → IsEntry a → IsEntry b → entry_text a ≡ entry_text b → a ≡ b
one_entry a b p q e =
    let parts = last_cut 46 a.class b.class a.field b.field p.last_dot q.last_dot e in
    λ i. record { class = parts.0 i; field = parts.1 i }

one_list : (xs ys : List SkipEntry) → 1 ≤ length xs → 1 ≤ length ys → AllByRecursion IsEntry xs
    → AllByRecursion IsEntry ys → list_text xs ≡ list_text ys → xs ≡ ys
one_list [] ys some other p q e = absurd (omega (arith, some))
one_list (a ∷ more) [] some other p q e = absurd (omega (arith, other))
one_list (a ∷ []) (b ∷ []) some other p q e = let same = one_entry a b p.0 q.0 e in λ i. same i ∷ []
one_list (a ∷ []) (b ∷ c ∷ more) some other p q e =
    let comma = there 44 (entry_text b) (list_text (c ∷ more)) in
    absurd (p.0.no_comma (subst (λ (zs : List ℕ). Contains zs 44) (sym e) comma))
one_list (a ∷ d ∷ more) (b ∷ []) some other p q e =
    let comma = there 44 (entry_text a) (list_text (d ∷ more)) in
    absurd (q.0.no_comma (subst (λ (zs : List ℕ). Contains zs 44) e comma))
one_list (a ∷ d ∷ more) (b ∷ c ∷ others) some other p q e =
    let parts =
    first_cut 44 (entry_text a) (entry_text b) (list_text (d ∷ more)) (list_text (c ∷ others)) p.0.no_comma
    q.0.no_comma e in
    let same = one_entry a b p.0 q.0 parts.0 in
    let rest = one_list (d ∷ more) (c ∷ others) (omega arith) (omega arith) p.1 q.1 parts.1 in
    λ i. same i ∷ rest i

pub one_skip_list : (text : List ℕ) (list other : List SkipEntry) → SpellsSkips text list → SpellsSkips text other
    → list ≡ other
one_skip_list text list other p q = one_list list other p.some q.some p.each q.each (sym p.spelled ∙ q.spelled)
