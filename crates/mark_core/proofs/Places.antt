-- Lists by position, and functions with one value replaced.
use Rattle.std.proofs.Common.{◌≡◌, ◌≢◌, ◌⊎◌, ℕ, zero, suc, ◌<◌, List, [], ◌∷◌, ◌++◌, length, get_or, set, cond, ap, sym}
use Rattle.std.proofs.Common.{refl, subst, ◌∙◌, inl, inr, ⊎_elim, eq-eqb, ne_eqb, arith}
use mathlib.Core.Option.{some-injective, some-ne-none}
use native.Mathlib.Decide.{ℕ_discrete}
use lib.ListN.{get_elem?}
use Rattle.mark_core.proofs.Words.{Which, Full, Empty, StandsAt, put, put_which}

module _ {X : Type 0} where
  -- what is at j after a write at i
  pub at_set : (l : List X) (i j : ℕ) (a b : X) → StandsAt (set l i a) j b → ((j ≡ i) × (a ≡ b))
      ⊎ ((j ≢ i) × StandsAt l j b)
  at_set [] i j a b e = absurd (some-ne-none b (sym e))
  at_set (x ∷ xs) zero zero a b e = inl (refl, some-injective a b e)
  at_set (x ∷ xs) zero (suc j) a b e = inr ((λ h. omega arith), e)
  at_set (x ∷ xs) (suc i) zero a b e = inr ((λ h. omega arith), e)
  at_set (x ∷ xs) (suc i) (suc j) a b e =
      ⊎_elim (λ t. inl (ap suc t.0, t.1)) (λ t. let n = t.0 in inr ((λ h. n (omega arith)), t.1)) (at_set xs i j a b e)

  pub set_here : (l : List X) (i : ℕ) (a b : X) → StandsAt l i b → StandsAt (set l i a) i a
  set_here [] i a b e = absurd (some-ne-none b (sym e))
  set_here (x ∷ xs) zero a b e = refl
  set_here (x ∷ xs) (suc i) a b e = set_here xs i a b e

  pub set_else : (l : List X) (i j : ℕ) (a : X) → j ≢ i → get_elem? (set l i a) j ≡ get_elem? l j
  set_else [] i j a n = refl
  set_else (x ∷ xs) zero zero a n = absurd (n refl)
  set_else (x ∷ xs) zero (suc j) a n = refl
  set_else (x ∷ xs) (suc i) zero a n = refl
  set_else (x ∷ xs) (suc i) (suc j) a n = set_else xs i j a (λ e. n (ap suc e))

  pub at_longer : (l m : List X) (i : ℕ) (a : X) → StandsAt l i a → StandsAt (l ++ m) i a
  at_longer [] m i a e = absurd (some-ne-none a (sym e))
  at_longer (x ∷ xs) m zero a e = e
  at_longer (x ∷ xs) m (suc i) a e = at_longer xs m i a e

  pub at_below : (l : List X) (i : ℕ) (a : X) → StandsAt l i a → i < length l
  at_below [] i a e = absurd (some-ne-none a (sym e))
  at_below (x ∷ xs) zero a e = omega arith
  at_below (x ∷ xs) (suc i) a e = omega (arith, at_below xs i a e)

  pub at_get_or : (l : List X) (i : ℕ) (a d : X) → StandsAt l i a → get_or l i d ≡ a
  at_get_or [] i a d e = absurd (some-ne-none a (sym e))
  at_get_or (x ∷ xs) zero a d e = some-injective x a e
  at_get_or (x ∷ xs) (suc i) a d e = at_get_or xs i a d e

  pub at_one : (l : List X) (i : ℕ) (a b : X) → StandsAt l i a → StandsAt l i b → a ≡ b
  at_one l i a b d e = cc

  pub put_here : (i j : ℕ) (x : X) (f : ℕ → X) → j ≡ i → put i x f j ≡ x
  put_here i j x f e = ap (λ t. cond t x (f j)) (eq-eqb j i e)

  pub put_else : (i j : ℕ) (x : X) (f : ℕ → X) → j ≢ i → put i x f j ≡ f j
  put_else i j x f n = ap (λ t. cond t x (f j)) (ne_eqb j i n)

  -- C holds of all values of a function if it holds of the replaced one and of all others
  pub put_each : (C : ℕ → X → Type 0) (i : ℕ) (x : X) (f : ℕ → X) → C i x → ((j : ℕ) → j ≢ i → C j (f j))
      → (j : ℕ) → C j (put i x f j)
  put_each C i x f here others j = go (ℕ_discrete j i)
    where
      go : Dec (j ≡ i) → C j (put i x f j)
      go (yes e) = subst (C j) (sym (put_here i j x f e)) (subst (λ k. C k x) (sym e) here)
      go (no n) = subst (C j) (sym (put_else i j x f n)) (others j n)

  -- C holds of both values of a function of the two stacks after one was replaced
  pub put_one : (C : Which → X → Type 0) (q : Which) (x : X) (f : Which → X) → C q x → ((p : Which) → C p (f p))
      → (p : Which) → C p (put_which q x f p)
  put_one C Full x f here each Full = here
  put_one C Empty x f here each Empty = here
  put_one C _ x f here each p = each p

  -- C holds of the values of two such functions at each stack, after both were replaced at one stack
  pub put_two : {Y : Type 0} (C : X → Y → Type 0) (q : Which) (x : X) (y : Y) (f : Which → X) (g : Which → Y) → C x y
      → ((p : Which) → C (f p) (g p)) → (p : Which) → C (put_which q x f p) (put_which q y g p)
  put_two C Full x y f g here each Full = here
  put_two C Empty x y f g here each Empty = here
  put_two C _ x y f g here each p = each p

-- P holds of each element with its place after one element was written or appended
pub set_at :
    {X : Type 0} (P : ℕ → X → Type 0) (xs : List X) (w : ℕ) (y : X)
    → ((k : ℕ) (x : X) → k ≢ w → StandsAt xs k x → P k x) → P w y → (k : ℕ) (x : X) → StandsAt (set xs w y) k x → P k x
set_at P xs w y all here k x at =
    ⊎_elim (λ t. subst (P k) t.1 (subst (λ j. P j y) (sym t.0) here)) (λ t. all k x t.0 t.1) (at_set xs w k y x at)

pub push_at :
    {X : Type 0} (P : ℕ → X → Type 0) (xs : List X) (y : X) → ((k : ℕ) (x : X) → StandsAt xs k x → P k x)
    → P (length xs) y → (k : ℕ) (x : X) → StandsAt (xs ++ y ∷ []) k x → P k x
push_at P [] y all here zero x at = subst (P 0) (some-injective y x at) here
push_at P [] y all here (suc k) x at = absurd (some-ne-none x (sym at))
push_at P (z ∷ xs) y all here zero x at = all 0 x at
push_at P (z ∷ xs) y all here (suc k) x at =
    push_at (λ j. P (suc j)) xs y (λ j b is. all (suc j) b is) here k x at

-- the same for a P that does not read the place
module _ {X : Type 0} (P : X → Type 0) where
  abbrev pub OfEach : List X → Type 0
  OfEach xs = (k : ℕ) (x : X) → StandsAt xs k x → P x

  pub set_all : (xs : List X) (w : ℕ) (y : X) → OfEach xs → P y → OfEach (set xs w y)
  set_all xs w y all = set_at (λ k. P) xs w y (λ k x n at. all k x at)

  pub push_all : (xs : List X) (y : X) → OfEach xs → P y → OfEach (xs ++ y ∷ [])
  push_all = push_at (λ k. P)

  pub one_all : (x : X) → P x → OfEach (x ∷ [])
  one_all x here = push_all [] x (λ k y at. absurd (some-ne-none y (sym at))) here

-- P held of each element before a write if it holds after it, and if P of the new element implies P of the old one
pub set_back :
    {X : Type 0} (P : ℕ → X → Type 0) (xs : List X) (w : ℕ) (a b : X) → StandsAt xs w a
    → ((k : ℕ) (x : X) → StandsAt (set xs w b) k x → P k x) → (P w b → P w a)
    → (k : ℕ) (x : X) → StandsAt xs k x → P k x
set_back P xs w a b is all own k x at = go (ℕ_discrete k w)
  where
    go : Dec (k ≡ w) → P k x
    go (yes e) =
        let same : x ≡ a = at_one xs w x a (subst (λ j. StandsAt xs j x) e at) is in
        subst (P k) (sym same) (subst (λ j. P j a) (sym e) (own (all w b (set_here xs w b a is))))
    go (no n) = all k x (set_else xs w k b n ∙ at)
