-- Lists by position, and lists of numbers regardless of order, where only the count of each number matters.
use Rattle.std.specs.Prelude.{◌≡◌, ℕ, ◌+◌, ◌≤◌, ◌==◌, if◌then◌else◌, Bool, true, false, List, [], ◌∷◌}
use mathlib.Core.Option.{some}
use lib.ListN.{get_elem?}

-- x is at position i of the list
abbrev pub StandsAt : {X : Type 0} → List X → ℕ → X → Type 0
StandsAt xs i x = get_elem? xs i ≡ some x

-- the sum of the weights f x of the elements x
abbrev pub sum_of : {X : Type 0} → (X → ℕ) → List X → ℕ
sum_of f [] = 0
sum_of f (x ∷ xs) = f x + sum_of f xs

-- 1 if the test is true, and 0 otherwise
abbrev pub one_where : Bool → ℕ
one_where true = 1
one_where false = 0

-- the weight that counts x as 1 and each other number as 0
abbrev pub only : ℕ → ℕ → ℕ
only x y = one_where (y == x)

-- how often x is in the list
abbrev pub times : ℕ → List ℕ → ℕ
times x xs = sum_of (only x) xs

-- the list without its first x
abbrev pub remove_one : ℕ → List ℕ → List ℕ
remove_one x [] = []
remove_one x (y ∷ ys) = if y == x then ys else y ∷ remove_one x ys

-- what is left of the second list: for each number of the first, in turn, the first equal number is removed, if any
abbrev pub without : List ℕ → List ℕ → List ℕ
without [] ys = ys
without (x ∷ xs) ys = without xs (remove_one x ys)

-- the second list has each number at least as often as the first
abbrev pub IsPart : List ℕ → List ℕ → Type 0
IsPart xs ys = (x : ℕ) → times x xs ≤ times x ys
