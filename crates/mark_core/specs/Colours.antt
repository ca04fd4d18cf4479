-- Colours: the mark of an object says where it is, marked objects are reachable, and a finished object has no white
-- successor.
use Rattle.std.specs.Prelude.{◌≡◌, ◌⊎◌, ℕ, ◌+◌, ◌≤◌, List, [], ◌∷◌, Option, Contains}
use Rattle.mark_core.specs.Lists.{StandsAt, sum_of, times}
use Rattle.mark_core.specs.Account.{Account}
use Rattle.mark_core.specs.World.{Setup, items_of}

-- how often the object o is in stacked buffers
abbrev pub stacked_times : ℕ → List (Option (List ℕ)) → ℕ
stacked_times o slots = sum_of (λ slot. times o (items_of slot)) slots

-- how often o is in charges
abbrev pub charged_times : ℕ → List Account → ℕ
charged_times o accounts = sum_of (λ a. times o a.charge) accounts

-- how often o is in finished lists
abbrev pub finished_times : ℕ → List Account → ℕ
finished_times o accounts = sum_of (λ a. times o a.finished) accounts

-- a path leads to the object o: it begins at a root, each later object is a successor of the one before, and o is the
-- last. The list has the objects before o, in reverse order; it is empty if o is the root
abbrev pub IsPathTo : Setup → List ℕ → ℕ → Type 0
IsPathTo e [] o = Contains e.roots o
IsPathTo e (p ∷ back) o = Contains e.pairs (p, o) × IsPathTo e back p

abbrev pub IsReachableIn : Setup → ℕ → Type 0
IsReachableIn e o = (back : List ℕ) × IsPathTo e back o

-- an object has the mark `mark`, is `working` times in stacked buffers and charges together, and `done` times in
-- finished lists. White: it is in none of them
abbrev pub IsWhite : ℕ → ℕ → ℕ → Type 0
IsWhite mark working done = (mark ≡ 0) × (working ≡ 0) × (done ≡ 0)

-- claimed: it is once in stacked buffers and charges together, and in no finished list
abbrev pub IsClaimed : ℕ → ℕ → ℕ → Type 0
IsClaimed mark working done = (mark ≡ 1) × (working ≡ 1) × (done ≡ 0)

-- finished: it is once in finished lists, and nowhere else
abbrev pub IsFinished : ℕ → ℕ → ℕ → Type 0
IsFinished mark working done = (mark ≡ 2) × (working ≡ 0) × (done ≡ 1)

-- the mark of an object agrees with how often the object is in stacked buffers and charges, and in finished lists
abbrev pub HasColour : ℕ → ℕ → ℕ → Type 0
HasColour mark working done = IsWhite mark working done ⊎ (IsClaimed mark working done ⊎ IsFinished mark working done)

pub record IsColoured
    (e : Setup) (mark : ℕ → ℕ) (slots : List (Option (List ℕ))) (accounts : List Account) : Type 0 where
  pub colours : (o : ℕ)
      → HasColour (mark o) (stacked_times o slots + charged_times o accounts) (finished_times o accounts)
  pub closed : (o s : ℕ) → mark o ≡ 2 → Contains e.pairs (o, s) → 1 ≤ mark s
  pub reachable : (o : ℕ) → 1 ≤ mark o → IsReachableIn e o
  pub saw : (w : ℕ) (a : Account) → StandsAt accounts w a → (o : ℕ) → Contains a.seen o → 1 ≤ mark o
