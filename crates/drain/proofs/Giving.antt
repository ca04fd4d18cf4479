-- The object that is got from a pair with a spill list is the last of that list, and it is put again.
use Rattle.drain.proofs.Words.{Book, Bool, Err, List, None, Ok, Option, PairState, Puts, PutsAgain, Result, Sees, Some}
use Rattle.drain.proofs.Words.{[], ap, arith, buffered_items, false, false≢true, length, none_first, pair_items, refl}
use Rattle.drain.proofs.Words.{subst, sym, true, ℕ, ◌++◌, ◌<◌, ◌∙◌, ◌∷◌, ◌≡◌, ◌≢◌, ◌≤◌}
use Rattle.mark_core.specs.declared.which.Which.TheVariants.{Full}
use Rattle.work_pair.specs.declared.stop.Stop.{Stop}
use Rattle.drain.specs.working.Giving.{GivesSome, Offers}

-- a list that is not empty has a last object
pub last_of : (xs : List ℕ) → 0 < length xs → (rest : List ℕ) × (object : ℕ) × (xs ≡ rest ++ object ∷ [])
last_of [] some = absurd (omega (arith, some))
last_of (x ∷ []) some = ([], x, refl)
last_of (x ∷ y ∷ ys) some =
    let later = last_of (y ∷ ys) (omega arith) in
    (x ∷ later.0, later.1, ap (λ (zs : List ℕ). x ∷ zs) later.2)

-- a list of length 0 is empty
pub none_of : (xs : List ℕ) → length xs ≤ 0 → xs ≡ []
none_of [] few = refl
none_of (x ∷ xs) few = absurd (omega (arith, few))

-- a pair with a spill list has items
pub spilled_items : (p : PairState) → 0 < length p.spill → pair_items p ≢ []
spilled_items p some none = omega (arith, some, ap length (none_first p.spill (buffered_items p) none))

abbrev answer_of : Result (Option ℕ) Stop → Option ℕ
answer_of (Ok got) = got
answer_of (Err stop) = None

-- the object that a get returns is the one that its clause names
pub same_answer : (got other : Option ℕ) → ◌≡◌ {A = Result (Option ℕ) Stop} (Ok got) (Ok other) → got ≡ other
same_answer got other told = ap answer_of told

-- a result that is no object is `None`
pub none_got : (got : Option ℕ) → ((o : ℕ) → got ≡ Some o → ⊥) → got ≡ None
none_got None other = refl
none_got (Some o) other = absurd (other o refl)

-- if nothing was got, but the last object of a list would have been, the list is empty
pub none_to_get : (xs : List ℕ) (got : Option ℕ) → ((o : ℕ) → got ≡ Some o → ⊥)
    → ((o : ℕ) (rest : List ℕ) → xs ≡ rest ++ o ∷ [] → got ≡ Some o) → xs ≡ []
none_to_get [] got other last = refl
none_to_get (x ∷ xs) got other last =
    let end = last_of (x ∷ xs) (omega arith) in
    absurd (other end.1 (last end.1 end.0 end.2))

-- if the last spilled object was got and put again, this is what `PutsAgain` says
pub puts_again : (old middle new : PairState) (before between after : Book) (object : ℕ) → 0 < length old.spill
    → ((o : ℕ) (rest : List ℕ) → old.spill ≡ rest ++ o ∷ [] → (object ≡ o) × (middle ≡ record old { spill = rest }))
    → between ≡ before → Puts middle between object new after → PutsAgain old before new after
puts_again old middle new before between after object some got same puts =
    let last = last_of old.spill some in
    let is = got last.1 last.0 last.2 in
    let its = subst (λ o. Puts middle between o new after) is.0 puts in
    let then = subst (λ (b : Book). Puts middle b last.1 new after) same its in
    (last.0, last.1, last.2, subst (λ (p : PairState). Puts p before last.1 new after) is.1 then)

-- if the full stack had a buffer, the worker does nothing more
pub needs_none : {p q : PairState} {before looked : Book} {none : Bool} → none ≡ false → q ≡ p
    → Sees Full before looked none → Offers p before q looked
needs_none {looked = looked} {none} some same sees =
    (none, looked, sees, λ _. (same, refl), λ empty. absurd (false≢true (sym some ∙ empty)))

-- if it found none, the worker gave some objects
pub gives_some : {p q r : PairState} {before looked after : Book} {none : Bool} → none ≡ true → q ≡ p
    → Sees Full before looked none → GivesSome q looked r after → Offers p before r after
gives_some {p} {q} {r} {looked = looked} {after} {none} empty same sees gives = (
  none,
  looked,
  sees,
  λ some. absurd (false≢true (sym some ∙ empty)),
  λ _. subst (λ (s : PairState). GivesSome s looked r after) same gives,
)
