-- What follows if a reading in steps reads something: each step does.
use Rattle.std.proofs.Common.{Bool, List, None, Option, Some, ap, cond, false, refl, true, ℕ}
use Rattle.std.proofs.Common.{◌≡◌, ◌⊎◌, inl, inr}
use Rattle.std.proofs.lemmas.Option.{none-some, some_pair_parts}
use Rattle.label_list.specs.working.Reading.{as_at, when, ◌>>=◌}

pub cond_then : {A : Type 0} (t : Bool) (o : Option A) (x : A) → cond t o None ≡ Some x → (t ≡ true) × (o ≡ Some x)
cond_then true o x e = (refl, e)
cond_then false o x e = absurd (none-some x e)

pub bind_then : {A B : Type 0} (o : Option A) (f : A → Option B) (y : B) → (o >>= f) ≡ Some y
    → (x : A) × (o ≡ Some x) × (f x ≡ Some y)
bind_then (Some x) f y e = (x, refl, e)
bind_then None f y e = absurd (none-some y e)

pub when_then : {A : Type 0} (o : Option (List ℕ)) (read : List ℕ → Option A) (other : Option A) (y : A)
    → when o read other ≡ Some y
    → ((rest : List ℕ) × (o ≡ Some rest) × (read rest ≡ Some y)) ⊎ (other ≡ Some y)
when_then (Some rest) read other y e = inl (rest, refl, e)
when_then None read other y e = inr e

pub none_from : {A : Type 0} (o : Option A) → ((x : A) → o ≡ Some x → ⊥) → o ≡ None
none_from None never = refl
none_from (Some x) never = absurd (never x refl)

pub as_then : {A B : Type 0} (to : A → B) (read : Option (A × List ℕ)) (y : B) (rest : List ℕ)
    → as_at to read ≡ Some (y, rest) → (x : A) × (read ≡ Some (x, rest)) × (to x ≡ y)
as_then to None y rest e = absurd (none-some (y, rest) e)
as_then to (Some x) y rest e =
    let same = some_pair_parts (to x.0) y x.1 rest e in (x.0, ap (λ r. Some (x.0, r)) same.1, same.0)
