-- The result of a look-up among the accounts.
use Rattle.std.proofs.Common.{◌≡◌, ◌<◌, true, false, nat_lt, lt-ltb, sym, List, length, ℕ, get_or, subst, ◌∙◌, arith}
use Rattle.std.proofs.lemmas.Grind.{common_steps}
use Rattle.std.proofs.lemmas.List.{get_or_default}
use Rattle.mark_core.proofs.Words.{Account, account_at}

is_within : (w n : ℕ) → true ≡ nat_lt w n → w < n
is_within w n is = grind (arith, common_steps)

pub is_of : (xs ys : List Account) (w : ℕ) (a : Account) → xs ≡ ys → true ≡ nat_lt w (length xs) → a ≡ get_or xs w a
    → (w < length ys) × (a ≡ account_at ys w)
is_of xs ys w a same within found =
    let less = is_within w (length xs) within in
    subst (λ (l : List Account). (w < length l) × (a ≡ account_at l w)) same
    (less, found ∙ get_or_default xs w a _ less)

pub none_is : (xs ys : List Account) (w : ℕ) → xs ≡ ys → false ≡ nat_lt w (length xs) → w < length ys → false ≡ true
none_is xs ys w same past less = past ∙ lt-ltb _ _ (subst (λ (l : List Account). w < length l) (sym same) less)
