-- The order of places: by key, then by index.
use Rattle.std.proofs.Common.{ap, false, sym, true, ℕ, ⊎_elim, ◌<◌, ◌∙◌, ◌≡◌, Ordering}
use Rattle.std.proofs.lemmas.Bool.{cases_order}
use Rattle.std.specs.Cmp.{nat_cmp_is}
use Rattle.std.specs.Ordering.{is_eq, nat_cmp, ordering_then}
use Rattle.std.specs.declared.cmp.Ordering.TheVariants.{Equal, Greater, Less}

abbrev pub place_cmp : ℕ × ℕ → ℕ × ℕ → Ordering
place_cmp a b = ordering_then (nat_cmp a.0 b.0) (nat_cmp a.1 b.1)

pub cmp_less : (x y : ℕ) → x < y → nat_cmp x y ≡ Less
cmp_less x y l = sym (nat_cmp_is x y Less l)

pub cmp_same : (x y : ℕ) → x ≡ y → nat_cmp x y ≡ Equal
cmp_same x y e = sym (nat_cmp_is x y Equal e)

pub cmp_more : (x y : ℕ) → y < x → nat_cmp x y ≡ Greater
cmp_more x y l = sym (nat_cmp_is x y Greater l)

module _ (a b c d : ℕ) where
  pub first_less : a < c → place_cmp (a, b) (c, d) ≡ Less
  first_less l = ap (λ o. ordering_then o (nat_cmp b d)) (cmp_less a c l)

  pub first_more : c < a → place_cmp (a, b) (c, d) ≡ Greater
  first_more l = ap (λ o. ordering_then o (nat_cmp b d)) (cmp_more a c l)

  first_same : a ≡ c → place_cmp (a, b) (c, d) ≡ nat_cmp b d
  first_same e = ap (λ o. ordering_then o (nat_cmp b d)) (cmp_same a c e)

  pub then_less : a ≡ c → b < d → place_cmp (a, b) (c, d) ≡ Less
  then_less e l = first_same e ∙ cmp_less b d l

  pub then_same : a ≡ c → b ≡ d → place_cmp (a, b) (c, d) ≡ Equal
  then_same e f = first_same e ∙ cmp_same b d f

  pub then_more : a ≡ c → d < b → place_cmp (a, b) (c, d) ≡ Greater
  then_more e l = first_same e ∙ cmp_more b d l

pub same_place : (key index k i : ℕ) → k ≡ key → i ≡ index → is_eq (place_cmp (key, index) (k, i)) ≡ true
same_place key index k i e f = ap is_eq (then_same key index k i (sym e) (sym f))

pub other_place : (key index k i : ℕ) → (k ≡ key → i ≡ index → ⊥) → is_eq (place_cmp (key, index) (k, i)) ≡ false
other_place key index k i h = ⊎_elim
    (λ e. ⊎_elim (λ f. absurd (h (sym e) (sym f)))
    (λ o. ⊎_elim (λ l. ap is_eq (then_less key index k i e l)) (λ l. ap is_eq (then_more key index k i e l)) o)
    (cases_order index i))
    (λ o. ⊎_elim (λ l. ap is_eq (first_less key index k i l)) (λ l. ap is_eq (first_more key index k i l)) o)
    (cases_order key k)
