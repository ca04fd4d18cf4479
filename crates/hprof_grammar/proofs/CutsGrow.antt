-- One more cut joins cuts that are all long enough.
use Rattle.std.proofs.Common.{List, [], arith, length, refl, subst, sym, ℕ, ◌*◌, ◌++◌, ◌+◌, ◌<◌, ◌∙◌, ◌∷◌, ◌≡◌, ◌≤◌}
use Rattle.hprof_grammar.specs.declared.cuts.Cut.{Cut}
use Rattle.hprof_grammar.specs.working.Cuts.{AreCuts}
use Rattle.hprof_grammar.proofs.TeamParts.{few_together}

-- the cuts lead from place `from` to place `end`, and each has `size` bytes or more
abbrev pub AreLong : ℕ → ℕ → List Cut → ℕ → Type 0
AreLong size from [] end = from ≡ end
AreLong size from (cut ∷ more) end = (cut.from.place ≡ from) × (from + size ≤ cut.to) × AreLong size cut.to more end

pub one_more : (size from end : ℕ) (cuts : List Cut) (cut : Cut) → AreLong size from cuts end
    → cut.from.place ≡ end → end + size ≤ cut.to → AreLong size from (cuts ++ cut ∷ []) cut.to
one_more size from end [] cut are begins long = (
  begins ∙ sym are,
  subst (λ (place : ℕ). place + size ≤ cut.to) (sym are) long,
  refl,
)
one_more size from end (first ∷ more) cut are begins long =
    (are.0, are.1, one_more size first.to end more cut are.2 begins long)

pub and_the_last : (size from end : ℕ) (cuts : List Cut) (cut : Cut) → AreLong size from cuts end
    → cut.from.place ≡ end → end < cut.to → AreCuts size from (cuts ++ cut ∷ []) cut.to
and_the_last size from end [] cut are begins some =
    (begins ∙ sym are, refl, subst (λ (place : ℕ). place < cut.to) (sym are) some)
and_the_last size from end (first ∷ []) cut are begins some =
    (are.0, are.1, (begins ∙ sym are.2, refl, subst (λ (place : ℕ). place < cut.to) (sym are.2) some))
and_the_last size from end (first ∷ next ∷ more) cut are begins some =
    (are.0, are.1, and_the_last size first.to end (next ∷ more) cut are.2 begins some)

-- all cuts but the last have `size` bytes or more, so that they are fewer than the bytes divided by `size` and one more
pub few_cuts : (size from end : ℕ) (cuts : List Cut) → 0 < size → AreCuts size from cuts end
    → from + length cuts * size < end + size
few_cuts size from end [] some are = grind (arith, are, some)
few_cuts size from end (cut ∷ []) some are = grind (arith, are.2)
few_cuts size from end (cut ∷ next ∷ more) some are =
    grind (arith, are.1, few_cuts size cut.to end (next ∷ more) some are.2)

-- if `t` parts of `size` bytes have room for the bytes, there are at most `t` cuts
pub cuts_within : (size from bytes t : ℕ) (cuts : List Cut) → 0 < size → bytes ≤ t * size
    → AreCuts size from cuts (from + bytes) → length cuts ≤ t
cuts_within size from bytes t cuts some room are =
    few_together (length cuts) t size (grind (arith, few_cuts size from (from + bytes) cuts some are, room))
