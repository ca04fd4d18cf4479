-- What is found in a list of marks whose indices ascend.
use Rattle.std.proofs.Common.{Bool, List, None, Some, [], ap, arith, cond, refl, subst, sym, ℕ, ◌+◌, ◌<◌, ◌∙◌, ◌∷◌, ◌≡◌}
use Rattle.std.proofs.lemmas.Bool.{ne_eqb}
use Rattle.labelled_graph.specs.declared.mark.PlacedMark.{PlacedMark}
use Rattle.labelled_graph.specs.working.MarkMaps.{IsFrom, found_at}

-- no index is below the first
pub none_below : (ms : List PlacedMark) (n i : ℕ) → IsFrom n ms → i < n → found_at ms i ≡ None
none_below [] n i from l = refl
none_below (m ∷ ms) n i from l =
    ap (λ (b : Bool). cond b (Some m.mark) (found_at ms i)) (ne_eqb m.index i (λ e. omega (arith, e, from.0, l)))
    ∙ none_below ms (m.index + 1) i from.1 (omega (arith, from.0, l))

-- an index that the first mark does not have is not found, if none is below it
pub not_first : (marks rest : List PlacedMark) (first : PlacedMark) (i : ℕ) → marks ≡ first ∷ rest → IsFrom i marks
    → (first.index ≡ i → ⊥) → None ≡ found_at marks i
not_first marks rest first i is from other =
    let all : IsFrom i (first ∷ rest) = subst (λ (xs : List PlacedMark). IsFrom i xs) is from in
    sym (ap (λ (xs : List PlacedMark). found_at xs i) is
    ∙ ap (λ (b : Bool). cond b (Some first.mark) (found_at rest i)) (ne_eqb first.index i other)
    ∙ none_below rest (first.index + 1) i all.1 (omega (arith, all.0)))
