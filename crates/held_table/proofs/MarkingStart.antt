-- The marks of the sets that lines name, and the numbers under which sets are shown.
use Rattle.std.proofs.Common.{All, Bool, Contains, List, [], ap, arith, false, get_or, inl, inr, length, map, set}
use Rattle.std.proofs.Common.{subst, sym, take, true, ℕ}
use Rattle.std.proofs.Common.{◌++◌, ◌+◌, ◌<◌, ◌∙◌, ◌∷◌, ◌≡◌}
use Rattle.std.proofs.Math.Seq.{get_or-append_seam}
use Rattle.std.proofs.Math.ListN.{get_or-append}
use Rattle.std.proofs.lemmas.Bool.{cases_lt}
use Rattle.std.proofs.lemmas.List.{get_or_default, map-append, take_more}
use Rattle.std.proofs.lemmas.List.Elements.{All-contains, All-map, All-more, Contains-append_left, Contains-push}
use Rattle.label_sets.specs.Sets.{IsPlain, Store}
use Rattle.held_table.specs.declared.line.Line.{Line}
use Rattle.held_table.specs.working.Marking.{AreMarked, AreOnly, IsMarked, IsPlainLine}
use Rattle.held_table.specs.working.Plains.{ArePlains, IsPlainOf}
use Rattle.held_table.proofs.MarkingLaws.{marked_before, marked_here, marked_kept}

-- a mark as it is read
pub marked_read : (marks : List Bool) (n : ℕ) {b : Bool} → n < length marks → b ≡ get_or marks n b → b ≡ true
    → IsMarked marks n
marked_read marks n {b} within is true_is = get_or_default marks n false b within ∙ sym is ∙ true_is

module _ (lines : List Line) (i : ℕ) (d : Line) (marks : List Bool) (below : i < length lines)
    (within : (get_or lines i d).set < length marks) where
  abbrev s : ℕ
  s = (get_or lines i d).set

  pub marked_more : AreMarked (take i lines) marks → AreMarked (take (i + 1) lines) (set marks s true)
  marked_more were = All-more (λ (l : Line). IsMarked (set marks s true) l.set) lines i d below
      (λ k e h. marked_kept marks s _ within (were k e h)) (marked_here marks s within)

  pub only_more : AreOnly (take i lines) marks → AreOnly (take (i + 1) lines) (set marks s true)
  only_more were = λ t is.
      let all : map (λ (l : Line). l.set) (take (i + 1) lines) ≡ map (λ (l : Line). l.set) (take i lines) ++ s ∷ [] =
      ap (map (λ (l : Line). l.set)) (take_more lines i d below)
      ∙ map-append (λ (l : Line). l.set) (take i lines) (get_or lines i d ∷ []) in
      subst (λ ss. Contains ss t) (sym all) (elim (marked_before marks s t is) [
        | inl e ↦ subst (Contains (map (λ (l : Line). l.set) (take i lines) ++ s ∷ [])) (sym e)
            (Contains-push (map (λ (l : Line). l.set) (take i lines)) s)
        | inr was ↦ Contains-append_left (map (λ (l : Line). l.set) (take i lines)) (s ∷ []) t (were t was)
      ])

-- the sets of lines that are shown as they are
pub only_plain : (store : Store) (count : ℕ) (lines : List Line) (marks : List Bool)
    → All (IsPlainLine store count) lines → AreOnly lines marks → (s : ℕ) → IsMarked marks s → IsPlain store s
only_plain store count lines marks plain only = λ s is.
    All-contains (IsPlain store) (map (λ (l : Line). l.set) lines) s
    (All-map (IsPlain store) (λ (l : Line). l.set) lines (λ k d h. (plain k d h).plain)) (only s is)

-- one more set has its number
pub plains_more : (store : Store) (xs : List ℕ) (n p : ℕ) (ys : List ℕ) → length xs ≡ n → ArePlains store n xs
    → IsPlainOf store n p → ys ≡ xs ++ p ∷ [] → ArePlains store (n + 1) ys
plains_more store xs n p ys long were new is = λ s below.
    elim (cases_lt s n) [
      | inl low ↦ let at : get_or ys s 0 ≡ get_or xs s 0 =
          ap (λ zs. get_or zs s 0) is ∙ get_or-append xs (p ∷ []) 0 s (omega (arith, low, long)) in
          subst (IsPlainOf store s) (sym at) (were s low)
      | inr high ↦ let same : s ≡ n = omega (arith, below, high) in
          let at : get_or ys n 0 ≡ p =
          ap (λ zs. get_or zs n 0) is ∙ ap (λ m. get_or (xs ++ p ∷ []) m 0) (sym long) ∙ get_or-append_seam xs p [] 0 in
          subst (λ m. IsPlainOf store m (get_or ys m 0)) (sym same) (subst (IsPlainOf store n) (sym at) new)
    ]
