-- The entries of a table with one key, as a list of marks.
use Rattle.std.proofs.Common.{Bool, List, Option, Some, [], ap, arith, cond, false, refl, sym, true, ℕ, ⊎_elim}
use Rattle.std.proofs.Common.{◌&&◌, ◌+◌, ◌==◌, ◌∙◌, ◌∷◌, ◌≡◌, ◌≤◌, not}
use Rattle.std.proofs.lemmas.Bool.{and_from, cases_eq, cases_order, eq-eqb, ne_eqb}
use Rattle.std.proofs.lemmas.Map.Keys.{sorted_head, sorted_tail}
use Rattle.std.specs.BTreeMap.{is_at}
use Rattle.std.specs.BTreeMap.Range.{entries_between, range_contains}
use Rattle.std.specs.List.{AllByRecursion}
use Rattle.std.specs.Map.{keys_of, lookup}
use Rattle.std.specs.List.Sorted.{IsStrictlySortedBy}
use Rattle.std.specs.Ordering.{is_eq, is_le, is_lt}
use Rattle.std.specs.declared.cmp.Ordering.TheVariants.{Equal, Greater, Less}
use Rattle.std.specs.declared.ops.Bound.TheVariants.{Included}
use Rattle.labelled_graph.proofs.Maps.{first_less, first_more, other_place, place_cmp, same_place, then_less, then_more}
use Rattle.labelled_graph.proofs.Maps.{then_same}
use Rattle.labelled_graph.specs.declared.mark.Mark.{Mark}
use Rattle.labelled_graph.specs.working.MarkMaps.{IsFrom, found_at, mark_entries}

abbrev Entries : Type 0
Entries = List ((ℕ × ℕ) × Mark)

-- whether a place has the key
abbrev in_key : ℕ → ℕ × ℕ → Bool
in_key key q = range_contains place_cmp (Included (key, 0)) (Included (key, 4294967295)) q

abbrev pub of_key : ℕ → Entries → Entries
of_key key es = entries_between place_cmp (Included (key, 0)) (Included (key, 4294967295)) es

inside : (key k i : ℕ) → k ≡ key → i ≤ 4294967295 → in_key key (k, i) ≡ true
inside key k i e l = and_from _ _
    (⊎_elim (λ z. ap is_le (then_same key 0 k i (sym e) z)) (λ o. ⊎_elim (λ m. ap is_le (then_less key 0 k i
    (sym e) m)) (λ m. absurd (omega (arith, m))) o) (cases_order 0 i))
    (⊎_elim (λ z. ap (λ o. not (is_lt o)) (then_same key 4294967295 k i (sym e) z))
    (λ o. ⊎_elim (λ m. absurd (omega (arith, m, l))) (λ m. ap (λ o. not (is_lt o)) (then_more key 4294967295 k i
    (sym e) m)) o)
    (cases_order 4294967295 i))

and_false : (b : Bool) → (b && false) ≡ false
and_false true = refl
and_false false = refl

outside : (key k i : ℕ) → (k ≡ key → ⊥) → in_key key (k, i) ≡ false
outside key k i h = ⊎_elim (λ e. absurd (h (sym e)))
    (λ o. ⊎_elim
    (λ l. ap (λ t. is_le (place_cmp (key, 0) (k, i)) && not (is_lt t)) (first_less key 4294967295 k i l) ∙ and_false _)
    (λ l. ap (λ t. is_le t && not (is_lt (place_cmp (key, 4294967295) (k, i)))) (first_more key 0 k i l)) o)
    (cases_order key k)

module _ (key : ℕ) (e : (ℕ × ℕ) × Mark) (i : ℕ) where
  seen : in_key key e.0 ≡ true → (e.0.1 == i) ≡ is_eq (place_cmp (key, i) e.0)
  seen t = ⊎_elim
      (λ k. ⊎_elim (λ m. eq-eqb e.0.1 i m ∙ sym (same_place key i e.0.0 e.0.1 k m))
      (λ m. ne_eqb e.0.1 i m ∙ sym (other_place key i e.0.0 e.0.1 (λ _ f. m f))) (cases_eq e.0.1 i))
      (λ k. let out : in_key key e.0 ≡ false = outside key e.0.0 e.0.1 k in absurd (cc)) (cases_eq e.0.0 key)

  unseen : i ≤ 4294967295 → in_key key e.0 ≡ false → is_eq (place_cmp (key, i) e.0) ≡ false
  unseen l t = other_place key i e.0.0 e.0.1
      (λ k m. let within : in_key key e.0 ≡ true = inside key e.0.0 e.0.1 k (omega (arith, m, l)) in absurd (cc))

found_step : (t u : Bool) (e : (ℕ × ℕ) × Mark) (es : Entries) (i : ℕ) (l : Option Mark)
    → found_at (mark_entries es) i ≡ l → (t ≡ true → (e.0.1 == i) ≡ u) → (t ≡ false → u ≡ false)
    → found_at (mark_entries (cond t (e ∷ es) es)) i ≡ cond u (Some e.1) l
found_step true u e es i l h p q =
    ap (λ b. cond b (Some e.1) (found_at (mark_entries es) i)) (p refl) ∙ ap (λ r. cond u (Some e.1) r) h
found_step false u e es i l h p q = h ∙ ap (λ b. cond b (Some e.1) l) (sym (q refl))

-- an index is found in the list exactly if the place is found in the table
pub found_same : (key : ℕ) (es : Entries) (i : ℕ) → i ≤ 4294967295
    → found_at (mark_entries (of_key key es)) i ≡ lookup (is_at (place_cmp (key, i))) es
found_same key [] i l = refl
found_same key (e ∷ es) i l = found_step (in_key key e.0) (is_eq (place_cmp (key, i) e.0)) e (of_key key es) i
    (lookup (is_at (place_cmp (key, i))) es) (found_same key es i l) (seen key e i) (unseen key e i l)

-- ---- the indices of a list ascend

later : (k i : ℕ) (q : ℕ × ℕ) → place_cmp (k, i) q ≡ Less → q.0 ≡ k → i + 1 ≤ q.1
later k i q less e = ⊎_elim
    (λ f. let same : place_cmp (k, i) q ≡ Equal = then_same k i q.0 q.1 (sym e) f in absurd (cc))
    (λ o. ⊎_elim (λ l. omega (arith, l))
    (λ l. let more : place_cmp (k, i) q ≡ Greater = then_more k i q.0 q.1 (sym e) l in absurd (cc)) o)
    (cases_order i q.1)

abbrev AreFrom : ℕ → ℕ → List (ℕ × ℕ) → Type 0
AreFrom key n ks = AllByRecursion (λ q. q.0 ≡ key → n ≤ q.1) ks

all_later : (key i : ℕ) (q : ℕ × ℕ) (ks : List (ℕ × ℕ)) → q.0 ≡ key → q.1 ≡ i
    → AllByRecursion (λ y. place_cmp q y ≡ Less) ks
    → AreFrom key (i + 1) ks
all_later key i q [] e f h = tt
all_later key i q (k ∷ ks) e f h = (
  λ g. let le = later q.0 q.1 k h.0 (g ∙ sym e) in omega (arith, le, f),
  all_later key i q ks e f h.1,
)

ascend_step : (t : Bool) (e : (ℕ × ℕ) × Mark) (es : Entries) (n : ℕ) → (t ≡ true
    → (n ≤ e.0.1) × IsFrom (e.0.1 + 1) (mark_entries es))
    → (t ≡ false → IsFrom n (mark_entries es)) → IsFrom n (mark_entries (cond t (e ∷ es) es))
ascend_step true e es n p q = p refl
ascend_step false e es n p q = q refl

pub ascends : (key : ℕ) (es : Entries) (n : ℕ) → IsStrictlySortedBy place_cmp (keys_of es) → AreFrom key n (keys_of es)
    → IsFrom n (mark_entries (of_key key es))
ascends key [] n sorted from = tt
ascends key (e ∷ es) n sorted from =
    let rest = sorted_tail place_cmp e.0 (keys_of es) sorted in
    let after = sorted_head place_cmp e.0 (keys_of es) sorted in
    ascend_step (in_key key e.0) e (of_key key es) n
    (λ t. ⊎_elim (λ k. (from.0 k, ascends key es (e.0.1 + 1) rest (all_later key e.0.1 e.0 (keys_of es) k refl after)))
    (λ k. let out : in_key key e.0 ≡ false = outside key e.0.0 e.0.1 k in absurd (cc)) (cases_eq e.0.0 key))
    (λ t. ascends key es n rest from.1)

pub from_zero : (key : ℕ) (ks : List (ℕ × ℕ)) → AreFrom key 0 ks
from_zero key [] = tt
from_zero key (k ∷ ks) = (λ e. omega arith, from_zero key ks)
