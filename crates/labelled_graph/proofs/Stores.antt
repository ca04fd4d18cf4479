-- A store that grows keeps its sets.
use Rattle.std.proofs.Common.{Bool, Contains, List, [], ap, append-nil, append_assoc, arith, false, get_or}
use Rattle.std.proofs.Common.{inl, inr, length, refl, subst, suc, sym, true, zero, ℕ, ⊎_elim, ◌++◌, ◌<◌, ◌↔◌, ◌∙◌, ◌∷◌}
use Rattle.std.proofs.Common.{◌≡◌, ◌⊎◌}
use Rattle.std.proofs.lemmas.Bool.{cases_lt}
use Rattle.std.proofs.lemmas.List.{get_or_append_left, get_or_past}
use Rattle.label_sets.specs.Sets.{Extends, HasLabel, IsUnion, IsWhole, Store, labels_of}

pub extends_itself : (s : Store) → Extends s s
extends_itself s = record {
  labels_are = refl;
  more = [];
  sets_are = sym (append-nil s.sets);
  more_whole = [];
  whole_are = sym (append-nil s.whole);
}

pub extends_on : (a b c : Store) → Extends a b → Extends b c → Extends a c
extends_on a b c p q = record {
  labels_are = q.labels_are ∙ p.labels_are;
  more = p.more ++ q.more;
  sets_are = q.sets_are ∙ ap (λ xs. xs ++ q.more) p.sets_are ∙ append_assoc a.sets p.more q.more;
  more_whole = p.more_whole ++ q.more_whole;
  whole_are = q.whole_are ∙ ap (λ xs. xs ++ q.more_whole) p.whole_are ∙ append_assoc a.whole p.more_whole q.more_whole;
}

true_within : (ws : List Bool) (s : ℕ) → get_or ws s false ≡ true → s < length ws
true_within ws s is = ⊎_elim (λ l. l) (λ l. let past : get_or ws s false
    ≡ false = get_or_past ws s false l in absurd (cc))
    (cases_lt s (length ws))

pub whole_stays : (old new : Store) → Extends old new → (s : ℕ) → IsWhole old s → IsWhole new s
whole_stays old new e s is =
    ap (λ ws. get_or ws s false) e.whole_are ∙ get_or_append_left old.whole e.more_whole false s
    (true_within old.whole s is) ∙ is

pub labels_stay : (old new : Store) → Extends old new → (s : ℕ) → s < length old.sets
    → labels_of new s ≡ labels_of old s
labels_stay old new e s within = ap (λ xs. get_or xs s []) e.sets_are ∙ get_or_append_left old.sets e.more [] s within

pub has_stays : (old new : Store) → Extends old new → (s l : ℕ) → s < length old.sets
    → HasLabel new s l ↔ HasLabel old s l
has_stays old new e s l within =
    let same = labels_stay old new e s within in (
      λ h. subst (λ (xs : List ℕ). Contains xs l) same h,
      λ h. subst (λ (xs : List ℕ). Contains xs l) (sym same) h,
    )

one_of : (l k i : ℕ) → i < length (l ∷ []) → get_or (l ∷ []) i k ≡ k → k ≡ l
one_of l k zero inside is = sym is
one_of l k (suc i) inside is = absurd (omega (arith, inside))

-- a set of one label has that label alone
pub only : (store : Store) (s l : ℕ) → labels_of store s ≡ l ∷ [] → (k : ℕ) → HasLabel store s k ↔ (k ≡ l)
only store s l is k = (
  λ h. let at : Contains (l ∷ []) k = subst (λ (xs : List ℕ). Contains xs k) is h in one_of l k at.0 at.1 at.2,
  λ e. subst (λ (xs : List ℕ). Contains xs k) (sym is) (0, omega arith, sym e),
)

-- the union of a set, taken over from an older store, with a set of one label
pub with_one : (old mid new : Store) (set one both l : ℕ) → Extends old mid → set < length old.sets
    → labels_of mid one ≡ l ∷ [] → IsUnion mid new set one both → (k : ℕ)
    → HasLabel new both k ↔ (HasLabel old set k ⊎ (k ≡ l))
with_one old mid new set one both l e within is union k = (
  λ h. ⊎_elim (λ a. inl ((has_stays old mid e set k within).0 a)) (λ b. inr ((only mid one l is k).0 b))
      ((union.exact k).0 h),
  λ h. (union.exact k).1
      (⊎_elim (λ a. inl ((has_stays old mid e set k within).1 a)) (λ b. inr ((only mid one l is k).1 b)) h),
)
