-- Marks that say what was said.
use Rattle.std.proofs.Common.{None, Option, Some, ap, inl, inr, length, refl, subst, sym, ℕ, ⊎_elim, ◌<◌, ◌↔◌, ◌≡◌, ◌⊎◌}
use Rattle.std.proofs.lemmas.Option.{same_Some}
use Rattle.label_sets.specs.Sets.{Extends, HasLabel, IsWhole, Store}
use Rattle.labelled_graph.proofs.Stores.{has_stays, whole_stays}
use Rattle.labelled_graph.specs.declared.mark.Mark.{Mark}
use Rattle.labelled_graph.specs.declared.mark.Mark.TheVariants.{Cut, Labels}
use Rattle.labelled_graph.specs.working.MarkWords.{IsJoined, IsSetOf, IsSound, IsSoundIfSome, IsWithLabel, Says}
use Rattle.labelled_graph.specs.working.MarkWords.{SaysIfSome}

-- each whole set is one of the store's
abbrev pub AreWithin : Store → Type 0
AreWithin store = (s : ℕ) → IsWhole store s → s < length store.sets

pub says_extends : (old new : Store) (cut : Type 0) (has : ℕ → Type 0) (m : Mark) → Extends old new → AreWithin old
    → Says old cut has m → Says new cut has m
says_extends old new cut has Cut e within h = h
says_extends old new cut has (Labels set) e within h = record {
  uncut = h.uncut;
  whole = whole_stays old new e set.number h.whole;
  exact = λ l.
      let same = has_stays old new e set.number l (within set.number h.whole) in
      (λ x. (h.exact l).0 (same.0 x), λ x. same.1 ((h.exact l).1 x));
}

pub says_change : (store : Store) (cut other : Type 0) (has more : ℕ → Type 0) (m : Mark) → (cut ↔ other)
    → ((l : ℕ) → has l ↔ more l) → Says store cut has m → Says store other more m
says_change store cut other has more Cut c k h = c.0 h
says_change store cut other has more (Labels set) c k h = record {
  uncut = λ x. h.uncut (c.1 x);
  whole = h.whole;
  exact = λ l. (λ x. (k l).0 ((h.exact l).0 x), λ x. (h.exact l).1 ((k l).1 x));
}

pub some_change : (store : Store) (cut other : Type 0) (has more : ℕ → Type 0) (m : Option Mark) → (cut ↔ other)
    → ((l : ℕ) → has l ↔ more l) → SaysIfSome store cut has m → SaysIfSome store other more m
some_change store cut other has more None c k h = record {
  uncut = λ x. h.uncut (c.1 x);
  none = λ l x. h.none l ((k l).1 x);
}
some_change store cut other has more (Some m) c k h = says_change store cut other has more m c k h

pub sound : (store : Store) (cut : Type 0) (has : ℕ → Type 0) (m : Mark) → Says store cut has m → IsSound store m
sound store cut has Cut h = tt
sound store cut has (Labels set) h = h.whole

pub some_sound : (store : Store) (cut : Type 0) (has : ℕ → Type 0) (m : Option Mark) → SaysIfSome store cut has m
    → IsSoundIfSome store m
some_sound store cut has None h = tt
some_sound store cut has (Some m) h = sound store cut has m h

-- ---- a mark that is joined with what an entry says, says both

module _ (old new : Store) (cut other : Type 0) (has more : ℕ → Type 0) where
  cut_by : (mark : Mark) → mark ≡ Cut → other → Says new other more mark
  cut_by mark e c = subst (λ (m : Mark). Says new other more m) (sym e) c

  set_by : (all : ℕ → Type 0) (mark : Mark) → (other → ⊥) → ((l : ℕ) → all l ↔ more l) → IsSetOf new all mark
      → Says new other more mark
  set_by all Cut n k h = absurd h
  set_by all (Labels set) n k h = record {
    uncut = n;
    whole = h.0;
    exact = λ l. (λ x. (k l).0 ((h.1 l).0 x), λ x. (h.1 l).1 ((k l).1 x));
  }

  none_is : (l : ℕ) → Some l ≡ None → ⊥
  none_is l e = absurd (cc)

  with_mark : (before mark : Mark) (l : ℕ) → Says old cut has before → IsWithLabel old new before l mark
      → (other ↔ (cut ⊎ (Some l ≡ None))) → ((k : ℕ) → more k ↔ (has k ⊎ (Some l ≡ Some k))) → Says new other more mark
  with_mark Cut mark l h j c k = cut_by mark j (c.1 (inl h))
  with_mark (Labels set) mark l h j c k = set_by (λ k. HasLabel old set.number k ⊎ (k ≡ l)) mark
      (λ x. ⊎_elim h.uncut (none_is l) (c.0 x))
      (λ i. (
        λ x. (k i).1 (⊎_elim (λ a. inl ((h.exact i).0 a)) (λ e. inr (ap Some (sym e))) x),
        λ x. ⊎_elim (λ a. inl ((h.exact i).1 a)) (λ e. inr (sym (same_Some l i e))) ((k i).0 x),
      )) j

  pub joined_says : (before : Option Mark) (label : Option ℕ) (mark : Mark) → SaysIfSome old cut has before
      → IsJoined old new before label mark → (other ↔ (cut ⊎ (label ≡ None)))
      → ((k : ℕ) → more k ↔ (has k ⊎ (label ≡ Some k))) → Says new other more mark
  joined_says None None mark h j c k = cut_by mark j (c.1 (inr refl))
  joined_says (Some m) None mark h j c k = cut_by mark j (c.1 (inr refl))
  joined_says None (Some l) mark h j c k = set_by (λ k. k ≡ l) mark (λ x. ⊎_elim h.uncut (none_is l) (c.0 x))
      (λ i. (
        λ e. (k i).1 (inr (ap Some (sym e))),
        λ x. ⊎_elim (λ a. absurd (h.none i a)) (λ e. sym (same_Some l i e)) ((k i).0 x),
      )) j
  joined_says (Some m) (Some l) mark h j c k = with_mark m mark l h j c k
