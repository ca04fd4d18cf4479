-- A table of marks takes in one entry of a list after the other.
use Rattle.std.proofs.Common.{Contains, List, None, Option, Some, [], ap, arith, inl, inr, refl, subst, sym, ℕ, ⊎_elim}
use Rattle.std.proofs.Common.{◌++◌, ◌<◌, ◌↔◌, ◌∙◌, ◌∷◌, ◌≡◌, ◌⊎◌}
use Rattle.std.specs.Option.{IfSome}
use Rattle.std.proofs.lemmas.Bool.{cases_eq}
use Rattle.std.proofs.lemmas.List.Elements.{Contains-append_left, Contains-push, Contains-push_cases}
use Rattle.std.proofs.lemmas.Option.{none-some, same_Some, some_pair_parts}
use Rattle.label_list.specs.declared.entry.Entry.{Entry}
use Rattle.label_list.specs.declared.entry.Entry.TheVariants as entries
use Rattle.label_list.specs.declared.entry.Place.{Place}
use Rattle.label_sets.specs.Sets.{Extends, Store}
use Rattle.labelled_graph.proofs.Says.{AreWithin, joined_says, says_change, says_extends, some_change, some_sound}
use Rattle.labelled_graph.specs.Labels.{HasLabelAt, IsCut}
use Rattle.labelled_graph.specs.declared.mark.Mark.{Mark}
use Rattle.labelled_graph.specs.declared.mark.Said.{Said}
use Rattle.labelled_graph.specs.working.MarkMaps as maps
use Rattle.labelled_graph.specs.working.MarkMaps.{IsPut, MarkMap, mark_at, or_else}
use Rattle.labelled_graph.specs.working.MarkWords.{IsJoined, IsSoundIfSome, SaysIfSome}
use Rattle.labelled_graph.specs.working.Reads.{AreLabelsBelow}
use Rattle.labelled_graph.specs.working.Saying.{AreMarks, IsMarked, IsSaid, IsSaidAt, Places, no_place, said_in}

-- ---- what a list says, and with one entry more

module _ (list : List Entry) (e : Entry) (at : Place → Type 0) where
  pub cut_before : IsCut list at → IsCut (list ++ e ∷ []) at
  cut_before c = (c.0, Contains-append_left list (e ∷ []) (entries.Cut c.0) c.1, c.2)

  pub cut_cases : IsCut (list ++ e ∷ []) at → IsCut list at ⊎ ((p : Place) × (e ≡ entries.Cut p) × at p)
  cut_cases c = ⊎_elim (λ h. inl (c.0, h, c.2)) (λ h. inr (c.0, h, c.2)) (Contains-push_cases list e
      (entries.Cut c.0) c.1)

  pub label_before : (l : ℕ) → HasLabelAt list l at → HasLabelAt (list ++ e ∷ []) l at
  label_before l c = (c.0, Contains-append_left list (e ∷ []) (entries.Label l c.0) c.1, c.2)

  pub label_cases : (l : ℕ) → HasLabelAt (list ++ e ∷ []) l at
      → HasLabelAt list l at ⊎ ((p : Place) × (e ≡ entries.Label l p) × at p)
  label_cases l c = ⊎_elim (λ h. inl (c.0, h, c.2)) (λ h. inr (c.0, h, c.2))
      (Contains-push_cases list e (entries.Label l c.0) c.1)

pub cut_none : (at : Place → Type 0) → IsCut [] at → ⊥
cut_none at c = omega (arith, c.1.1)

pub label_none : (at : Place → Type 0) (l : ℕ) → HasLabelAt [] l at → ⊥
label_none at l c = omega (arith, c.1.1)

-- an entry that says nothing of a place
abbrev IsSilent : Entry → (Place → Type 0) → Type 0
IsSilent e at = (p : Place) (label : Option ℕ) → said_in e ≡ Some (p, label) → at p → ⊥

-- what was said of a place stays the same
module _ (old new : Store) (extends : Extends old new) (within : AreWithin old) (base list : List Entry)
    (base_at at : Place → Type 0) (e : Entry) (silent : IsSilent e at) where
  same_cut : IsCut list at ↔ IsCut (list ++ e ∷ []) at
  same_cut = (
    cut_before list e at,
    λ c. ⊎_elim (λ h. h) (λ h. absurd (silent h.0 None (ap said_in h.1) h.2)) (cut_cases list e at c),
  )

  same_label : (l : ℕ) → HasLabelAt list l at ↔ HasLabelAt (list ++ e ∷ []) l at
  same_label l = (
    label_before list e at l,
    λ c. ⊎_elim (λ h. h) (λ h. absurd (silent h.0 (Some l) (ap said_in h.1) h.2)) (label_cases list e at l c),
  )

  pub still_marked : (m : Option Mark) → IsMarked old base base_at list at m
      → IsMarked new base base_at (list ++ e ∷ []) at m
  still_marked None h = record {
    uncut = λ c. h.uncut (same_cut.1 c);
    none = λ l c. h.none l ((same_label l).1 c);
  }
  still_marked (Some m) h = says_extends old new _ _ m extends within
      (says_change old (IsCut base base_at ⊎ IsCut list at) (IsCut base base_at ⊎ IsCut (list ++ e ∷ []) at)
      (λ l. HasLabelAt base l base_at ⊎ HasLabelAt list l at)
      (λ l. HasLabelAt base l base_at ⊎ HasLabelAt (list ++ e ∷ []) l at) m
      (λ c. ⊎_elim inl (λ x. inr (same_cut.0 x)) c, λ c. ⊎_elim inl (λ x. inr (same_cut.1 x)) c)
      (λ l. (λ c. ⊎_elim inl (λ x. inr ((same_label l).0 x)) c, λ c. ⊎_elim inl (λ x. inr ((same_label l).1 x)) c)) h)

-- an entry that says nothing of any place of the table leaves the table as it is
pub not_said : (old new : Store) (base list : List Entry) (base_at at : Places) (m : MarkMap) (e : Entry)
    → Extends old new → AreWithin old → IsSaidAt at e None → AreMarks old base base_at list at m
    → AreMarks new base base_at (list ++ e ∷ []) at m
not_said old new base list base_at at m e extends within none are = record {
  each = λ k i. still_marked old new extends within base list (base_at k i) (at k i) e
      (λ p label is here. none p label is k i here) (mark_at m k i) (are.each k i);
  low = are.low;
}

-- ---- what an entry says of a place, after what was said of it before

-- what the base says of a place, or what the base and the list say
before_says : (store : Store) (base list : List Entry) (base_at at : Place → Type 0) (m b : Option Mark)
    → IsMarked store base base_at list at m → SaysIfSome store (IsCut base base_at) (λ l. HasLabelAt base l base_at) b
    → SaysIfSome store (IsCut base base_at ⊎ IsCut list at) (λ l. HasLabelAt base l base_at ⊎ HasLabelAt list l at)
    (or_else m b)
before_says store base list base_at at (Some m) b h k = h
before_says store base list base_at at None b h k = some_change store (IsCut base base_at)
    (IsCut base base_at ⊎ IsCut list at) (λ l. HasLabelAt base l base_at)
    (λ l. HasLabelAt base l base_at ⊎ HasLabelAt list l at) b
    (inl, λ c. ⊎_elim (λ x. x) (λ x. absurd (h.uncut x)) c)
    (λ l. (inl, λ c. ⊎_elim (λ x. x) (λ x. absurd (h.none l x)) c)) k

pub before_sound : (store : Store) (base list : List Entry) (base_at at : Place → Type 0) (m b : Option Mark)
    → IsMarked store base base_at list at m → SaysIfSome store (IsCut base base_at) (λ l. HasLabelAt base l base_at) b
    → IsSoundIfSome store (or_else m b)
before_sound store base list base_at at m b h k =
    some_sound store (IsCut base base_at ⊎ IsCut list at) (λ l. HasLabelAt base l base_at ⊎ HasLabelAt list l at)
    (or_else m b) (before_says store base list base_at at m b h k)

cut_entry : (e : Entry) (p : Place) (label : Option ℕ) → said_in e ≡ Some (p, label) → label ≡ None → e ≡ entries.Cut p
cut_entry (entries.Label l q) p label is none =
    let parts = some_pair_parts q p (Some l) label is in absurd (none-some l (sym none ∙ sym parts.1))
cut_entry (entries.Cut q) p label is none = let parts = some_pair_parts q p None label is in ap entries.Cut parts.0
cut_entry (entries.Root id) p label is none = absurd (none-some _ is)

label_entry : (e : Entry) (p : Place) (label : Option ℕ) (l : ℕ) → said_in e ≡ Some (p, label) → label ≡ Some l
    → e ≡ entries.Label l p
label_entry (entries.Label k q) p label l is some =
    let parts = some_pair_parts q p (Some k) label is in
    λ i. entries.Label (same_Some k l (parts.1 ∙ some) i) (parts.0 i)
label_entry (entries.Cut q) p label l is some =
    let parts = some_pair_parts q p None label is in absurd (none-some l (parts.1 ∙ some))
label_entry (entries.Root id) p label l is some = absurd (none-some _ is)

module _ (old new : Store) (base list : List Entry) (base_at at : Place → Type 0) (e : Entry) (place : Place)
    (label : Option ℕ) (is : said_in e ≡ Some (place, label)) (here : at place) where
  same_said : (p : Place) (other : Option ℕ) → said_in e ≡ Some (p, other) → label ≡ other
  same_said p other h = (some_pair_parts place p label other (sym is ∙ h)).1

  now_cut : (IsCut base base_at ⊎ IsCut (list ++ e ∷ []) at)
      ↔ ((IsCut base base_at ⊎ IsCut list at) ⊎ (label ≡ None))
  now_cut = (
    λ c. ⊎_elim (λ b. inl (inl b))
        (λ h. ⊎_elim (λ x. inl (inr x)) (λ x. inr (same_said x.0 None (ap said_in x.1))) (cut_cases list e at h)) c,
    λ c. ⊎_elim (λ h. ⊎_elim inl (λ x. inr (cut_before list e at x)) h)
        (λ n. inr (
          place,
          subst (λ (x : Entry). Contains (list ++ e ∷ []) x) (cut_entry e place label is n) (Contains-push list e),
          here,
        )) c,
  )

  now_label : (l : ℕ) → (HasLabelAt base l base_at ⊎ HasLabelAt (list ++ e ∷ []) l at)
      ↔ ((HasLabelAt base l base_at ⊎ HasLabelAt list l at) ⊎ (label ≡ Some l))
  now_label l = (
    λ c. ⊎_elim (λ b. inl (inl b))
        (λ h. ⊎_elim (λ x. inl (inr x)) (λ x. inr (same_said x.0 (Some l) (ap said_in x.1)))
        (label_cases list e at l h)) c,
    λ c. ⊎_elim (λ h. ⊎_elim inl (λ x. inr (label_before list e at l x)) h)
        (λ n. inr (
          place,
          subst (λ (x : Entry). Contains (list ++ e ∷ []) x) (label_entry e place label l is n) (Contains-push list e),
          here,
        )) c,
  )

  pub marked_now : (m b : Option Mark) (mark : Mark) → IsMarked old base base_at list at m
      → SaysIfSome old (IsCut base base_at) (λ l. HasLabelAt base l base_at) b
      → IsJoined old new (or_else m b) label mark
      → IsMarked new base base_at (list ++ e ∷ []) at (Some mark)
  marked_now m b mark h k j = joined_says old new (IsCut base base_at ⊎ IsCut list at)
      (IsCut base base_at ⊎ IsCut (list ++ e ∷ []) at) (λ l. HasLabelAt base l base_at ⊎ HasLabelAt list l at)
      (λ l. HasLabelAt base l base_at ⊎ HasLabelAt (list ++ e ∷ []) l at) (or_else m b) label mark
      (before_says old base list base_at at m b h k) j now_cut now_label

-- an entry that says something of a place of the table
module _ (old new : Store) (base list : List Entry) (base_at at : Places) (m n : MarkMap) (b : Option Mark) (e : Entry)
    (said : Said) (extends : Extends old new) (within : AreWithin old) (is : IsSaid at e said)
    (noted : maps.IsSaid old new m n b said)
    (from : SaysIfSome old (IsCut base (base_at said.key said.index)) (λ l. HasLabelAt base l
    (base_at said.key said.index)) b)
    (are : AreMarks old base base_at list at m) where
  here : IsMarked new base (base_at said.key said.index) (list ++ e ∷ []) (at said.key said.index)
      (mark_at n said.key said.index)
  here = subst (λ (o : Option Mark). IsMarked new base (base_at said.key said.index) (list ++ e ∷ [])
      (at said.key said.index) o)
      (sym noted.put.here)
      (marked_now old new base list (base_at said.key said.index) (at said.key said.index) e is.place said.label
      is.says is.here
      (mark_at m said.key said.index) b noted.mark (are.each said.key said.index) from noted.joined)

  there : (k i : ℕ) → (k ≡ said.key → i ≡ said.index → ⊥)
      → IsMarked new base (base_at k i) (list ++ e ∷ []) (at k i) (mark_at n k i)
  there k i apart = subst (λ (o : Option Mark). IsMarked new base (base_at k i) (list ++ e ∷ []) (at k i) o)
      (sym (noted.put.others k i apart))
      (still_marked old new extends within base list (base_at k i) (at k i) e
      (λ p label says h.
      let same : p ≡ is.place = (some_pair_parts p is.place label said.label (sym says ∙ is.says)).0 in
      let only = is.only k i (subst (λ (q : Place). at k i q) same h) in apart only.0 only.1)
      (mark_at m k i) (are.each k i))

  pub said_now : AreMarks new base base_at (list ++ e ∷ []) at n
  said_now = record {
    each = λ k i. ⊎_elim
        (λ f. ⊎_elim
        (λ h. subst (λ (x : ℕ). IsMarked new base (base_at x i) (list ++ e ∷ []) (at x i) (mark_at n x i)) (sym f)
        (subst (λ (y : ℕ). IsMarked new base (base_at said.key y) (list ++ e ∷ []) (at said.key y)
        (mark_at n said.key y))
        (sym h) here))
        (λ h. there k i (λ _ x. h x)) (cases_eq i said.index))
        (λ f. there k i (λ x _. f x)) (cases_eq k said.key);
    low = λ k i mark h. ⊎_elim
        (λ f. ⊎_elim (λ x. omega (arith, x, noted.put.low))
        (λ x. are.low k i mark (sym (noted.put.others k i (λ _ y. x y)) ∙ h)) (cases_eq i said.index))
        (λ f. are.low k i mark (sym (noted.put.others k i (λ y _. f y)) ∙ h)) (cases_eq k said.key);
  }

-- an empty table
pub none_said : (store : Store) (base : List Entry) (base_at at : Places) (m : MarkMap)
    → ((k i : ℕ) → mark_at m k i ≡ None) → AreMarks store base base_at [] at m
none_said store base base_at at m none = record {
  each = λ k i. subst (λ (o : Option Mark). IsMarked store base (base_at k i) [] (at k i) o) (sym (none k i))
      (record { uncut = cut_none (at k i); none = label_none (at k i) });
  low = λ k i mark h. absurd (none-some mark (sym (none k i) ∙ h));
}

-- a label that an entry of the list gives is low
below_if : (list : List Entry) (count : ℕ) (e : Entry) (p : Place) (label : Option ℕ) → AreLabelsBelow list count
    → Contains list e → said_in e ≡ Some (p, label) → IfSome label (λ l. l < count)
below_if list count e p None below has is = tt
below_if list count e p (Some l) below has is =
    below l p (subst (λ (x : Entry). Contains list x) (label_entry e p (Some l) l is refl) has)

pub label_below : (list : List Entry) (count : ℕ) (at : Places) (e : Entry) (said : Said) → AreLabelsBelow list count
    → Contains list e → IsSaid at e said → IfSome said.label (λ l. l < count)
label_below list count at e said below has is = below_if list count e is.place said.label below has is.says

-- a place without a base
pub no_base : (store : Store) (k i : ℕ) → SaysIfSome store (IsCut [] (no_place k i)) (λ l. HasLabelAt [] l
    (no_place k i)) None
no_base store k i = record { uncut = cut_none (no_place k i); none = label_none (no_place k i) }
