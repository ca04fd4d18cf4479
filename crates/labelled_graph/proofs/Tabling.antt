-- The marks of the tables say of each identifier and root what the list says of it.
use Rattle.std.proofs.Common.{Bool, Contains, List, None, Option, Some, [], ap, arith, cond, false, get_or, inl, inr}
use Rattle.std.proofs.Common.{refl, subst, sym, true, ℕ, ⊎_elim}
use Rattle.std.proofs.Common.{ltb, ◌<◌, ◌↔◌, ◌∙◌, ◌≡◌, ◌≤◌, ◌^◌, ◌⊎◌}
use Rattle.std.proofs.lemmas.Bool.{cases_lt, cond-true, lt-ltb}
use Rattle.heap_graph.specs.ObjectGraph.{ObjectGraph, class_at, row_at}
use Rattle.heap_graph.specs.Whole.{IsWhole}
use Rattle.heap_graph.specs.declared.row.RowKey.{RowKey}
use Rattle.heap_graph.specs.declared.row.RowKey.TheVariants as keys
use Rattle.label_list.specs.declared.entry.Entry.{Entry}
use Rattle.label_list.specs.declared.entry.Place.{Place}
use Rattle.label_list.specs.declared.entry.Place.TheVariants as places
use Rattle.label_sets.specs.Sets.{Extends, Store, labels_of}
use Rattle.labelled_graph.proofs.Classes.{baseless, class_found, class_says, row_in}
use Rattle.labelled_graph.proofs.Keeping.{limited_beyond}
use Rattle.labelled_graph.proofs.Says.{AreWithin, says_change, says_extends, some_change}
use Rattle.labelled_graph.proofs.Stores.{labels_stay, whole_stays}
use Rattle.labelled_graph.specs.Labels.{HasLabelAt, IsAt, IsAtRoot, IsCut}
use Rattle.labelled_graph.specs.declared.mark.Mark.{Mark}
use Rattle.labelled_graph.specs.declared.mark.PlacedMark.{PlacedMark}
use Rattle.labelled_graph.specs.working.ClassLists.{AreClassLists, class_mark_at, list_of}
use Rattle.labelled_graph.specs.working.Kept.{no_mark, object_mark, place_mark, root_mark}
use Rattle.labelled_graph.specs.working.MarkMaps.{MarkMap, found_at, mark_at}
use Rattle.labelled_graph.specs.working.MarkWords.{IsUnsaid, Says, SaysIfSome}
use Rattle.labelled_graph.specs.working.ObjectMarks.{own_mark_at}
use Rattle.labelled_graph.specs.working.Reads.{AreLabelsBelow, AreObjectMarks, class_of_object, row_place}
use Rattle.labelled_graph.specs.working.Saying.{AreMarks, IsMarked, Places, class_place, no_place, object_place}
use Rattle.labelled_graph.specs.working.Saying.{root_place}
use Rattle.labelled_graph.specs.working.Tabled.{HasNone}

-- ---- a store that grows

pub below_on : (old new : Store) (list : List Entry) → Extends old new → AreLabelsBelow list old.labels
    → AreLabelsBelow list new.labels
below_on old new list e h = subst (λ (n : ℕ). AreLabelsBelow list n) (sym e.labels_are) h

pub none_on : (old new : Store) → Extends old new → AreWithin old → HasNone old → HasNone new
none_on old new e within h = (labels_stay old new e 0 (within 0 h.1) ∙ h.0, whole_stays old new e 0 h.1)

marked_on : (old new : Store) (base list : List Entry) (base_at at : Place → Type 0) (m : Option Mark) → Extends old new
    → AreWithin old → IsMarked old base base_at list at m → IsMarked new base base_at list at m
marked_on old new base list base_at at None e within h = h
marked_on old new base list base_at at (Some m) e within h = says_extends old new (IsCut base base_at ⊎ IsCut list at)
    (λ l. HasLabelAt base l base_at ⊎ HasLabelAt list l at) m e within h

pub marks_on : (old new : Store) (base list : List Entry) (base_at at : Places) (m : MarkMap) → Extends old new
    → AreWithin old → AreMarks old base base_at list at m → AreMarks new base base_at list at m
marks_on old new base list base_at at m e within are = record {
  each = λ k i. marked_on old new base list (base_at k i) (at k i) (mark_at m k i) e within (are.each k i);
  low = are.low;
}

-- ---- an object's places are those of its class and its own

row_case : (g : ObjectGraph) (row : RowKey) (i id index : ℕ) → row_place g row i (places.Class id index)
    → (n : ℕ) × (row ≡ keys.Class n) × ((class_at g n).id ≡ id) × (i ≡ index)
row_case g (keys.Class n) i id index h = (n, refl, h.0, h.1)
row_case g (keys.Primitive t) i id index h = absurd h
row_case g keys.ClassObject i id index h = absurd h

no_object : (g : ObjectGraph) (row : RowKey) (i id index : ℕ) → row_place g row i (places.Object id index) → ⊥
no_object g (keys.Class n) i id index h = h
no_object g (keys.Primitive t) i id index h = h
no_object g keys.ClassObject i id index h = h

no_root : (g : ObjectGraph) (row : RowKey) (i index : ℕ) → row_place g row i (places.Root index) → ⊥
no_root g (keys.Class n) i index h = h
no_root g (keys.Primitive t) i index h = h
no_root g keys.ClassObject i index h = h

module _ (g : ObjectGraph) (o i : ℕ) where
  at_place : (p : Place) → IsAt g o i p → class_of_object g o i p ⊎ object_place g.ids o i p
  at_place (places.Class id index) h =
      inl (subst (λ (row : RowKey). row_place g row i (places.Class id index)) (sym h.1) (h.2, h.3))
  at_place (places.Object id index) h = inr h
  at_place (places.Root index) h = absurd h

  place_at : (p : Place) → class_of_object g o i p ⊎ object_place g.ids o i p → IsAt g o i p
  place_at (places.Class id index) h = ⊎_elim (λ x. row_case g (row_at g o) i id index x) (λ x. absurd x) h
  place_at (places.Object id index) h = ⊎_elim (λ x. absurd (no_object g (row_at g o) i id index x)) (λ x. x) h
  place_at (places.Root index) h = ⊎_elim (λ x. absurd (no_root g (row_at g o) i index x)) (λ x. absurd x) h

  module _ (list : List Entry) where
    all_cuts : (IsCut list (class_of_object g o i) ⊎ IsCut list (object_place g.ids o i)) ↔ IsCut list (IsAt g o i)
    all_cuts = (
      λ c. ⊎_elim (λ x. (x.0, x.1, place_at x.0 (inl x.2))) (λ x. (x.0, x.1, place_at x.0 (inr x.2))) c,
      λ c. ⊎_elim (λ x. inl (c.0, c.1, x)) (λ x. inr (c.0, c.1, x)) (at_place c.0 c.2),
    )

    all_labels : (l : ℕ) → (HasLabelAt list l (class_of_object g o i) ⊎ HasLabelAt list l (object_place g.ids o i))
        ↔ HasLabelAt list l (IsAt g o i)
    all_labels l = (
      λ c. ⊎_elim (λ x. (x.0, x.1, place_at x.0 (inl x.2))) (λ x. (x.0, x.1, place_at x.0 (inr x.2))) c,
      λ c. ⊎_elim (λ x. inl (c.0, c.1, x)) (λ x. inr (c.0, c.1, x)) (at_place c.0 c.2),
    )

-- ---- the mark of a place of which nothing is said

pub unlabelled : (store : Store) (l : ℕ) → HasNone store → Contains (labels_of store 0) l → ⊥
unlabelled store l none h =
    let in_none : Contains [] l = subst (λ (xs : List ℕ). Contains xs l) none.0 h in omega (arith, in_none.1)

unsaid_says : (store : Store) (cut : Type 0) (has : ℕ → Type 0) → HasNone store → IsUnsaid cut has
    → Says store cut has no_mark
unsaid_says store cut has none h = record {
  uncut = h.uncut;
  whole = none.1;
  exact = λ l. (λ x. absurd (unlabelled store l none x), λ x. absurd (h.none l x));
}

some_says : (store : Store) (cut : Type 0) (has : ℕ → Type 0) (c : Option Mark) → HasNone store
    → SaysIfSome store cut has c → Says store cut has (place_mark None c)
some_says store cut has None none h = unsaid_says store cut has none h
some_says store cut has (Some m) none h = h

unsome : (o : Option Mark) → ((m : Mark) → o ≡ Some m → ⊥) → o ≡ None
unsome None h = refl
unsome (Some m) h = absurd (h m refl)

-- ---- the mark of an object's place

module _ (store : Store) (list : List Entry) (class_at own_at : Place → Type 0) where
  abbrev Cut : Type 0
  Cut = IsCut list class_at ⊎ IsCut list own_at

  abbrev Has : ℕ → Type 0
  Has l = HasLabelAt list l class_at ⊎ HasLabelAt list l own_at

  class_only : (c : Option Mark) → IsMarked store list class_at list own_at None
      → SaysIfSome store (IsCut list class_at) (λ l. HasLabelAt list l class_at) c → SaysIfSome store Cut Has c
  class_only c h k = some_change store (IsCut list class_at) Cut (λ l. HasLabelAt list l class_at) Has c
      (inl, λ x. ⊎_elim (λ y. y) (λ y. absurd (h.uncut y)) x)
      (λ l. (inl, λ x. ⊎_elim (λ y. y) (λ y. absurd (h.none l y)) x)) k

  none_own : (has : Bool) (c : Option Mark) → HasNone store → SaysIfSome store Cut Has c
      → Says store Cut Has (place_mark (cond has None None) c)
  none_own true c none h = some_says store Cut Has c none h
  none_own false c none h = some_says store Cut Has c none h

  own_says : (has : Bool) (q c : Option Mark) → HasNone store → IsMarked store list class_at list own_at q
      → ((m : Mark) → q ≡ Some m → has ≡ true)
      → SaysIfSome store (IsCut list class_at) (λ l. HasLabelAt list l class_at) c
      → Says store Cut Has (place_mark (cond has q None) c)
  own_says has None c none h covered k = none_own has c none (class_only c h k)
  own_says true (Some m) c none h covered k = h
  own_says false (Some m) c none h covered k = let e : false ≡ true = covered m refl in absurd (cc)

class_low : (g : ObjectGraph) (marks : MarkMap) (row : RowKey) (i : ℕ) → 2 ^ 32 ≤ i
    → ((k j : ℕ) (m : Mark) → mark_at marks k j ≡ Some m → j < 2 ^ 32) → class_mark_at g marks row i ≡ None
class_low g marks (keys.Class n) i l low =
    unsome (mark_at marks (class_at g n).id i) (λ m e. let in' = low (class_at g n).id i m e in omega (arith, in', l))
class_low g marks (keys.Primitive t) i l low = refl
class_low g marks keys.ClassObject i l low = refl

module _ (store : Store) (g : ObjectGraph) (list : List Entry) (classes marks : MarkMap) (has : List Bool)
    (lists : List (List PlacedMark)) (none : HasNone store) (whole : IsWhole g)
    (class_are : AreMarks store [] no_place list class_place classes) (are_lists : AreClassLists g classes lists)
    (own_are : AreObjectMarks store g list marks has) (o i : ℕ) where
  abbrev row : RowKey
  row = row_at g o

  abbrev both_cut : Type 0
  both_cut = IsCut list (class_of_object g o i) ⊎ IsCut list (object_place g.ids o i)

  abbrev both_has : ℕ → Type 0
  both_has l = HasLabelAt list l (class_of_object g o i) ⊎ HasLabelAt list l (object_place g.ids o i)

  low_says : i < 2 ^ 32 → Says store both_cut both_has (object_mark lists marks has row o i)
  low_says l =
      let found : found_at (list_of lists row) i ≡ class_mark_at g classes row i =
      class_found g classes lists row i (row_in g o whole) are_lists l in
      let at : object_mark lists marks has row o i
      ≡ place_mark (own_mark_at marks has o i) (class_mark_at g classes row i) =
      cond-true (ltb i (2 ^ 32)) (place_mark (own_mark_at marks has o i) (found_at (list_of lists row) i)) no_mark
      (lt-ltb i (2 ^ 32) l)
      ∙ ap (place_mark (own_mark_at marks has o i)) found in
      subst (λ (m : Mark). Says store both_cut both_has m) (sym at)
      (own_says store list (class_of_object g o i) (object_place g.ids o i) (get_or has o false) (mark_at marks o i)
      (class_mark_at g classes row i) none (own_are.are.each o i) (own_are.covered o i)
      (class_says store g list classes row i class_are))

  high_says : 2 ^ 32 ≤ i → Says store both_cut both_has (object_mark lists marks has row o i)
  high_says l =
      let no_own : mark_at marks o i ≡ None =
      unsome (mark_at marks o i) (λ m e. let in' = own_are.are.low o i m e in omega (arith, in', l)) in
      let own : IsMarked store list (class_of_object g o i) list (object_place g.ids o i) None =
      subst (λ (q : Option Mark). IsMarked store list (class_of_object g o i) list (object_place g.ids o i) q) no_own
      (own_are.are.each o i) in
      let class : SaysIfSome store (IsCut list (class_of_object g o i)) (λ x. HasLabelAt list x
      (class_of_object g o i)) None =
      subst (λ (q : Option Mark). SaysIfSome store (IsCut list (class_of_object g o i))
      (λ x. HasLabelAt list x (class_of_object g o i)) q) (class_low g classes row i l class_are.low)
      (class_says store g list classes row i class_are) in
      subst (λ (m : Mark). Says store both_cut both_has m)
      (sym (limited_beyond (place_mark (own_mark_at marks has o i) (found_at (list_of lists row) i)) i l))
      (unsaid_says store both_cut both_has none
      (class_only store list (class_of_object g o i) (object_place g.ids o i) None own class))

  pub reads : Says store (IsCut list (IsAt g o i)) (λ l. HasLabelAt list l (IsAt g o i))
      (object_mark lists marks has row o i)
  reads = says_change store both_cut (IsCut list (IsAt g o i)) both_has (λ l. HasLabelAt list l (IsAt g o i))
      (object_mark lists marks has row o i) (all_cuts g o i list) (all_labels g o i list)
      (⊎_elim low_says high_says (cases_lt i (2 ^ 32)))

-- ---- the mark of a root

root_at : (k : ℕ) (p : Place) → root_place 0 k p → IsAtRoot k p
root_at k (places.Class id index) h = h
root_at k (places.Object id index) h = h
root_at k (places.Root index) h = h.1

at_root : (k : ℕ) (p : Place) → IsAtRoot k p → root_place 0 k p
at_root k (places.Class id index) h = h
at_root k (places.Object id index) h = h
at_root k (places.Root index) h = (refl, h)

module _ (store : Store) (list : List Entry) (marks : MarkMap) (none : HasNone store)
    (are : AreMarks store [] no_place list root_place marks) (k : ℕ) where
  root_says : SaysIfSome store (IsCut list (IsAtRoot k)) (λ l. HasLabelAt list l (IsAtRoot k)) (mark_at marks 0 k)
  root_says = some_change store (IsCut list (root_place 0 k)) (IsCut list (IsAtRoot k))
      (λ l. HasLabelAt list l (root_place 0 k)) (λ l. HasLabelAt list l (IsAtRoot k)) (mark_at marks 0 k)
      (λ c. (c.0, c.1, root_at k c.0 c.2), λ c. (c.0, c.1, at_root k c.0 c.2))
      (λ l. (λ c. (c.0, c.1, root_at k c.0 c.2), λ c. (c.0, c.1, at_root k c.0 c.2)))
      (baseless store list 0 k root_place (mark_at marks 0 k) (are.each 0 k))

  pub reads_root : Says store (IsCut list (IsAtRoot k)) (λ l. HasLabelAt list l (IsAtRoot k)) (root_mark marks k)
  reads_root = ⊎_elim
      (λ l. subst (λ (m : Mark). Says store (IsCut list (IsAtRoot k)) (λ x. HasLabelAt list x (IsAtRoot k)) m)
      (sym (cond-true (ltb k (2 ^ 32)) (place_mark None (mark_at marks 0 k)) no_mark (lt-ltb k (2 ^ 32) l)))
      (some_says store (IsCut list (IsAtRoot k)) (λ x. HasLabelAt list x (IsAtRoot k))
      (mark_at marks 0 k) none root_says))
      (λ l.
      let nothing : mark_at marks 0 k ≡ None =
      unsome (mark_at marks 0 k) (λ m e. let in' = are.low 0 k m e in omega (arith, in', l)) in
      subst (λ (m : Mark). Says store (IsCut list (IsAtRoot k)) (λ x. HasLabelAt list x (IsAtRoot k)) m)
      (sym (limited_beyond (place_mark None (mark_at marks 0 k)) k l))
      (unsaid_says store (IsCut list (IsAtRoot k)) (λ x. HasLabelAt list x (IsAtRoot k)) none
      (subst (λ (q : Option Mark). SaysIfSome store (IsCut list (IsAtRoot k)) (λ x. HasLabelAt list x (IsAtRoot k)) q)
      nothing root_says)))
      (cases_lt k (2 ^ 32))
