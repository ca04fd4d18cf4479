-- What the objects miss and what the roots miss add up to the number in the histogram.
use Rattle.heap_graph.proofs.Words.{Bool, Class, IsGraphOf, List, Member, ObjectGraph, Record, SkipEntry, SubRecord, []}
use Rattle.heap_graph.proofs.Words.{ap, arith, cases_lt, concat, cond, count_by, get_or, get_or_past, heap_of}
use Rattle.heap_graph.proofs.Words.{is_unresolved, is_unresolved_in, length, object_count, objects, range_with_len}
use Rattle.heap_graph.proofs.Words.{refl, root_ids, slice_get-get_or, suc, sum_by, sum_by-append, sum_by-cons, sym}
use Rattle.heap_graph.proofs.Words.{unresolved_among, unresolved_roots, zero, ℕ, ⊎_elim, ◌+◌, ◌^◌, ◌∙◌, ◌∷◌, ◌≡◌, ◌≤◌}
use Rattle.heap_graph.proofs.Firsts.{slice_get_of}
use Rattle.heap_graph.proofs.IdLists.{HaveIdLists}
use Rattle.heap_graph.proofs.TargetLaws.{same_unresolved}

-- ---- a sum over lists, by their numbers

count-concat : (p : ℕ → Bool) (lists : List (List ℕ))
    → count_by p (concat lists) ≡ sum_by (λ (ids : List ℕ). count_by p ids) lists
count-concat p [] = refl
count-concat p (ids ∷ lists) =
    omega (
      arith,
      sum_by-append (λ x. cond (p x) 1 0) ids (concat lists),
      count-concat p lists,
      sum_by-cons (count_by p) ids lists,
    )

sum-later : (f : ℕ → ℕ) (a n : ℕ) → sum_by f (range_with_len (a + 1) n) ≡ sum_by (λ o. f (suc o)) (range_with_len a n)
sum-later f a zero = refl
sum-later f a (suc n) =
    let next : a + 1 ≡ suc a = omega arith in
    omega (
      arith,
      sum_by-cons f (a + 1) (range_with_len (a + 1 + 1) n),
      sum-later f (a + 1) n,
      ap f next,
      sum_by-cons (λ o. f (suc o)) a (range_with_len (a + 1) n),
    )

pub sum-by_number : (f : List ℕ → ℕ) (lists : List (List ℕ))
    → sum_by f lists ≡ sum_by (λ o. f (get_or lists o [])) (range_with_len 0 (length lists))
sum-by_number f [] = refl
sum-by_number f (ids ∷ lists) =
    omega (
      arith,
      sum_by-cons f ids lists,
      sum-by_number f lists,
      sum-later (λ o. f (get_or (ids ∷ lists) o [])) 0 (length lists),
      sum_by-cons (λ o. f (get_or (ids ∷ lists) o [])) 0 (range_with_len (0 + 1) (length lists)),
    )

-- ---- objects and roots

module _ {s : ℕ} {records : List Record} {skip : List SkipEntry} {g : ObjectGraph}
    (graph : IsGraphOf s records skip g) where
  pub roots_unresolved : unresolved_roots g ≡ count_by (is_unresolved (heap_of records)) (root_ids (heap_of records))
  roots_unresolved =
      same_unresolved (heap_of records) g.ids g.root_names graph.ids_are
      ∙ ap (count_by (is_unresolved (heap_of records))) graph.root_names_are

  objects_unresolved : count_by (is_unresolved (heap_of records)) (concat g.id_lists)
      ≡ unresolved_among g (range_with_len 0 (length g.id_lists))
  objects_unresolved =
      sym (same_unresolved (heap_of records) g.ids (concat g.id_lists) graph.ids_are)
      ∙ count-concat (is_unresolved_in g.ids) g.id_lists ∙ sum-by_number (count_by (is_unresolved_in g.ids)) g.id_lists

  pub parts_unresolved : length g.id_lists ≡ object_count g
      → g.unresolved ≡ unresolved_among g (range_with_len 0 (object_count g)) + unresolved_roots g
  parts_unresolved each =
      let heap = heap_of records in
      omega (
        arith,
        graph.unresolved_is,
        sum_by-append (λ x. cond (is_unresolved heap x) 1 0) (concat g.id_lists) (root_ids heap),
        objects_unresolved,
        ap (λ (n : ℕ). unresolved_among g (range_with_len 0 n)) each,
        roots_unresolved,
      )

-- ---- no list is too long

pub few_in_lists : {skips : Class → Member → Bool} {s : ℕ} {heap : List SubRecord} (have : HaveIdLists skips s heap)
    (n : ℕ) → length (get_or have.lists n []) ≤ 2 ^ 33
few_in_lists {heap = heap} have n = ⊎_elim
    (λ l.
    let object = slice_get_of (objects heap) n (omega (arith, l, have.one_each)) in
    (have.each n object.0 (get_or have.lists n []) object.1 (slice_get-get_or have.lists n [] l)).few)
    (λ l. omega (arith, ap length (get_or_past have.lists n [] l)))
    (cases_lt n (length have.lists))
