-- What the graph of a heap list says of a single object.
use Rattle.heap_graph.proofs.Words.{AreIdsIn, IsGraphOf, List, ObjectGraph, Record, RowKey, SkipEntry, Some, SubRecord}
use Rattle.heap_graph.proofs.Words.{[], ap, arith, bytes_at, bytes_of, get_or, get_or-map, get_or_from_slice_get}
use Rattle.heap_graph.proofs.Words.{heap_of, id_list_of, is_skipped, length, length-map, map, object_count, objects}
use Rattle.heap_graph.proofs.Words.{one_ids, references_of, row_at, row_of, slice_get, slice_get-get_or}
use Rattle.heap_graph.proofs.Words.{slice_get_within, slice_index, sym, targets, ℕ, ◌<◌, ◌∙◌, ◌≡◌}
use Rattle.heap_graph.specs.declared.row.RowKey.TheVariants as keys
use Rattle.heap_graph.proofs.Firsts.{slice_get_of}

pub here_is : {X Y : Type 0} (f : X → Y) (xs : List X) (n : ℕ) (x : X) (e : Y) → slice_get xs n ≡ Some x
    → get_or (map f xs) n e ≡ f x
here_is f xs n x e is = get_or-map f xs n x e (slice_get_within xs n x is) ∙ ap f (get_or_from_slice_get xs n x x is)

module _ {s : ℕ} {records : List Record} {skip : List SkipEntry} {g : ObjectGraph}
    (graph : IsGraphOf s records skip g) where
  pub count_of : object_count g ≡ length (objects (heap_of records))
  count_of =
      ap length graph.references_are ∙ length-map g.id_lists (targets (heap_of records)) ∙ graph.id_lists_are.one_each

  pub one_of : (n : ℕ) → n < object_count g → (o : SubRecord) × (slice_get (objects (heap_of records)) n ≡ Some o)
  one_of n h = slice_get_of (objects (heap_of records)) n (omega (arith, h, count_of))

  module _ (n : ℕ) (o : SubRecord) (is : slice_get (objects (heap_of records)) n ≡ Some o) where
    pub row_here : row_at g n ≡ row_of (heap_of records) o
    row_here = ap (λ (rs : List RowKey). get_or rs n keys.ClassObject) graph.rows_are
        ∙ here_is (row_of (heap_of records)) (objects (heap_of records)) n o keys.ClassObject is

    pub bytes_here : bytes_at g n ≡ bytes_of s o
    bytes_here = ap (λ (bs : List ℕ). slice_index bs n) graph.bytes_are
        ∙ here_is (bytes_of s) (objects (heap_of records)) n o 0 is

    id_list_get : slice_get g.id_lists n ≡ Some (id_list_of g n)
    id_list_get =
        let below = slice_get_within (objects (heap_of records)) n o is in
        slice_get-get_or g.id_lists n [] (omega (arith, graph.id_lists_are.one_each, below))

    pub ids_here : (ids : List ℕ) → AreIdsIn (is_skipped records skip) s (heap_of records) o ids → ids ≡ id_list_of g n
    ids_here ids are = one_ids (is_skipped records skip) s (heap_of records) o ids (id_list_of g n) are
        (graph.id_lists_are.each n o (id_list_of g n) is id_list_get)

    pub references_here : (ids : List ℕ) → AreIdsIn (is_skipped records skip) s (heap_of records) o ids
        → targets (heap_of records) ids ≡ references_of g n
    references_here ids are =
        ap (targets (heap_of records)) (ids_here ids are)
        ∙ sym (ap (λ (xs : List (List ℕ)). get_or xs n []) graph.references_are
        ∙ here_is (targets (heap_of records)) g.id_lists n (id_list_of g n) [] id_list_get)
