-- What the table of classes says of an object's identifiers.
use Rattle.std.proofs.Common.{List, None, Option, Some, [], arith, inr, subst, sym, ℕ, ⊎_elim, ◌<◌, ◌≡◌, ◌⊎◌, ◌^◌, refl}
use Rattle.std.proofs.lemmas.Bool.{cases_lt}
use Rattle.std.proofs.lemmas.List.{get_or_past}
use Rattle.heap_graph.specs.ObjectGraph.{ObjectGraph, class_at, object_count, row_at}
use Rattle.heap_graph.specs.Whole.{IsRowIn, IsWhole}
use Rattle.heap_graph.specs.declared.row.RowKey.{RowKey}
use Rattle.heap_graph.specs.declared.row.RowKey.TheVariants as keys
use Rattle.label_list.specs.declared.entry.Entry.{Entry}
use Rattle.label_sets.specs.Sets.{Extends, Store}
use Rattle.labelled_graph.proofs.Marking.{cut_none, label_none}
use Rattle.labelled_graph.proofs.Says.{AreWithin, says_change, says_extends}
use Rattle.labelled_graph.specs.Labels.{HasLabelAt, IsCut}
use Rattle.labelled_graph.specs.declared.mark.Mark.{Mark}
use Rattle.labelled_graph.specs.declared.mark.PlacedMark.{PlacedMark}
use Rattle.labelled_graph.specs.working.ClassLists.{AreClassLists, class_mark_at, list_of}
use Rattle.labelled_graph.specs.working.MarkMaps.{MarkMap, found_at, mark_at}
use Rattle.labelled_graph.specs.working.MarkWords.{SaysIfSome}
use Rattle.labelled_graph.specs.working.Reads.{class_of_object, row_place}
use Rattle.labelled_graph.specs.working.Saying.{AreMarks, IsMarked, Places, class_place, no_place}

pub some_extends : (old new : Store) (cut : Type 0) (has : ℕ → Type 0) (m : Option Mark) → Extends old new
    → AreWithin old
    → SaysIfSome old cut has m → SaysIfSome new cut has m
some_extends old new cut has None e within h = h
some_extends old new cut has (Some m) e within h = says_extends old new cut has m e within h

-- without a base, a mark says what the list says
pub baseless : (store : Store) (list : List Entry) (k i : ℕ) (at : Places) (m : Option Mark)
    → IsMarked store [] (no_place k i) list (at k i) m
    → SaysIfSome store (IsCut list (at k i)) (λ l. HasLabelAt list l (at k i)) m
baseless store list k i at None h = h
baseless store list k i at (Some m) h = says_change store (IsCut [] (no_place k i) ⊎ IsCut list (at k i))
    (IsCut list (at k i))
    (λ l. HasLabelAt [] l (no_place k i) ⊎ HasLabelAt list l (at k i)) (λ l. HasLabelAt list l (at k i)) m
    (λ c. ⊎_elim (λ x. absurd (cut_none (no_place k i) x)) (λ x. x) c, inr)
    (λ l. (λ c. ⊎_elim (λ x. absurd (label_none (no_place k i) l x)) (λ x. x) c, inr)) h

-- the mark of a row's class says what the list says of the row's places
pub class_says : (store : Store) (g : ObjectGraph) (list : List Entry) (classes : MarkMap) (row : RowKey) (i : ℕ)
    → AreMarks store [] no_place list class_place classes
    → SaysIfSome store (IsCut list (row_place g row i)) (λ l. HasLabelAt list l (row_place g row i))
    (class_mark_at g classes row i)
class_says store g list classes (keys.Class n) i are =
    baseless store list (class_at g n).id i class_place (mark_at classes (class_at g n).id i) (are.each
    (class_at g n).id i)
class_says store g list classes (keys.Primitive t) i are = record { uncut = λ c. c.2; none = λ l c. c.2 }
class_says store g list classes keys.ClassObject i are = record { uncut = λ c. c.2; none = λ l c. c.2 }

pub base_says : (begun store : Store) (g : ObjectGraph) (list : List Entry) (classes : MarkMap) (o i : ℕ)
    (b : Option Mark)
    → Extends begun store → AreWithin begun → AreMarks begun [] no_place list class_place classes
    → b ≡ class_mark_at g classes (row_at g o) i
    → SaysIfSome store (IsCut list (class_of_object g o i)) (λ l. HasLabelAt list l (class_of_object g o i)) b
base_says begun store g list classes o i b extends within are is =
    subst (λ (m : Option Mark). SaysIfSome store (IsCut list (class_of_object g o i)) (λ l. HasLabelAt list l
    (class_of_object g o i)) m)
    (sym is)
    (some_extends begun store (IsCut list (class_of_object g o i)) (λ l. HasLabelAt list l (class_of_object g o i))
    (class_mark_at g classes (row_at g o) i) extends within (class_says begun g list classes (row_at g o) i are))

-- each row is one that the graph has
pub row_in : (g : ObjectGraph) (o : ℕ) → IsWhole g → IsRowIn g (row_at g o)
row_in g o whole = ⊎_elim (λ l. whole.rows_within o l)
    (λ l.
    let past : row_at g o ≡ keys.ClassObject = get_or_past g.rows o keys.ClassObject (omega
    (arith, l, whole.row_each)) in
    subst (λ (row : RowKey). IsRowIn g row) (sym past) tt)
    (cases_lt o (object_count g))

-- an index is found in the list of a row's class exactly if the class has a mark there
pub class_found : (g : ObjectGraph) (classes : MarkMap) (lists : List (List PlacedMark)) (row : RowKey) (i : ℕ)
    → IsRowIn g row → AreClassLists g classes lists → i < 2 ^ 32
    → found_at (list_of lists row) i ≡ class_mark_at g classes row i
class_found g classes lists (keys.Class n) i within are l = (are n within).same i l
class_found g classes lists (keys.Primitive t) i within are l = refl
class_found g classes lists keys.ClassObject i within are l = refl
