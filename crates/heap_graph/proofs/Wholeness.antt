-- The graph of a linked heap list is whole.
use Rattle.heap_graph.proofs.Words.{All, All-cons, AreLinked, Bool, Class, IsGraphOf, IsLinked, IsRowIn, IsSubRecord}
use Rattle.heap_graph.proofs.Words.{IsWhole, List, None, ObjectGraph, Option, Record, RowKey, Sight, SkipEntry, Some}
use Rattle.heap_graph.proofs.Words.{Stands, SubRecord, TooLarge, UnknownClass, [], ap, arith, as_class, bytes_at}
use Rattle.heap_graph.proofs.Words.{bytes_of, cases_lt, class_count, class_dump, class_dumps, class_named, class_number}
use Rattle.heap_graph.proofs.Words.{cond, cons_option, count_by-le-length, eq-eqb, fails_before_first, false}
use Rattle.heap_graph.proofs.Words.{filter_map, get_or, get_or_from_slice_get, get_or_past, heap_of, id_list_of, id_of}
use Rattle.heap_graph.proofs.Words.{instance_dump, is_object, is_unresolved_in, length, length-map, limit, map}
use Rattle.heap_graph.proofs.Words.{most_objects, named_in, number_named, object_array_dump, object_count, objects}
use Rattle.heap_graph.proofs.Words.{position_or_len, primitive_array_dump, references_of, refl, root, root_ids, row_of}
use Rattle.heap_graph.proofs.Words.{slice_get, slice_get-get_or, slice_get_within, spelling_of, subst, suc, sym}
use Rattle.heap_graph.proofs.Words.{target_of, targets, true, zero, ℕ, ⊎_elim, ◌+◌, ◌<◌, ◌==◌, ◌^◌, ◌∙◌, ◌∷◌, ◌≡◌, ◌≤◌}
use Rattle.heap_graph.proofs.Answering.{bytes_here, count_of, row_here}
use Rattle.heap_graph.proofs.Firsts.{position_hit}
use Rattle.heap_graph.proofs.Linking.{class_there}
use Rattle.heap_graph.proofs.UnresolvedLaws.{parts_unresolved}
use Rattle.heap_graph.proofs.Sizes.{array_type_range, bytes_width}
use Rattle.heap_graph.proofs.Standings.{there}

-- ---- an object that is named exists

target_if : (heap : List SubRecord) (id : ℕ) (b : Bool) (t : ℕ) → cond b None (number_named heap id) ≡ Some t
    → t < length (objects heap)
target_if heap id true t h = absurd (let wrong : None ≡ Some t = h in cc)
target_if heap id false t h = (position_hit (λ o. id_of o == id) (objects heap) t h).below

kept_within : (heap : List SubRecord) (o : Option ℕ) (rest : List ℕ)
    → ((t : ℕ) → o ≡ Some t → t < length (objects heap)) → All (λ t. t < length (objects heap)) rest
    → All (λ t. t < length (objects heap)) (cons_option o rest)
kept_within heap None rest here all = all
kept_within heap (Some t) rest here all = All-cons (λ t. t < length (objects heap)) t rest (here t refl) all

pub targets_within : (heap : List SubRecord) (ids : List ℕ) → All (λ t. t < length (objects heap)) (targets heap ids)
targets_within heap [] = λ k d h. absurd (omega (arith, h))
targets_within heap (id ∷ ids) =
    kept_within heap (target_of heap id) (targets heap ids) (λ t h. target_if heap id (id == 0) t h)
    (targets_within heap ids)

-- ---- the classes among the objects

same_classes_if : (o : SubRecord) (rest : List SubRecord) (b : Bool) → is_object o ≡ b
    → filter_map as_class (cond b (o ∷ rest) rest) ≡ cons_option (as_class o) (filter_map as_class rest)
same_classes_if o rest true e = refl
same_classes_if (root r) rest false e = refl
same_classes_if (class_dump c) rest false e = absurd (cc e)
same_classes_if (instance_dump i) rest false e = absurd (cc e)
same_classes_if (object_array_dump a) rest false e = absurd (cc e)
same_classes_if (primitive_array_dump a) rest false e = absurd (cc e)

pub same_classes : (heap : List SubRecord) → filter_map as_class (objects heap) ≡ class_dumps heap
same_classes [] = refl
same_classes (o ∷ rest) = same_classes_if o (objects rest) (is_object o) refl
    ∙ ap (λ (cs : List Class). cons_option (as_class o) cs) (same_classes rest)

few_kept : (o : Option Class) (rest : List Class) (n : ℕ) → length rest ≤ n → length (cons_option o rest) ≤ 1 + n
few_kept None rest n h = omega (arith, h)
few_kept (Some c) rest n h = omega (arith, h)

pub few_classes : (os : List SubRecord) → length (filter_map as_class os) ≤ length os
few_classes [] = omega arith
few_classes (o ∷ os) =
    let h = few_kept (as_class o) (filter_map as_class os) (length os) (few_classes os) in omega (arith, h)

-- a class among the objects has a number
found_at : {X : Type 0} (p : X → Bool) (xs : List X) (n : ℕ) (x : X) → slice_get xs n ≡ Some x → p x ≡ true
    → position_or_len p xs < length xs
found_at p xs n x is passes = ⊎_elim (λ l. l)
    (λ l.
    let before : n < position_or_len p xs = omega (arith, l, slice_get_within xs n x is) in
    let no : p x ≡ false = ap p (sym (get_or_from_slice_get xs n x x is)) ∙ fails_before_first p xs n x before in
    absurd cc)
    (cases_lt (position_or_len p xs) (length xs))

kept_if : (k : Option Class) (cs : List Class) (n : ℕ) (c : Class) → slice_get cs n ≡ Some c
    → (m : ℕ) × (slice_get (cons_option k cs) m ≡ Some c)
kept_if None cs n c is = (n, is)
kept_if (Some d) cs n c is = (suc n, is)

kept : (os : List SubRecord) (n : ℕ) (c : Class) → slice_get os n ≡ Some (class_dump c)
    → (k : ℕ) × (slice_get (filter_map as_class os) k ≡ Some c)
kept [] n c h = absurd (let wrong : None ≡ Some (class_dump c) = h in cc)
kept (o ∷ os) zero c h =
    let same : class_dump c ≡ o = (let both : Some o ≡ Some (class_dump c) = h in cc) in
    (0, ap (λ (x : SubRecord). slice_get (filter_map as_class (x ∷ os)) 0) (sym same))
kept (o ∷ os) (suc n) c h =
    let k = kept os n c h in kept_if (as_class o) (filter_map as_class os) k.0 c k.1

pub class_number_below : (heap : List SubRecord) (id : ℕ) (c : Class) → class_named heap id ≡ Some c
    → class_number heap id < length (class_dumps heap)
class_number_below heap id c named =
    let it = class_there heap id c named in
    let at = kept (objects heap) it.number c it.is in
    subst (λ (cs : List Class). position_or_len (λ d. d.object == id) cs < length cs) (same_classes heap)
    (found_at (λ (d : Class). d.object == id) (filter_map as_class (objects heap)) at.0 c at.1
    (eq-eqb c.object id it.id_is))

-- the class of an object that has one exists
pub known_if : (heap : List SubRecord) (id : ℕ) (k : Option Class) → class_named heap id ≡ k
    → (class_named heap id ≡ None → ⊥) → class_number heap id < length (class_dumps heap)
known_if heap id None e known = absurd (known e)
known_if heap id (Some c) e known = class_number_below heap id c e

row_there : (s : ℕ) (heap : List SubRecord) (n : ℕ) (o : SubRecord) (g : ObjectGraph)
    → class_count g ≡ length (class_dumps heap) → IsLinked s heap → slice_get (objects heap) n ≡ Some o
    → IsSubRecord s o → IsRowIn g (row_of heap o)
row_there s heap n (root r) g e linked is sub = tt
row_there s heap n (class_dump c) g e linked is sub = tt
row_there s heap n (instance_dump i) g e linked is sub =
    let known = λ (none : class_named heap i.class ≡ None). linked n UnknownClass (instance_dump i, is, none) in
    omega (arith, e, known_if heap i.class (class_named heap i.class) refl known)
row_there s heap n (object_array_dump a) g e linked is sub =
    let known = λ (none : class_named heap a.class ≡ None). linked n UnknownClass (object_array_dump a, is, none) in
    omega (arith, e, known_if heap a.class (class_named heap a.class) refl known)
row_there s heap n (primitive_array_dump a) g e linked is sub = array_type_range a.type sub.allowed.1.1.1.0

-- ---- the whole graph

abbrev no_class : Class
no_class = record {
  object = 0;
  stack = 0;
  super = 0;
  loader = 0;
  signers = 0;
  domain = 0;
  reserved = 0;
  reserved_too = 0;
  instance_size = 0;
  constants = [];
  statics = [];
  members = [];
}

pub few_objects : (s : ℕ) (heap : List SubRecord) → IsLinked s heap → length (objects heap) ≤ most_objects
few_objects s heap linked =
    ⊎_elim (λ l. absurd (linked most_objects TooLarge (
      get_or (objects heap) most_objects (class_dump no_class),
      slice_get-get_or (objects heap) most_objects (class_dump no_class) l,
      omega arith,
    )))
    (λ l. l) (cases_lt most_objects (length (objects heap)))

refs_within : (heap : List SubRecord) (lists : List (List ℕ)) (o : ℕ)
    → All (λ t. t < length (objects heap)) (get_or (map (targets heap) lists) o [])
refs_within heap [] o = targets_within heap []
refs_within heap (ids ∷ lists) zero = targets_within heap ids
refs_within heap (ids ∷ lists) (suc o) = refs_within heap lists o

pub is_whole : (v : Sight) (places ids : List ℕ) (records : List Record) (skip : List SkipEntry) (g : ObjectGraph)
    → AreLinked v places ids (heap_of records)
    → ((at : ℕ) (sub : SubRecord) → Stands v at sub → at + length (spelling_of v.id_size sub) ≤ length v.bytes)
    → ((n : ℕ) → length (id_list_of g n) ≤ 2 ^ 33) → length (root_ids (heap_of records)) ≤ limit → IsGraphOf v.id_size
    records skip g → IsWhole g
is_whole v places ids records skip g linked within few few_roots graph =
    let heap : List SubRecord = heap_of records in
    let count : object_count g ≡ length (objects heap) = count_of graph in
    let class_total : class_count g ≡ length (class_dumps heap) =
    ap length graph.classes_are ∙ length-map (class_dumps heap) (named_in records) in
    record {
      id_each = ap length graph.ids_are ∙ length-map (objects heap) id_of ∙ sym count;
      id_list_each = graph.id_lists_are.one_each ∙ sym count;
      row_each = ap length graph.rows_are ∙ length-map (objects heap) (row_of heap) ∙ sym count;
      bytes_each = ap length graph.bytes_are ∙ length-map (objects heap) (bytes_of v.id_size) ∙ sym count;
      few_objects = omega (arith, few_objects v.id_size heap linked.linked, count);
      few_classes = omega (arith, class_total, count, few_classes (objects heap), ap length (same_classes heap));
      roots_within = subst (λ (n : ℕ). All (λ o. o < n) g.roots) (sym count)
          (subst (λ (xs : List ℕ). All (λ t. t < length (objects heap)) xs) (sym graph.roots_are)
          (targets_within heap (root_ids heap)));
      references_within = λ o. subst (λ (n : ℕ). All (λ b. b < n) (references_of g o)) (sym count)
          (subst (λ (xs : List (List ℕ)). All (λ t. t < length (objects heap)) (get_or xs o []))
          (sym graph.references_are) (refs_within heap g.id_lists o));
      rows_within = λ o h.
          let it = there v places ids heap o linked.are (omega (arith, h, count, linked.are.stand.count)) in
          subst (λ (r : RowKey). IsRowIn g r) (sym (row_here graph o it.object it.is))
          (row_there v.id_size heap o it.object g class_total linked.linked it.is it.stands.is);
      few_bytes = λ o. ⊎_elim
          (λ l.
          let it = there v places ids heap o linked.are (omega (arith, l, linked.are.stand.count)) in
          omega (
            arith,
            bytes_here graph o it.object it.is,
            bytes_width v.id_size it.object it.stands.is,
            within (get_or places o 0) it.object it.stands,
            linked.short,
          ))
          (λ l.
          let none : bytes_at g o ≡ 0 = get_or_past g.bytes o 0
          (omega (arith, ap length graph.bytes_are, length-map (objects heap) (bytes_of v.id_size), l)) in
          omega (arith, none))
          (cases_lt o (length (objects heap)));
      few_unresolved = λ o. omega (arith, count_by-le-length (is_unresolved_in g.ids) (id_list_of g o), few o);
      few_unresolved_roots = omega (
        arith,
        count_by-le-length (is_unresolved_in g.ids) g.root_names,
        ap length graph.root_names_are,
        few_roots,
      );
      both_parts = parts_unresolved graph (graph.id_lists_are.one_each ∙ sym count);
    }
