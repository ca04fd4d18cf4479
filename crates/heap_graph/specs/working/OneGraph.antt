-- A text has at most one graph: the text determines its records, the chain of each class, and the identifiers that each
-- object holds. The ghost field of `Graph` rests on this law, so the law is here and not among the proofs.
use Rattle.std.proofs.Common.{Bool, ◌≡◌, ℕ, suc, List, [], ◌∷◌, length, map, Some, None, slice_get, refl, sym, ap}
use Rattle.std.proofs.Common.{subst, ◌∙◌, arith}
use Rattle.hprof_grammar.specs.Record.{Record}
use Rattle.hprof_grammar.specs.SubRecord.{Class, Member, SubRecord}
use Rattle.hprof_grammar.specs.SubRecord.SubRecord.{class_dump, instance_dump, object_array_dump, primitive_array_dump}
use Rattle.hprof_grammar.specs.SubRecord.SubRecord.{root}
use Rattle.hprof_grammar.proofs.OneDump.{one_list}
use Rattle.heap_graph.specs.Heap.{class_named, heap_of, objects}
use Rattle.heap_graph.specs.Layout.{IsChain}
use Rattle.heap_graph.specs.ObjectGraph.{IsGraphOf, IsGraphOfText, ObjectGraph, unresolved_in}
use Rattle.heap_graph.specs.References.{AreIdLists, AreIdsIn, instance_ids, targets}
use Rattle.heap_graph.specs.Skips.{SkipEntry, is_skipped}

-- identifier 0 names no class
no_class : (heap : List SubRecord) (id : ℕ) (c : Class) → id ≡ 0 → class_named heap id ≡ Some c → ⊥
no_class heap id c zero_id named =
    let none : None ≡ Some c = subst (λ i. class_named heap i ≡ Some c) zero_id named in
    cc

-- a class has only one chain of superclasses
pub one_chain : (heap : List SubRecord) (id : ℕ) (cs ds : List Class) → IsChain heap id cs → IsChain heap id ds
    → cs ≡ ds
one_chain heap id [] [] h k = refl
one_chain heap id [] (d ∷ ds) h k = absurd (no_class heap id d h k.0)
one_chain heap id (c ∷ cs) [] h k = absurd (no_class heap id c k h.0)
one_chain heap id (c ∷ cs) (d ∷ ds) h k =
    let both : Some c ≡ Some d = sym h.0 ∙ k.0 in
    let same : c ≡ d = cc in
    let above : IsChain heap c.super ds = subst (λ (x : Class). IsChain heap x.super ds) (sym same) k.1 in
    let rest : cs ≡ ds = one_chain heap c.super cs ds h.1 above in
    λ i. same i ∷ rest i

-- an object holds only one list of identifiers
pub one_ids : (skips : Class → Member → Bool) (s : ℕ) (heap : List SubRecord) (o : SubRecord) (ids others : List ℕ)
    → AreIdsIn skips s heap o ids
    → AreIdsIn skips s heap o others → ids ≡ others
one_ids skips s heap (root r) ids others h k = h ∙ sym k
one_ids skips s heap (class_dump c) ids others h k = h ∙ sym k
one_ids skips s heap (instance_dump i) ids others h k =
    h.2 ∙ ap (instance_ids skips s i) (one_chain heap i.class h.0 k.0 h.1 k.1) ∙ sym k.2
one_ids skips s heap (object_array_dump a) ids others h k = h ∙ sym k
one_ids skips s heap (primitive_array_dump a) ids others h k = h ∙ sym k

-- `P` relates each element to at most one value. So two lists are equal if `P` relates the same list to both, position
-- by position.
module _ {O X : Type 0} (P : O → X → Type 0) (one : (o : O) (x y : X) → P o x → P o y → x ≡ y) where
  same_each :
      (os : List O) (xs ys : List X) → length xs ≡ length os → length ys ≡ length os
      → ((n : ℕ) (o : O) (x : X) → slice_get os n ≡ Some o → slice_get xs n ≡ Some x → P o x)
      → ((n : ℕ) (o : O) (y : X) → slice_get os n ≡ Some o → slice_get ys n ≡ Some y → P o y) → xs ≡ ys
  same_each [] [] [] h k p q = refl
  same_each [] (x ∷ xs) ys h k p q = absurd (omega (arith, h))
  same_each [] [] (y ∷ ys) h k p q = absurd (omega (arith, k))
  same_each (o ∷ os) [] ys h k p q = absurd (omega (arith, h))
  same_each (o ∷ os) (x ∷ xs) [] h k p q = absurd (omega (arith, k))
  same_each (o ∷ os) (x ∷ xs) (y ∷ ys) h k p q =
      let first = one o x y (p 0 o x refl refl) (q 0 o y refl refl) in
      let rest = same_each os xs ys (omega (arith, h)) (omega (arith, k)) (λ n a b at here. p (suc n) a b at here)
      (λ n a b at here. q (suc n) a b at here) in
      λ i. first i ∷ rest i

one_id_lists : (skips : Class → Member → Bool) (s : ℕ) (heap : List SubRecord) (xs ys : List (List ℕ))
    → AreIdLists skips s heap xs → AreIdLists skips s heap ys → xs ≡ ys
one_id_lists skips s heap xs ys h k =
    same_each (AreIdsIn skips s heap) (one_ids skips s heap) (objects heap) xs ys h.one_each k.one_each h.each k.each

one_graph_of : (s : ℕ) (records : List Record) (skip : List SkipEntry) (g h : ObjectGraph)
    → IsGraphOf s records skip g → IsGraphOf s records skip h → g ≡ h
one_graph_of s records skip g h p q =
    let heap = heap_of records in
    let lists = one_id_lists (is_skipped records skip) s heap g.id_lists h.id_lists p.id_lists_are q.id_lists_are in
    λ i. record {
      ids = (p.ids_are ∙ sym q.ids_are) i;
      id_lists = lists i;
      references = (p.references_are ∙ ap (map (targets heap)) lists ∙ sym q.references_are) i;
      root_names = (p.root_names_are ∙ sym q.root_names_are) i;
      roots = (p.roots_are ∙ sym q.roots_are) i;
      rows = (p.rows_are ∙ sym q.rows_are) i;
      bytes = (p.bytes_are ∙ sym q.bytes_are) i;
      classes = (p.classes_are ∙ sym q.classes_are) i;
      unresolved = (p.unresolved_is ∙ ap (unresolved_in heap) lists ∙ sym q.unresolved_is) i;
    }

pub one_graph : (text : List ℕ) (skip : List SkipEntry) (g h : ObjectGraph) → IsGraphOfText text skip g
    → IsGraphOfText text skip h → g ≡ h
one_graph text skip g h p q =
    let one = one_list text p.id_size q.id_size p.records q.records p.accepted.spells q.accepted.spells in
    let other = subst (λ (rs : List Record). IsGraphOf q.id_size rs skip h) (sym one.1) q.graph in
    one_graph_of p.id_size p.records skip g h p.graph
    (subst (λ (s : ℕ). IsGraphOf s p.records skip h) (sym one.0) other)
