-- The marks at the close are exactly at the reachable objects.
use Rattle.drain.proofs.Words.{Book, Contains, Owner, IsMarked, IsReachable, IsReferenceOf, IsRootOf, IsSetupOf, List}
use Rattle.drain.proofs.Words.{Marking, MarksReachableOf, MarksTell, ObjectGraph, SawRoots, Setup, [], ap, arith, false}
use Rattle.drain.proofs.Words.{false≢true, is_set, le-leb, leb-true, length-map, map, new_book, object_count, pairs_of}
use Rattle.drain.proofs.Words.{slice_index, subst, suc, sym, zero, ℕ, ◌↔◌, ◌∙◌, ◌∷◌, ◌≡◌, ◌≤◌}
use Rattle.mark_core.specs.Colours as colours
use Rattle.drain.proofs.Exact.{exactly_reachable, next_reachable, root_reachable}
use Rattle.drain.proofs.Pairs.{pair_is_reference}

-- a mark that is set is at least that of a claimed object
pub marked_where_set : (marks : List ℕ) (o : ℕ) → IsMarked (map is_set marks) o ↔ (1 ≤ slice_index marks o)
marked_where_set [] o = (λ h. absurd (false≢true h), λ h. absurd (omega (arith, h)))
marked_where_set (m ∷ marks) zero = (leb-true 1 m, le-leb 1 m)
marked_where_set (m ∷ marks) (suc o) = marked_where_set marks o

-- the setup of a book with which a pool for this graph opened
pub opened_setup : (g : ObjectGraph) (buffers size first_tag units : ℕ) (b : Book)
    → let e : Setup = record {
      objects = object_count g;
      buffers = buffers;
      size = size;
      first_tag = first_tag;
      roots = g.roots;
      pairs = pairs_of g;
    } in
    b ≡ new_book e units
    → IsSetupOf (object_count g) g.roots (pairs_of g) b.setup
opened_setup g buffers size first_tag units b is = record {
  objects = ap (λ (c : Book). c.setup.objects) is;
  roots = ap (λ (c : Book). c.setup.roots) is;
  pairs = ap (λ (c : Book). c.setup.pairs) is;
}

module _ (g : ObjectGraph) (e : Setup) (setup : IsSetupOf (object_count g) g.roots (pairs_of g) e) where
  -- a path of the setup is one of the graph
  pub path_there : (back : List ℕ) (o : ℕ) → colours.IsPathTo e back o → IsReachable (IsRootOf g) (IsReferenceOf g) o
  path_there [] o root = root_reachable (IsRootOf g) (IsReferenceOf g) o
      (subst (λ (rs : List ℕ). Contains rs o) setup.roots root)
  path_there (p ∷ back) o leads =
      next_reachable (IsRootOf g) (IsReferenceOf g) p o (path_there back p leads.1)
      ((pair_is_reference g p o).1 (subst (λ (ps : List (ℕ × ℕ)). Contains ps (p, o)) setup.pairs leads.0))

  pub exactly_marked :
      (w : Owner) (last : Marking) (marks : List ℕ) → w.book.setup ≡ e → w.book.account.open_push ≡ false → SawRoots w
      → MarksTell w.book last marks → MarksReachableOf g (map is_set marks)
  exactly_marked w last marks made closed_push saw tells = record {
    one_each = length-map marks is_set ∙ tells.count ∙ ap (λ (s : Setup). s.objects) made ∙ setup.objects;
    exact = λ o.
        let both = exactly_reachable (IsRootOf g) (IsReferenceOf g) holds closed roots sound o in
        (λ h. both.0 ((marked_where_set marks o).0 h), λ h. (marked_where_set marks o).1 (both.1 h));
  }
    where
      holds : ℕ → Type 0
      holds o = 1 ≤ slice_index marks o

      closed : (a b : ℕ) → holds a → IsReferenceOf g a b → holds b
      closed a b here refers =
          let pair : Contains (pairs_of g) (a, b) = (pair_is_reference g a b).0 refers in
          let there : Contains w.book.setup.pairs (a, b) =
          subst (λ (ps : List (ℕ × ℕ)). Contains ps (a, b)) (sym (ap (λ (s : Setup). s.pairs) made ∙ setup.pairs))
          pair in
          tells.successors a b (tells.emptied closed_push a here) there

      roots : (o : ℕ) → IsRootOf g o → holds o
      roots o root =
          let there : Contains w.book.setup.roots o =
          subst (λ (rs : List ℕ). Contains rs o) (sym (ap (λ (s : Setup). s.roots) made ∙ setup.roots)) root in
          tells.seen o (saw o there)

      sound : (o : ℕ) → holds o → IsReachable (IsRootOf g) (IsReferenceOf g) o
      sound o here =
          let path = subst (λ (s : Setup). colours.IsReachableIn s o) made (tells.reachable o here) in
          path_there path.0 o path.1
