-- What is read of the objects at their places is what their graph says of each of them.
use Rattle.heap_graph.proofs.Words.{AreLinkedOf, Bool, Class, ClassEntry, HaveFatesOf, IsPlanOf, List, Member}
use Rattle.heap_graph.proofs.Words.{ObjectGraph, Objects, Option, Plan, RowKey, SkipEntry, StandFor, SubRecord, ap}
use Rattle.heap_graph.proofs.Words.{bytes_at, heap_of, id_list_of, is_skipped, known_ids, map, references_in}
use Rattle.heap_graph.proofs.Words.{references_of, row_at, subst, sym, ℕ, ◌++◌, ◌∙◌, ◌≡◌}
use Rattle.heap_graph.specs.Walks.{step_in}
use Rattle.heap_graph.specs.working.ObjectVisits.{IsVisitOf}
use Rattle.heap_graph.proofs.Answering.{bytes_here, ids_here, references_here, row_here}
use Rattle.heap_graph.proofs.TargetLaws.{same_targets}
use Rattle.heap_graph.proofs.Walking.{targets_of_steps}

module _ {A : Type 0} {o : Objects A} {plan : Plan A} {roots : List ℕ} {classes : List ClassEntry} {unresolved : ℕ}
    {skip : List SkipEntry} where
  -- parts that make up the graph `inside` make up the same graph as it is seen, `now`
  pub seen : {inside now : ObjectGraph} → inside ≡ now → StandFor o plan roots classes unresolved skip inside
      → StandFor o plan roots classes unresolved skip now
  seen e stand = subst (StandFor o plan roots classes unresolved skip) e stand

  module _ {g : ObjectGraph}
      (stand : StandFor o plan roots classes unresolved skip g) {n : ℕ} {row : RowKey} {bytes : ℕ}
      {class : Option ℕ} {ids : List ℕ}
      (read : (skips : Class → Member → Bool) (heap : List SubRecord) → AreLinkedOf o heap → HaveFatesOf o heap
      → IsPlanOf skips o heap plan → IsVisitOf skips o heap n row bytes class ids) where
    pub visit_read : IsVisitOf (is_skipped stand.records skip) o (heap_of stand.records) n row bytes class ids
    visit_read = read _ (heap_of stand.records) stand.linked stand.fates stand.planned

    pub row_read : row ≡ row_at g n
    row_read = let it = visit_read in it.row_is ∙ sym (row_here stand.graph n it.object it.is)

    pub bytes_read : bytes ≡ bytes_at g n
    bytes_read = let it = visit_read in it.bytes_is ∙ sym (bytes_here stand.graph n it.object it.is)

    -- the identifiers that it holds, and the steps over them
    pub steps_read : map (step_in o.index) (known_ids o.index class ++ ids) ≡ map (step_in g.ids) (id_list_of g n)
    steps_read =
        let it = visit_read in
        ap (λ (xs : List ℕ). map (step_in o.index) xs) (ids_here stand.graph n _ it.is _ it.ids_are.are)
        ∙ ap (λ (all : List ℕ). map (step_in all) (id_list_of g n)) (stand.linked.are.ids_are ∙ sym stand.graph.ids_are)

    pub references_read : references_in (map (step_in o.index) (known_ids o.index class ++ ids)) ≡ references_of g n
    references_read =
        let it = visit_read in
        let all = known_ids o.index class ++ ids in
        targets_of_steps o.index all ∙ same_targets (heap_of stand.records) o.index all stand.linked.are.ids_are
        ∙ references_here stand.graph n _ it.is all it.ids_are.are
